-- The answers of acceptance and of the analysis: answer 0 is the answer Accepted, and the analysis answers what acceptance does.
use Rattle.std.specs.Prelude.{ℕ, suc, ◌≡◌, Bool, List, [], ◌∷◌}
use Rattle.std.proofs.Math.Path.{refl}
use Rattle.std.proofs.Common.{sym, ◌∙◌}
use Rattle.std.proofs.Math.Bool.{true, false, not}
use Rattle.words.specs.Words.{below0}
use Rattle.words.specs.Cases.{never}
use Rattle.answers.specs.Answer.{Answer, Accepted, Overdrawn, accepted, ◌unless◌, ◌and_then◌, first_refusal}
use Rattle.answers.specs.RefusalLaws.{both_accept}
use Rattle.plan.specs.declared.Plan.{Plan}
use Rattle.plan.specs.Plan.{slots_of}
use Rattle.spares.specs.Spares.{row, current}
use Rattle.acceptance.specs.Acceptance.{along_table, check9, acceptance}
use Rattle.acceptance.specs.Analysis.{analysis}
use Rattle.well_formed.specs.WellFormed.{well_formed}
use Rattle.window_sums.specs.WindowSums.{check8}

-- the answer that accepts is accepted
pub is_accepted : (a : Answer) → a ≡ Accepted → accepted a ≡ true
unfolding accepted
is_accepted a e = rw e

-- along a list, where each member's answer 0 is the answer Accepted
first_accepted : {A : Type 0} (judge : ℕ → A → Answer) → ((k : ℕ) (x : A) → accepted (judge k x) ≡ true → judge k x ≡ Accepted)
    → (k : ℕ) (xs : List A) → accepted (first_refusal judge k xs) ≡ true → first_refusal judge k xs ≡ Accepted
unfolding first_refusal
first_accepted judge each k [] h = refl
first_accepted judge each k (x ∷ xs) h =
    let b = both_accept (judge k x) (first_refusal judge (suc k) xs) h in
    rw b.0 (first_accepted judge each (suc k) xs b.1)

-- of a rule with a refusal
unless_accepted : (refusal : Answer) (holds : Bool) → accepted refusal ≡ false → accepted (refusal unless holds) ≡ true → (refusal unless holds) ≡ Accepted
unless_accepted refusal true r h = refl
unless_accepted refusal false r h = absurd (never h r)

module _ (p : Plan) where
  -- of acceptance: its last check decides
  pub acceptance_accepted : accepted (acceptance p) ≡ true → acceptance p ≡ Accepted
  unfolding acceptance check9 accepted
  acceptance_accepted h =
      let a = both_accept (well_formed p) (check8 p and_then check9 p) h in
      let b = both_accept (check8 p) (check9 p) a.1 in
      rw (a.0, b.0)
      (first_accepted (λ t _. Overdrawn t unless not (below0 (current p t (row p t (along_table p t)))))
      (λ t _. unless_accepted (Overdrawn t) (not (below0 (current p t (row p t (along_table p t))))) refl) 0 (slots_of p) b.1)

  -- the analysis answers what acceptance does
  pub analysis_answer : (analysis p).answer ≡ acceptance p
  unfolding analysis
  analysis_answer = go (accepted (acceptance p)) refl
    where
      go : (b : Bool) → accepted (acceptance p) ≡ b → (analysis p).answer ≡ acceptance p
      go true e = rw e (sym (acceptance_accepted e))
      go false e = rw e

  -- so where it accepts, acceptance does
  pub analysis_accepts : (analysis p).answer ≡ Accepted → accepted (acceptance p) ≡ true
  analysis_accepts e = is_accepted (acceptance p) (sym analysis_answer ∙ e)
