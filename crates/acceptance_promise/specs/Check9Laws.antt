-- Check 9 passes exactly when A2 holds; a refusal shows a border by which too much may be asked. With check 8: what acceptance promises.
use Rattle.std.specs.Prelude.{ℕ, ◌-◌, ◌<◌, ◌≡◌, ◌⊎◌, ◌↔◌, true, false, length}
use Rattle.std.proofs.Common.{arith, inl, inr, ⊎_elim}
use Rattle.std.proofs.Math.Path.{refl}
use Rattle.std.proofs.Math.Bool.{not}
use Rattle.std.proofs.Math.ListN.{get_or}
use borrow.Author.Tests.{not-true, not-false}
use Rattle.words.specs.Cases.{by_test, never}
use Rattle.answers.specs.Answer.{Overdrawn, accepted, ◌unless◌, ◌and_then◌}
use Rattle.windows.specs.Windows.{due_by, within}
use Rattle.windows.specs.WindowLaws.{due_mono}
use Rattle.plan.specs.declared.Plan.{Plan}
use Rattle.plan.specs.Limits.{max_slots, max_jobs}
use Rattle.plan.specs.Plan.{slots_of}
use Rattle.well_formed.specs.WellFormed.{well_formed}
use Rattle.window_sums.specs.WindowSums.{check8}
use Rattle.acceptance.specs.Acceptance.{along_table, check9, acceptance}
use Rattle.acceptance.specs.Borders.{overdrawn}
use Rattle.acceptance.specs.AlongLaws.{along_asked, along_ahead, along_exactly}
use Rattle.well_formed.specs.InOrder.{InOrder}
use Rattle.spare_theory.specs.Promise.{windows_of, hi_of, asked, A1, A2}
use Rattle.answers.specs.RefusalLaws.{both_accept, one_refused, unless_holds, unless_fails, each_accepted, some_refused}
use Rattle.well_formed.specs.InOrderLaws.{in_order, slots_length}
use Rattle.spare_theory.specs.SpareLaws.{below_shows}
use Rattle.acceptance_promise.specs.Check8Laws.{a1_holds, a1_broken}

module _ (p : Plan) (ok : InOrder p) where
  -- check 9 passes: A2 holds
  pub a2_holds : accepted (check9 p) ≡ true → A2 p
  unfolding check9 accepted
  a2_holds passes t before =
      let h = each_accepted (λ t _. Overdrawn t unless not (overdrawn p t)) 0 0 (slots_of p) passes t (rw (slots_length p ok) before) t (omega arith) in
      (along_exactly p ok t before).0 (not-true (overdrawn p t) (unless_holds (Overdrawn t) (not (overdrawn p t)) refl h))

  -- check 9 refuses: at some border too much may be asked
  pub a2_broken : accepted (check9 p) ≡ false → (t e : ℕ) × (t < p.slots) × (e - t < due_by (windows_of p) (asked p t) e)
  unfolding check9
  a2_broken refused =
      let x = some_refused (λ t _. Overdrawn t unless not (overdrawn p t)) 0 0 (slots_of p) refused in
      let t = x.1 in
      let before : t < p.slots = (let l = rw (slots_length p ok) at x.2 in omega (arith, x.3)) in
      let low = not-false (overdrawn p t) (unless_fails (Overdrawn t) (not (overdrawn p t)) x.4) in
      let s = below_shows p ok (along_table p t) t before (along_ahead p ok t before) low in
      (t, s.0, before, omega (arith, s.1, due_mono (windows_of p) (asked p t) (λ k. get_or (along_table p t) k 0) (λ k l. omega (arith, along_asked p ok t k l)) s.0))

  -- A2: check 9 passes exactly when at no border too much may be asked along the table
  pub a2_exactly : (accepted (check9 p) ≡ true) ↔ A2 p
  a2_exactly = (a2_holds, λ a2. by_test (accepted (check9 p)) (λ h. h) (λ h. absurd (let x = a2_broken h in let m = a2 x.0 x.2 x.1 in omega (arith, x.3))))

-- ---- what acceptance promises
-- an accepted plan is in order, and A1 and A2 hold
pub accepted_promise : (p : Plan) → length p.job ≡ max_jobs → length p.table ≡ max_slots → accepted (acceptance p) ≡ true → InOrder p × A1 p × A2 p
unfolding acceptance
accepted_promise p longJob longTable h =
    let a = both_accept (well_formed p) (check8 p and_then check9 p) h in
    let b = both_accept (check8 p) (check9 p) a.1 in
    let ok = in_order p longJob longTable a.0 in
    (ok, a1_holds p ok b.0, a2_holds p ok b.1)

-- a plan in order that is refused breaks A1 or A2
pub refused_promise : (p : Plan) → InOrder p → accepted (well_formed p) ≡ true → accepted (acceptance p) ≡ false
    → ((a b : ℕ) × (b - a < within (windows_of p) (hi_of p) a b)) ⊎ ((t e : ℕ) × (t < p.slots) × (e - t < due_by (windows_of p) (asked p t) e))
unfolding acceptance
refused_promise p ok passes h =
    ⊎_elim
    (λ w. absurd (never passes w))
    (λ w. ⊎_elim (λ x. inl (a1_broken p ok x)) (λ x. inr (a2_broken p ok x)) (one_refused (check8 p) (check9 p) w))
    (one_refused (well_formed p) (check8 p and_then check9 p) h)
