-- Demand 3's last sentence leaves one verdict: whoever refuses exactly the hopeless plans, refuses exactly those that the analysis refuses.
-- Each sham analysis is shut out by one half of the sentence alone.
use Rattle.std.specs.Prelude.{ℕ, ◌≡◌, refl, ◌↔◌, Bool, true, false}
use Rattle.std.proofs.Common.{arith}
use Rattle.words.specs.Cases.{never}
use Rattle.answers.specs.Answer.{Accepted, Overdrawn}
use Rattle.plan.specs.declared.Plan.{Plan}
use Rattle.acceptance.specs.Analysis.{analysis}
use Rattle.acceptance_promise.specs.Plans.{A, B}
use Rattle.acceptance_promise.specs.Compute.{planned}
use Rattle.exact.specs.Hopeless.{HopelessUnderSome}
use Rattle.exact.specs.Exact.{demand_3c}
use Rattle.well_formed.specs.WellFormed.{well_formed}
use Rattle.well_formed.specs.InOrder.{Sized}

-- a verdict on plans, of those that pass 2 to 7 and 17: it refuses none wrongly, it accepts none wrongly
abbrev pub RefusesOnlyHopeless : (Plan → Bool) → Type 0
RefusesOnlyHopeless verdict = (p : Plan) → Sized p → well_formed p ≡ Accepted → verdict p ≡ false → HopelessUnderSome p

abbrev pub RefusesEveryHopeless : (Plan → Bool) → Type 0
RefusesEveryHopeless verdict = (p : Plan) → Sized p → well_formed p ≡ Accepted → HopelessUnderSome p → verdict p ≡ false

-- with both halves it refuses what the analysis refuses, and nothing else
pub one_verdict : (verdict : Plan → Bool) → RefusesOnlyHopeless verdict → RefusesEveryHopeless verdict
    → (p : Plan) → Sized p → well_formed p ≡ Accepted → (verdict p ≡ false) ↔ ((analysis p).answer ≡ Accepted → ⊥)
one_verdict verdict only every p sized passes =
    let theirs = demand_3c p sized passes in
    (λ e. theirs.1 (only p sized passes e), λ e. every p sized passes (theirs.0 e))

-- one that refuses every plan refuses A, which is accepted
pub not_every_plan_refused : (verdict : Plan → Bool) → RefusesOnlyHopeless verdict → ((p : Plan) → verdict p ≡ false) → ⊥
unfolding planned
not_every_plan_refused verdict only refuses = (demand_3c A (refl, refl) refl).1 (only A (refl, refl) refl (refuses A)) refl

-- one that accepts every plan accepts B(3), which is refused
pub not_every_plan_accepted : (verdict : Plan → Bool) → RefusesEveryHopeless verdict → ((p : Plan) → verdict p ≡ true) → ⊥
unfolding planned
not_every_plan_accepted verdict every accepts = never (accepts (B 3)) (every (B 3) (refl, refl) refl ((demand_3c (B 3) (refl, refl) refl).0 refused))
  where
    refused : (analysis (B 3)).answer ≡ Accepted → ⊥
    refused e =
        let w : Overdrawn 2 ≡ Accepted = e in
        let z : ◌≡◌ {A = ℕ} 0 1 = cc w in
        omega arith
