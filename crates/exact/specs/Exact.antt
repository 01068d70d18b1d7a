-- Demand 3, last sentence, proved: a plan that passes 2 to 7 and 17 is refused by the analysis exactly when some needs make it hopeless. And without an overrun the table run serves.
use Rattle.std.specs.Prelude.{ℕ, ◌-◌, ◌<◌, ◌≡◌, true, false, List, length}
use Rattle.std.proofs.Common.{arith, ◌∙◌, ⊎_elim}
use Rattle.words.specs.Cases.{by_test}
use Rattle.answers.specs.Answer.{Accepted, accepted}
use Rattle.windows.specs.Windows.{due_by, within}
use Rattle.plan.specs.declared.Plan.{Plan}
use Rattle.acceptance.specs.Acceptance.{acceptance}
use Rattle.acceptance.specs.Analysis.{analysis}
use Rattle.acceptance_promise.specs.AnswerLaws.{is_accepted, acceptance_accepted, analysis_answer, analysis_accepts}
use Rattle.acceptance_promise.specs.Laws.{passes_in_order, accepted_has, refused_has}
use Rattle.exact.specs.Hopeless.{Needs, table_run, slots_by, OverrunsAt, FirstOverrun, Serves, Hopeless, HopelessUnderSome, Demand3c, Demand3cRefused, Demand3cAccepted, TableRunServes}
use Rattle.exact.specs.ExactRun.{slots_by_long, first_overrun, run_serves}
use Rattle.exact.specs.ExactRefused.{worst, worst_hopeless}
use Rattle.exact.specs.ExactAccepted.{order_found}
use Rattle.well_formed.specs.WellFormed.{well_formed}
use Rattle.well_formed.specs.InOrder.{Sized, InOrder}
use Rattle.spare_theory.specs.Promise.{windows_of, hi_of, asked}
use Rattle.spare_theory.specs.TableLaws.{within_asked}

-- no plan is refused wrongly
pub demand_3c_refused : Demand3cRefused
demand_3c_refused p sized passes refused = ⊎_elim overfull overdrawn (refused_has p ok passed not_accepted)
  where
    passed : accepted (well_formed p) ≡ true
    passed = is_accepted (well_formed p) passes

    ok : InOrder p
    ok = passes_in_order p sized passed

    not_accepted : accepted (acceptance p) ≡ false
    not_accepted = by_test (accepted (acceptance p)) (λ h. absurd (refused (analysis_answer p ∙ acceptance_accepted p h))) (λ h. h)

    overdrawn : (t e : ℕ) × (t < p.slots) × (e - t < due_by (windows_of p) (asked p t) e) → HopelessUnderSome p
    overdrawn x = let w = worst_hopeless p x.0 x.1 ok x.3 in (worst p x.0 x.1, w.0, w.1)

    -- where the window from a to b is overfull, too much may be asked at border a
    overfull : (a b : ℕ) × (b - a < within (windows_of p) (hi_of p) a b) → HopelessUnderSome p
    overfull x = let w = worst_hopeless p x.0 x.1 ok (omega (arith, x.2, within_asked p ok x.0 x.1)) in (worst p x.0 x.1, w.0, w.1)

-- no plan is accepted wrongly
pub demand_3c_accepted : Demand3cAccepted
demand_3c_accepted p sized accepts need needs t first =
    let a = accepted_has p sized (analysis_accepts p accepts) in
    order_found p need a.0 needs t first a.2

-- so no needs make an accepted plan hopeless
pub not_hopeless : (p : Plan) → Sized p → (analysis p).answer ≡ Accepted → (need : ℕ → ℕ) → Needs p need → Hopeless p need → ⊥
not_hopeless p sized accepts need needs h =
    let o = demand_3c_accepted p sized accepts need needs h.0 h.1 in
    h.2 o.0 o.2 o.3

-- refused exactly when hopeless
pub demand_3c : Demand3c
demand_3c p sized passes = (demand_3c_refused p sized passes, λ h accepts. not_hopeless p sized accepts h.0 h.1 h.2)

-- without an overrun the table run itself gives every HI job its need in its window
pub table_run_serves : TableRunServes
table_run_serves p sized passes need none = run_serves p need (passes_in_order p sized (is_accepted (well_formed p) passes)) none

-- so an accepted plan can be served whatever the needs: by the table run where that does not overrun, else by the order that goes on from its first overrun
pub always_served : (p : Plan) → Sized p → (analysis p).answer ≡ Accepted → (need : ℕ → ℕ) → Needs p need → (order : List ℕ) × (length order ≡ p.slots) × Serves p need order
always_served p sized accepts need needs = ⊎_elim overruns serves (first_overrun p need)
  where
    overruns : (t : ℕ) × FirstOverrun p need t → (order : List ℕ) × (length order ≡ p.slots) × Serves p need order
    overruns (t, first) = let o = demand_3c_accepted p sized accepts need needs t first in (o.0, o.2.0, o.3)

    serves : ((t : ℕ) → OverrunsAt p need t → ⊥) → (order : List ℕ) × (length order ≡ p.slots) × Serves p need order
    serves none = (slots_by p (table_run p need), slots_by_long p (table_run p need), run_serves p need (accepted_has p sized (analysis_accepts p accepts)).0 none)
