-- The main statements of the acceptance promise: S1, S2, A1, A2, and what an accepted and a refused plan have. Nothing here but statements: each is proved by the law that it cites.
use Rattle.std.specs.Prelude.{ℕ, ◌+◌, ◌-◌, ◌≤◌, ◌<◌, ◌≡◌, ◌⊎◌, ◌↔◌, true, false, List, get_or}
use Rattle.words.specs.Words.{below0, above0}
use Rattle.answers.specs.Answer.{accepted}
use Rattle.windows.specs.Windows.{due_by, within, InTime}
use Rattle.plan.specs.declared.Plan.{Plan}
use Rattle.intervals.specs.Intervals.{intervals}
use Rattle.spares.specs.Spares.{row, current}
use Rattle.acceptance.specs.Acceptance.{check9, acceptance}
use Rattle.well_formed.specs.WellFormed.{well_formed}
use Rattle.window_sums.specs.WindowSums.{check8}
use Rattle.well_formed.specs.InOrder.{job_at, InOrder, Sized}
use Rattle.spare_theory.specs.Promise.{windows_of, hi_of, asked, A1, A2, NoEnd}
use Rattle.spare_theory.specs.Chain.{Quiet, Chain}
use Rattle.spare_theory.specs.Spares.{Least, current_end}
use Rattle.well_formed.specs.InOrderLaws.{in_order}
use Rattle.spare_theory.specs.ChainLaws.{intervals_chain}
use Rattle.spare_theory.specs.SpareLaws.{spare_least, not_below_exactly, above_exactly}
use Rattle.spare_theory.specs.TableLaws.{a1_of_a2}
use Rattle.spare_theory.specs.WorseLaws.{worse}
use Rattle.acceptance_promise.specs.Check8Laws.{a1_exactly}
use Rattle.acceptance_promise.specs.Check9Laws.{a2_exactly, accepted_promise, refused_promise}

-- a plan record that passes 2 to 7 and 17 is in order
pub passes_in_order : (p : Plan) → Sized p → accepted (well_formed p) ≡ true → InOrder p
passes_in_order p sized = in_order p sized.0 sized.1

module _ (p : Plan) (ok : InOrder p) where
  -- the intervals cover 0 to N end to end, and no deadline lies inside one
  pub intervals_cover : Chain p 0 (intervals p)
  intervals_cover = intervals_chain p ok

  -- the spares, of any list of work at a border t < N
  module _ (ws : List ℕ) (t : ℕ) (before : t < p.slots) where
    -- S1: the current spare is the least, over the borders e from the end of the current interval on, of e - t less the work due after t and by e;
    -- that end is after t, and no deadline lies between
    pub S1 : (t < current_end p t) × Quiet p t (current_end p t) × Least p ws t (current_end p t) (intervals p) (current p t (row p t ws))
    S1 = spare_least p ok ws t before

    -- S2, no work being due at or before t: the current spare is not below 0 exactly when for all e the work due by e is e - t at most,
    pub S2_not_below : ((k : ℕ) → k < p.jobs → (job_at p k).deadline ≤ t → get_or ws k 0 ≡ 0)
        → (below0 (current p t (row p t ws)) ≡ false) ↔ InTime (windows_of p) t (λ k. get_or ws k 0)
    S2_not_below = not_below_exactly p ok ws t before

    -- and above 0 exactly when it is e - (t + 1) at most
    pub S2_above : ((k : ℕ) → k < p.jobs → (job_at p k).deadline ≤ t → get_or ws k 0 ≡ 0)
        → (above0 (current p t (row p t ws)) ≡ true) ↔ InTime (windows_of p) (t + 1) (λ k. get_or ws k 0)
    S2_above = above_exactly p ok ws t before

  -- check 8 passes exactly when A1 holds
  pub A1_exactly : (accepted (check8 p) ≡ true) ↔ A1 p
  A1_exactly = a1_exactly p ok

  -- check 9 passes exactly when A2 holds
  pub A2_exactly : (accepted (check9 p) ≡ true) ↔ A2 p
  A2_exactly = a2_exactly p ok

  -- between two ends of HI jobs along the table the condition of A2 only gets worse: where it fails at t and no HI job ends in slot t, it fails at t + 1
  pub A2_worse : (t : ℕ) → NoEnd p t (t + 1) → (InTime (windows_of p) t (asked p t) → ⊥) → InTime (windows_of p) (t + 1) (asked p (t + 1)) → ⊥
  A2_worse = worse p ok

  -- A1 follows from A2: check 8 can never fail alone
  pub A1_of_A2 : A2 p → A1 p
  A1_of_A2 = a1_of_a2 p ok

-- an accepted plan is in order, and A1 and A2 hold
pub accepted_has : (p : Plan) → Sized p → accepted (acceptance p) ≡ true → InOrder p × A1 p × A2 p
accepted_has p sized = accepted_promise p sized.0 sized.1

-- a plan in order that is refused breaks A1 or A2, at places that are found
pub refused_has : (p : Plan) → InOrder p → accepted (well_formed p) ≡ true → accepted (acceptance p) ≡ false
    → ((a b : ℕ) × (b - a < within (windows_of p) (hi_of p) a b)) ⊎ ((t e : ℕ) × (t < p.slots) × (e - t < due_by (windows_of p) (asked p t) e))
refused_has = refused_promise
