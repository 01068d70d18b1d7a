-- Intervals end to end, with no deadline inside one: what the spares need to know of a plan's intervals. Definitions only.
use Rattle.std.specs.Prelude.{ℕ, ◌≤◌, ◌<◌, ◌≡◌, List, [], ◌∷◌}
use Rattle.plan.specs.declared.Plan.{Plan}
use Rattle.intervals.specs.declared.Interval.{Interval}
use Rattle.well_formed.specs.InOrder.{job_at}

-- no deadline lies after a and before b
abbrev pub Quiet : Plan → ℕ → ℕ → Type 0
Quiet p a b = (k : ℕ) → k < p.jobs → a < (job_at p k).deadline → b ≤ (job_at p k).deadline

-- from border a to N the intervals stand end to end, none is empty, and no deadline lies inside one
pub data Chain (p : Plan) : ℕ → List Interval → Type 0 where
  done : {a : ℕ} → a ≡ p.slots → Chain p a []
  link : {a : ℕ} {x : Interval} {xs : List Interval} → x.start ≡ a → a < x.end → Quiet p a x.end → Chain p x.end xs → Chain p a (x ∷ xs)
