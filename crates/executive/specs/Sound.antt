-- What the steps of a run rely on: all the places of its arrays, and facts that a coherent run before its last border has (CoherentLaws).
-- No other use.
use Rattle.std.specs.Prelude.{◌≡◌, ◌≤◌, ◌<◌, length}
use Rattle.plan.specs.Limits.{max_slots, max_jobs}
use Rattle.plan.specs.Counts.{max_count}
use Rattle.plan.specs.Plan.{table_at}
use Rattle.executive.specs.declared.Run.{Run}
use Rattle.ready.specs.declared.Slot.{Slot}
use Rattle.executive.specs.Run.{entry_no}

-- n is within its limit, slot t within the table, and what the table names there within the jobs
pub record Sound (r : Run) : Type 0 where
  pub few : r.plan.jobs ≤ max_jobs
  pub border : r.t < max_slots
  pub named : table_at r.plan r.t ≤ max_jobs

-- a slot's job is one of the array, and has not had so many slots that one more could not be counted
abbrev pub Countable : Run → Slot → Type 0
Countable r Slot.Idle = Unit {0}
Countable r (Slot.Job k) = (k ≤ max_jobs) × ((entry_no r k).given < max_count)

-- a run whose arrays have all their places
pub record Whole (r : Run) : Type 0 where
  pub table : length r.plan.table ≡ max_slots
  pub jobs : length r.plan.job ≡ max_jobs
  pub entries : length r.entry ≡ max_jobs
