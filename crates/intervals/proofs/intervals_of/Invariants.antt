-- `intervals::intervals_of` meets its contract. The loop's invariant: what is laid out, and what the deadlines above the last end still add, are all.
use Rattle.std.proofs.Common.{◌-◌, ◌≤◌}
use Rattle.intervals.specs.Laid.{LaidTo}
use Rattle.intervals.proofs.intervals_of.Given as goal

abbrev pub invariant-loop-e : goal.invariant-loop-e
invariant-loop-e l = (l.prev ≤ l.slots) × LaidTo l.job l.slots l.layout l.prev

abbrev pub decreases-loop-e : goal.decreases-loop-e
decreases-loop-e l = l.slots - l.prev
