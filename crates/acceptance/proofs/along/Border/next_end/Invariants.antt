-- `next_end` meets its contract. The invariant: no slot from the first border to this one is the last of a HI job.
use Rattle.std.proofs.Common.{◌≡◌, ◌≤◌, ◌-◌}
use Rattle.acceptance.specs.Borders.{NoneEnds}
use Rattle.acceptance.proofs.along.Border.next_end.Given as goal

abbrev pub invariant-loop-b : goal.invariant-loop-b
invariant-loop-b l = (l.b.of ≡ l.initial.b.of) × (l.initial.b.t ≤ l.b.t) × NoneEnds l.b.of.now.plan.now l.initial.b.t l.b.t

abbrev pub decreases-loop-b : goal.decreases-loop-b
decreases-loop-b l = l.b.of.now.plan.now.slots - l.b.t
