-- `first_short` meets its contract. The invariant: the answer from this border on is the answer from the first one on.
use Rattle.std.proofs.Common.{◌≡◌, ◌-◌}
use Rattle.acceptance.specs.Borders.{overdrawn_from}
use Rattle.acceptance.proofs.along.Border.first_short.Given as goal

abbrev pub invariant-loop-b : goal.invariant-loop-b
invariant-loop-b l = (l.b.of ≡ l.initial.b.of) × (overdrawn_from l.b.of.now.plan.now l.b.t ≡ overdrawn_from l.initial.b.of.now.plan.now l.initial.b.t)

abbrev pub decreases-loop-b : goal.decreases-loop-b
decreases-loop-b l = l.b.of.now.plan.now.slots - l.b.t
