-- `check9` meets its contract. The invariant: the answer from this border on is the whole answer.
use Rattle.std.proofs.Common.{◌≡◌, ◌-◌}
use Rattle.acceptance.specs.Acceptance.{check9}
use Rattle.acceptance.specs.Borders.{overdrawn_from}
use Rattle.acceptance.proofs.along.Laid.check9.Given as goal

abbrev pub invariant-loop-b : goal.invariant-loop-b
invariant-loop-b l = (l.from.of.now ≡ l.fn.self) × (overdrawn_from l.from.of.now.plan.now l.from.t ≡ check9 l.from.of.now.plan.now)

abbrev pub decreases-loop-b : goal.decreases-loop-b
decreases-loop-b l = l.from.of.now.plan.now.slots - l.from.t
