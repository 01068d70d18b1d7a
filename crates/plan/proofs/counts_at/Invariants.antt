-- `plan::counts_at` meets its contract. The loop's invariant: the counts are those of the border that it has come to.
use mathlib.Core.Path.{◌≡◌}
use Rattle.plan.specs.Plan.{counts_at}
use Rattle.plan.proofs.counts_at.Given as goal

abbrev pub invariant-loop-k : goal.invariant-loop-k
invariant-loop-k l = l.counts ≡ counts_at l.fn.p l.k-index
