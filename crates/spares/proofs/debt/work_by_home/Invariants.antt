-- `spares::debt::work_by_home` meets its contract. The loop's invariant: a place's sum and the work still to come for it are all its work.
use Rattle.spares.specs.Debt.{SumsSoFar}
use Rattle.spares.proofs.debt.work_by_home.Given as goal

abbrev pub invariant-loop-k : goal.invariant-loop-k
invariant-loop-k l = SumsSoFar l.home l.work l.sums l.k
