-- `spares::row_of` meets its contract. The loop's invariant: the row from place i on is made, and the debt is that of the intervals from there on.
use Rattle.spares.specs.Debt.{RowSoFar}
use Rattle.spares.proofs.row_of.Given as goal

abbrev pub invariant-loop-i : goal.invariant-loop-i
invariant-loop-i l = RowSoFar l.t l.l.home l.work l.listed l.row l.debt l.i
