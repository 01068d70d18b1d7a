-- `spares::debt::in_debt` meets its contract. The loop's invariant: the debt is that of the intervals from place i on.
use Rattle.std.proofs.Common.{◌≡◌, ◌≤◌, ◌-◌, ◌*◌, drop, length}
use Rattle.spares.specs.Debt.{max_sum, debt_from, of_sums}
use Rattle.spares.proofs.debt.in_debt.Given as goal

abbrev pub invariant-loop-i : goal.invariant-loop-i
invariant-loop-i l = (l.i-start ≤ l.i) × (l.debt ≤ (length l.listed - l.i) * max_sum) × (l.debt ≡ debt_from l.t l.i (of_sums l.sums) (drop l.i l.listed))
