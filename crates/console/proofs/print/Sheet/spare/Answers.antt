-- `Sheet::spare` meets its promise: the sign where the spare is below 0, and its size.
use native.Mathlib.Omega.{arith}
use mathlib.Core.Path.{sym, ◌∙◌}
use mir.Facts.{to_z-of_z}
use mir.Syntax.{w32}
use Rattle.console.specs.Sheet.{puts_within, puts_then, puts_is}
use Rattle.console.proofs.Signed.{below_zero, spare_below, spare_from_zero}
use Rattle.console.proofs.print.Sheet.spare.Goals as goal

pub returns-then-z-lt0 : goal.returns-then-z-lt0
returns-then-z-lt0 c =
    puts_is (spare_below _ _ _ _ (to_z-of_z {w = w32} c.ranges.z) c.unsigned_abs-size.ensures.value (sym (below_zero _) ∙ c.if-z-lt0.true)) (puts_then c.key.ensures c.value.ensures)

pub returns : goal.returns
returns c =
    puts_is (spare_from_zero _ _ _ _ (to_z-of_z {w = w32} c.ranges.z) c.unsigned_abs-size.ensures.value (sym (below_zero _) ∙ c.if-z-lt0.false)) (puts_within c.value-2.ensures (omega arith))
