-- `Sheet::interval_line` meets its promise: its five pieces one after the other are the line.
use native.Mathlib.Omega.{arith}
use Rattle.lines.specs.Lines.{bytes}
use mir.Facts.{to_z-of_z}
use mir.Syntax.{w32}
use Rattle.console.specs.Sheet.{puts_within, puts_then, puts_is}
use Rattle.console.specs.Printed.{four_values}
use Rattle.console.proofs.Signed.{closed_same}
use Rattle.console.proofs.print.Sheet.interval_line.Goals as goal

pub returns : goal.returns
returns c =
    let hi = puts_is (closed_same _ (to_z-of_z {w = w32} c.ranges.hi)) c.spare.ensures in
    let lo = puts_is (closed_same _ (to_z-of_z {w = w32} c.ranges.lo)) c.spare-2.ensures in
    let two = puts_then c.key.ensures (rw c.from.ensures at c.value.ensures) in
    let three = puts_then two (rw c.from-2.ensures at c.value-2.ensures) in
    puts_is (four_values (bytes "interval=") _ _ _ _) (puts_within (puts_then (puts_then three hi) lo) (omega arith))
