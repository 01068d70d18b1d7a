-- `Sheet::refused_line` meets its promise: its pieces one after the other are the line, by the number of places.
use native.Mathlib.Omega.{arith}
use Rattle.console.specs.Sheet.{puts_within, puts_then, puts_is}
use Rattle.console.specs.Printed.{refused_one, refused_two}
use Rattle.console.proofs.print.Sheet.refused_line.Goals as goal

pub returns-in-Overfull : goal.returns-in-Overfull
returns-in-Overfull c =
    let two = puts_then c.key.ensures (rw c.from.ensures at c.value.ensures) in
    let three = puts_then two (rw c.from-in-Overfull.ensures at c.value-in-Overfull.ensures) in
    let whole = puts_then three (rw c.from-in-Overfull-2.ensures at c.value-in-Overfull-2.ensures) in
    puts_is (refused_two _ _ c.number_of-number.ensures _ _ c.in-Overfull.is) (puts_within whole (omega arith))

pub returns-in_default : goal.returns-in_default
returns-in_default c =
    let two = puts_then c.key.ensures (rw c.from.ensures at c.value.ensures) in
    let whole = puts_then two c.value-in_default.ensures in
    puts_is (refused_one _ _ c.number_of-number.ensures c.in_default.not-Overfull _ c.first_place.ensures) (puts_within whole (omega arith))
