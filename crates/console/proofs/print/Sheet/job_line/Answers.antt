-- `Sheet::job_line` meets its promise: its four pieces one after the other are the line.
use native.Mathlib.Omega.{arith}
use Rattle.lines.specs.Lines.{bytes}
use mathlib.Core.List.{List, [], ◌∷◌, ◌++◌}
use mathlib.Core.Path.{ap}
use Prim.Native.Nat.{ℕ}
use Rattle.console.specs.Sheet.{puts_within, puts_then, puts_is}
use Rattle.console.specs.Printed.{three_values}
use Rattle.console.proofs.print.Sheet.job_line.Goals as goal

pub returns : goal.returns
returns c =
    let letter = puts_is (ap (λ (w : List ℕ). w ++ 44 ∷ []) c.standing_letter.ensures) c.letter.ensures in
    let three = puts_then (puts_then c.key.ensures c.value.ensures) letter in
    puts_is (three_values (bytes "job=") _ _ _) (puts_within (puts_then three (rw c.from.ensures at c.value-2.ensures)) (omega arith))
