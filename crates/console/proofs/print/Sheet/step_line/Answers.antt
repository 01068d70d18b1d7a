-- `Sheet::step_line` meets its promise: its six pieces one after the other are the line.
use borrow.Author.Rules.{rules}
use native.Mathlib.Omega.{arith}
use Rattle.lines.specs.Lines.{bytes}
use mathlib.Core.List.{List, [], ◌∷◌, ◌++◌}
use mathlib.Core.Path.{ap}
use Prim.Native.Nat.{ℕ}
use mir.Facts.{to_z-of_z}
use mir.Syntax.{w32}
use Rattle.console.specs.Sheet.{puts_within, puts_then, puts_is}
use Rattle.console.specs.Printed.{five_values}
use Rattle.console.proofs.Signed.{closed_same}
use Rattle.console.proofs.print.Sheet.step_line.Goals as goal

pub returns : goal.returns
returns c =
    let choice = c.args.choice.now in
    let slot = rw c.from.ensures at c.value.ensures in
    let job = rw (c.from-2.ensures, c.job_number.ensures) at c.value-2.ensures in
    let letter = puts_is (ap (λ (w : List ℕ). w ++ 44 ∷ []) c.phase_letter.ensures) c.letter.ensures in
    let hi = puts_is (closed_same _ (to_z-of_z {w = w32} {z = choice.hi} (search rules))) c.spare.ensures in
    let lo = puts_is (closed_same _ (to_z-of_z {w = w32} {z = choice.lo} (record { sfits = omega arith }))) c.spare-2.ensures in
    let four = puts_then (puts_then (puts_then c.key.ensures slot) job) letter in
    puts_is (five_values (bytes "step=") _ _ _ _ _) (puts_within (puts_then (puts_then four hi) lo) (omega arith))
