-- `check::put_interval_lines` meets its promise. The invariant: the lines of the intervals passed are on the sheet.
use Prim.Native.Nat.{◌*◌}
use mathlib.Core.Path.{◌≡◌}
use lib.ListN.{length, take}
use Rattle.console.specs.Check.{interval_lines}
use Rattle.console.specs.Pieces.{longest}
use Rattle.console.specs.Sheet.{Puts}
use Rattle.console.proofs.check.put_interval_lines.Given as goal

abbrev pub invariant-loop-i : goal.invariant-loop-i
invariant-loop-i l = record {
  few : length l.a.interval ≡ 65;
  lines : Puts (l.i * longest) (interval_lines (take l.i l.a.interval) l.a.hi l.a.lo) l.initial.sheet l.sheet;
}
