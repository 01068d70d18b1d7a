-- `writing::put_digits`: the digits from `i` on stand in the output, those of `rest` are left.
use Rattle.std.proofs.Common.{◌+◌, ◌-◌, ◌≤◌}
use Rattle.lines.specs.WritingLaws.{Tail}
use Rattle.lines.proofs.writing.put_digits.Given as goal

abbrev pub invariant-loop-i : goal.invariant-loop-i
invariant-loop-i l = record {
  low : l.at + 1 ≤ l.i;
  tail : Tail l.n l.at l.initial.out l.out (l.i - 1) l.rest;
}
