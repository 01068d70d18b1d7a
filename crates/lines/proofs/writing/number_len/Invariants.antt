-- `writing::number_len`: the digits counted and those of what is left are one more than those of n.
use Rattle.std.proofs.Common.{◌≡◌, ◌+◌, ◌≤◌, length}
use Rattle.lines.specs.Lines.{digits}
use Rattle.lines.proofs.writing.number_len.Given as goal

abbrev pub invariant-loop-rest : goal.invariant-loop-rest
invariant-loop-rest l = record {
  counted : l.len + length (digits l.rest) ≡ 1 + length (digits l.n);
  small : l.len + l.rest ≤ l.n + 1;
}

abbrev pub decreases-loop-rest : goal.decreases-loop-rest
decreases-loop-rest l = l.rest
