-- `writing::put_bytes`: the bytes passed stand in the output, and the rest is as it was.
use Rattle.std.proofs.Common.{◌≡◌, ◌+◌, ◌≤◌, length}
use Rattle.std.proofs.Math.Seq.{paste}
use Rattle.lines.proofs.writing.put_bytes.Given as goal

abbrev pub invariant-loop-i : goal.invariant-loop-i
invariant-loop-i l = record {
  text : l.out ≡ paste l.initial.out l.at l.w l.i;
  room : l.at + length l.w ≤ length l.out;
}
