-- What was taken so far is of the text, and went out.
use Rattle.std.proofs.Common.{◌≤◌, length, take}
use Rattle.std.specs.Io.KnownBytes.{Appends}
use Rattle.streams.proofs.write_out.Given as goal

abbrev pub invariant-loop : goal.invariant-loop
invariant-loop g l = record {
  within : l.done ≤ length l.text;
  out : Appends (g.W.Write.contents l.fn.output) (g.W.Write.contents l.output) (take l.done l.text);
}
