-- However often the call is made, the bytes held stay, and nothing is taken from the input.
use Rattle.std.proofs.Common.{◌≡◌, take}
use Rattle.std.specs.Io.KnownBytes.{Keeps}
use Rattle.streams.proofs.read_after.Given as goal

abbrev pub invariant-loop : goal.invariant-loop
invariant-loop g l = record {
  stays : take l.n l.held ≡ take l.n l.fn.held;
  kept : Keeps (g.R.Read.remaining l.fn.input) (g.R.Read.remaining l.input);
}
