-- `walk_from` meets its contract. The invariant: the answer from here on is the whole answer.
use mathlib.Core.Path.{◌≡◌}
use lib.ListN.{drop}
use Rattle.embed.specs.Embed.{walk_from}
use Rattle.embed.proofs.walk_from.Given as goal

abbrev pub invariant-loop-byte : goal.invariant-loop-byte
invariant-loop-byte l = walk_from l.here (drop l.byte-index l.kinds) ≡ walk_from l.initial.here l.kinds
