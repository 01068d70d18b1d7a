-- What a write took goes out behind what went before; a write that failed took nothing.
use Rattle.std.proofs.Common.{rules, arith}
use Rattle.std.proofs.KnownBytes.{Appends-kept}
use Rattle.streams.specs.StreamsLaws.{gone_on}
use Rattle.streams.proofs.write_out.Goals as goal
use Rattle.streams.proofs.write_out.Goals.{in-Ok-eq0, in-Ok, in-Err+else-is_err}

pub loop-preserved : goal.loop-preserved
loop-preserved g c =
    let i = c.loop.invariant in
    elim c.match-write.branch [
      | in-Ok-eq0 w ↦ record { within = omega arith; out = gone_on _ _ _ _ w.in-Ok-eq0.field-0 _ _ (omega arith) i.out w.in-Ok-eq0.ensures.bytes }
      | in-Ok w ↦ record { within = search rules; out = gone_on _ _ _ _ w.in-Ok.more _ _ w.done-is i.out w.in-Ok.ensures.bytes }
      | in-Err+else-is_err w ↦ record { within = omega arith; out = rw w.done-is (Appends-kept _ _ _ _ i.out w.in-Err.ensures.bytes) }
    ]
