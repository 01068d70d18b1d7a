-- One event more, and what it prints goes out behind what went before.
use Rattle.run_plan.specs.LoopLaws.{near_on, near_less}
use Rattle.run_plan.proofs.settled.Goals as goal

pub loop-turn-smaller : goal.loop-turn-smaller
loop-turn-smaller g c = near_less _ _ _ _ _ _ c.loop-turn.invariant _ _ c.in-Some.ensures

pub loop-turn-preserved : goal.loop-turn-preserved
loop-turn-preserved g c = near_on _ _ _ _ _ _ c.loop-turn.invariant _ _ c.in-Some.ensures _ _ c.if-write_out-turn.false c.write_out.ensures.bytes
