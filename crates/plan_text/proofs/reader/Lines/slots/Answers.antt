-- `Lines::slots`: one slot more stands in the slice, or its line is refused.
use Rattle.std.proofs.Common.{length, one-mul}
use Rattle.std.proofs.lemmas.Result.{err_from_is_err_and}
use Rattle.lines.specs.Lines.{number, field}
use Rattle.plan_text.specs.ReaderLaws.{fills_on, fills_stop, fills_end}
use Rattle.plan_text.proofs.reader.Lines.slots.Goals as goal

pub returns-in_err-slot : goal.returns-in_err-slot
unfolding field
returns-in_err-slot c =
    let p = err_from_is_err_and c.from_residual.result c.from_residual.ensures.1 in
    rw (p.1, p.2)
    (fills_stop (field number "slot=") 1 (length c.args.slots.now) c.args.self.now _ _ _ _ c.loop-slot.invariant c.loop-slot-test.true _ c.number.ensures (one-mul _) c.in_err-slot.was)

pub loop-slot-preserved : goal.loop-slot-preserved
unfolding field
loop-slot-preserved c = fills_on (field number "slot=") 1 (length c.args.slots.now) c.args.self.now _ _ _ _ c.loop-slot.invariant c.loop-slot-test.true _ c.number.ensures _ c.in_ok-slot.was

pub returns : goal.returns
returns c = fills_end (field number "slot=") 1 (length c.args.slots.now) c.args.self.now (one-mul _) _ _ _ c.loop-slot.invariant c.loop-slot-test.false
