-- `reading::digits_number`: one digit more.
use Rattle.std.proofs.Common.{arith, ◌∙◌}
use Rattle.lines.proofs.Steps.{digits_on, room}
use Rattle.lines.proofs.reading.digits_number.Goals as goal

pub loop-b-preserved : goal.loop-b-preserved
loop-b-preserved c =
    let digit = rw c.if-not-is_ascii_digit.false at c.is_ascii_digit.ensures.cases in
    let more = room c.loop-b.b-index c.loop-b.n c.from.result (omega arith) c.loop-b.invariant.small (omega (arith, digit)) in
    record {
      within = omega arith;
      small = more.0;
      onward = c.loop-b.invariant.onward ∙ rw c.from.ensures (digits_on c.args.s.now c.loop-b.b-index c.loop-b.n (omega arith) (omega (arith, digit)) (omega (arith, digit)));
    }
