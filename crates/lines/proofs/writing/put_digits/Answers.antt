-- `writing::put_digits`: one digit more from the end, and the first one.
use Rattle.std.proofs.Common.{◌+◌, ◌-◌, ◌≤◌, ◌≡◌, length, arith, sym, ◌∙◌}
use Rattle.lines.specs.Lines.{digits}
use Rattle.lines.specs.WritingLaws.{digits_bound, digits_few, digits_many, tail_start, tail_more, tail_done, put_fits}
use Rattle.lines.proofs.writing.put_digits.Goals as goal

pub loop-i-init : goal.loop-i-init
loop-i-init c =
    let room : c.args.at + length (digits c.args.n) ≤ length c.args.out.now = rw (← c.requires.long) c.requires.room in
    record { low = omega (arith, c.requires.long, digits_bound c.args.n); tail = rw c.requires.long (tail_start c.args.n c.args.at c.args.out.now room) }

pub loop-i-preserved : goal.loop-i-preserved
loop-i-preserved c =
    let t = c.loop-i.invariant.tail in
    let more = tail_more _ _ _ _ _ _ t (digits_many c.loop-i.rest (omega (arith, t.place))) in
    record { low = omega arith; tail = rw c.digit.ensures more }

pub digit-requires-2 : goal.digit-requires-2
digit-requires-2 c = let t = c.loop-i.invariant.tail in digits_few c.loop-i.rest (omega (arith, t.place))

pub returns-clause-out_after : goal.returns-clause-out_after
returns-clause-out_after c =
    let t = c.loop-i.invariant.tail in
    let e : c.args.at ≡ c.loop-i.i - 1 = omega (arith, c.loop-i.invariant.low, c.loop-i-test.false) in
    let done = tail_done _ _ _ _ _ _ t (digits_few c.loop-i.rest (omega (arith, t.place, e))) in
    rw c.digit-2.ensures (rw (← e) at done) ∙ sym (put_fits c.args.at (digits c.args.n) c.args.out.now (omega (arith, t.fits)))
