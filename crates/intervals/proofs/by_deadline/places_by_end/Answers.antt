-- `intervals::by_deadline::places_by_end` meets its contract. The loop's invariant: the table is that of the intervals from i on.
use Rattle.std.proofs.Common.{rules, refl}
use Rattle.intervals.specs.Layout.{blank_interval}
use Rattle.intervals.specs.ByDeadlineLaws.{no_places, place_counted, place_beyond}
use Rattle.intervals.proofs.by_deadline.places_by_end.Goals as goal

pub loop-i-init : goal.loop-i-init
loop-i-init c = (refl, no_places c.args.interval.now)

pub loop-i-preserved-then-e-lt-BORDERS : goal.loop-i-preserved-then-e-lt-BORDERS
loop-i-preserved-then-e-lt-BORDERS c =
    let l = c.loop-i in
    (search rules, rw c.from-e.ensures (place_counted c.args.interval.now l.i _ l.place c.loop-i-test.true l.auto.i l.invariant.1 l.invariant.0 (search rules)))

pub loop-i-preserved : goal.loop-i-preserved
loop-i-preserved c =
    let l = c.loop-i in
    (search rules, place_beyond c.args.interval.now l.i blank_interval l.place c.loop-i-test.true l.auto.i l.invariant.1 (search rules))
