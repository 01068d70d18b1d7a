-- `spares::debt::work_by_home` meets its contract. The loop's invariant: a place's sum and the work still to come for it are all its work.
use Rattle.std.proofs.Common.{rules, arith, ◌≡◌, ◌∙◌, get_or, Fits, w16}
use Rattle.spares.specs.Debt.{with_work}
use Rattle.spares.specs.RowLaws.{sums_start, sums_more, sums_end, work_counted, work_nowhere}
use Rattle.spares.proofs.debt.work_by_home.Goals as goal
use Rattle.spares.proofs.debt.work_by_home.Goals.{then-place-lt-INTERVALS, else-place-lt-INTERVALS}

pub loop-k-init : goal.loop-k-init
loop-k-init c = sums_start c.args.home.now c.args.work.now

pub loop-k-preserved : goal.loop-k-preserved
loop-k-preserved c =
    let l = c.loop-k in
    let small : Fits w16 (get_or c.args.work.now l.k 0) = search rules in
    let summed : c.if-place-lt-INTERVALS.sums ≡ with_work l.sums c.from-place.result (get_or c.args.work.now l.k 0) = elim c.if-place-lt-INTERVALS.branch [ then-place-lt-INTERVALS w ↦ w.sums-is ∙ work_counted _ _ _ w.if-place-lt-INTERVALS.true w.from.ensures | else-place-lt-INTERVALS w ↦ w.sums-is ∙ work_nowhere _ _ _ w.if-place-lt-INTERVALS.false ] in
    sums_more c.args.home.now c.args.work.now l.sums c.if-place-lt-INTERVALS.sums l.k l.invariant (search rules) (search rules) (search rules) (omega (arith, small.fits)) (rw (← c.from-place.ensures) summed)

pub returns : goal.returns
returns c = sums_end c.args.home.now c.args.work.now _ _ c.loop-k.invariant c.loop-k-test.false (search rules)
