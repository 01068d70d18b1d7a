-- `intervals::by_deadline::longest_windows` meets its contract. The loop's invariant: the table is that of the jobs passed.
use Rattle.std.proofs.Common.{rules, arith, refl}
use Rattle.plan.specs.Plan.{blank_job}
use Rattle.intervals.specs.ByDeadlineLaws.{due_at, no_windows, window_counted}
use Rattle.intervals.proofs.by_deadline.longest_windows.Goals as goal

pub loop-j-init : goal.loop-j-init
loop-j-init c = (refl, no_windows)

pub bounds-longest-e : goal.bounds-longest-e
bounds-longest-e c = omega (arith, c.from-e.ensures, due_at c.args.job.now c.loop-j.j-index blank_job c.requires c.loop-j-test.true)

pub bounds-longest-e-in-loop-j : goal.bounds-longest-e-in-loop-j
bounds-longest-e-in-loop-j c = omega (arith, c.from-e.ensures, due_at c.args.job.now c.loop-j.j-index blank_job c.requires c.loop-j-test.true)

pub loop-j-preserved : goal.loop-j-preserved
loop-j-preserved c =
    let l = c.loop-j in
    (search rules, window_counted c.args.job.now l.j-index _ l.longest _ _ _ c.loop-j-test.true c.requires l.invariant.0 l.invariant.1 c.from-e.ensures c.saturating_sub.ensures (search rules))
