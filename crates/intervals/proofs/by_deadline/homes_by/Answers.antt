-- `intervals::by_deadline::homes_by` meets its contract. The loop's invariant: the homes of the jobs passed stand, the others have none.
use Rattle.std.proofs.Common.{arith}
use Rattle.words.specs.FilledLaws.{filled_map}
use Rattle.plan.specs.Limits.{max_jobs}
use Rattle.intervals.specs.Intervals.{max_intervals}
use Rattle.intervals.specs.ByDeadline.{entry_for}
use Rattle.intervals.proofs.by_deadline.homes_by.Goals as goal

pub loop-i-preserved : goal.loop-i-preserved
loop-i-preserved c =
    let l = c.loop-i in
    rw (l.invariant, c.entry_for.ensures) (filled_map (λ j. entry_for c.args.place.now j.deadline) max_jobs max_intervals c.args.job.now l.i _ c.loop-i-test.true (omega arith))
