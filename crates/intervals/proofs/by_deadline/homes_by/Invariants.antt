-- `intervals::by_deadline::homes_by` meets its contract. The loop's invariant: the homes of the jobs passed stand, the others have none.
use Rattle.std.proofs.Common.{◌≡◌, take, map}
use Rattle.words.specs.Words.{filled}
use Rattle.plan.specs.Limits.{max_jobs}
use Rattle.intervals.specs.Intervals.{max_intervals}
use Rattle.intervals.specs.ByDeadline.{entry_for}
use Rattle.intervals.proofs.by_deadline.homes_by.Given as goal

abbrev pub invariant-loop-i : goal.invariant-loop-i
invariant-loop-i l = l.home ≡ filled max_jobs max_intervals (map (λ j. entry_for l.place j.deadline) (take l.i l.job))
