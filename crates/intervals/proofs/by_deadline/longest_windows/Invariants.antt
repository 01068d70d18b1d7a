-- `intervals::by_deadline::longest_windows` meets its contract. The loop's invariant: the table is that of the jobs passed.
use Rattle.std.proofs.Common.{◌≡◌, length, take}
use Rattle.intervals.specs.ByDeadline.{borders, LongestWindows}
use Rattle.intervals.proofs.by_deadline.longest_windows.Given as goal

abbrev pub invariant-loop-j : goal.invariant-loop-j
invariant-loop-j l = (length l.longest ≡ borders) × LongestWindows (take l.j-index l.job) l.longest
