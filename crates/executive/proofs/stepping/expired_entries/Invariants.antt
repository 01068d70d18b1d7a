-- `expired_entries` meets its contract. The invariant: the entries of the jobs passed have met the border, the others are as they were.
use Rattle.std.proofs.Common.{◌≡◌, take}
use Rattle.executive.specs.Step.{expired_entries}
use Rattle.executive.proofs.stepping.expired_entries.Given as goal

abbrev pub invariant-loop-i : goal.invariant-loop-i
invariant-loop-i l = l.entry ≡ expired_entries l.t (take l.i l.job) l.initial.entry
