-- The bytes read so far are inside the buffer, and each turn leaves less room.
use Rattle.std.proofs.Common.{◌-◌, ◌≤◌, length}
use Rattle.sums.proofs.texts.read_full.Given as goal

abbrev pub invariant-loop-more : goal.invariant-loop-more
invariant-loop-more g l = l.n ≤ length l.buffer

abbrev pub decreases-loop-more : goal.decreases-loop-more
decreases-loop-more g l = length l.initial.buffer - l.n
