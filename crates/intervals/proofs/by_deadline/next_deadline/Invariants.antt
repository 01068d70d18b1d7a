-- `intervals::by_deadline::next_deadline` meets its contract. The loop's invariant: no window ends after m and before e.
use Rattle.std.proofs.Common.{◌≡◌, ◌+◌, ◌≤◌, ◌<◌, ℕ, get_or}
use Rattle.intervals.proofs.by_deadline.next_deadline.Given as goal

abbrev pub invariant-loop-e : goal.invariant-loop-e
invariant-loop-e l = (l.m < l.e) × (l.e ≤ l.slots + 1) × ((x : ℕ) → l.m < x → x < l.e → get_or l.longest x 0 ≡ 0)
