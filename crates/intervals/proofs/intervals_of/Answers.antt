-- `intervals::intervals_of` meets its contract. The loop's invariant: what is laid out, and what the deadlines above the last end still add, are all.
use Rattle.std.proofs.Common.{arith, rules}
use Rattle.intervals.specs.ByDeadlineLaws.{due_in_time}
use Rattle.intervals.specs.Laid.{Tabled}
use Rattle.intervals.specs.LaidLaws.{starts, laid_start, room, room_behind, laid_on, last_room, laid_end}
use Rattle.intervals.proofs.intervals_of.Goals as goal
use Rattle.intervals.proofs.intervals_of.Goals.{After-longest_windows-longest}

-- the table is that of the jobs
tabled : (c : After-longest_windows-longest) → Tabled c.longest_windows-longest.result c.before.args.slots c.before.args.job.now
tabled c = record { table = c.longest_windows-longest.ensures; windows = c.before.requires.2; few_slots = c.before.requires.1; few_jobs = c.before.requires.0 }

pub longest_windows-longest-requires : goal.longest_windows-longest-requires
longest_windows-longest-requires c = due_in_time c.args.slots c.args.job.now c.requires.1 c.requires.2

pub loop-e-init : goal.loop-e-init
loop-e-init c = (search rules, laid_start _ _ _ (tabled (goal.at.loop-e-init c).After-longest_windows-longest) _ c.empty_layout-layout.ensures)

pub push_gap-requires : goal.push_gap-requires
push_gap-requires c =
    let t = tabled (goal.at.push_gap-requires c).After-longest_windows-longest in
    let next = c.in-Some.ensures in
    λ _. omega (arith, room _ _ _ t _ _ _ c.loop-e.invariant.1 next.1 next.0 _ (starts _ _ _ t _ _ _ _ next.0 c.from.ensures c.max-start.ensures))

pub push-requires : goal.push-requires
push-requires c =
    let t = tabled (goal.at.push-requires c).After-longest_windows-longest in
    let next = c.in-Some.ensures in
    let b = c.loop-e.invariant.1 in
    room_behind _ _ _ t _ _ _ b next.1 next.0 _ (starts _ _ _ t _ _ _ _ next.0 c.from.ensures c.max-start.ensures) _ (c.push_gap.ensures b.so_far b.held)

pub loop-e-preserved : goal.loop-e-preserved
loop-e-preserved c =
    let t = tabled (goal.at.loop-e-preserved c).After-longest_windows-longest in
    let next = c.in-Some.ensures in
    let b = c.loop-e.invariant.1 in
    (next.0, laid_on _ _ _ t _ _ _ b next.1 next.0 _ (starts _ _ _ t _ _ _ _ next.0 c.from.ensures c.max-start.ensures) _ (c.push.ensures _ (c.push_gap.ensures b.so_far b.held)))

pub push_gap-requires-2 : goal.push_gap-requires-2
push_gap-requires-2 c = λ left. last_room _ _ _ (tabled (goal.at.push_gap-requires-2 c).After-longest_windows-longest) _ _ _ c.loop-e.invariant.1 (rw c.in_default.is at c.next_deadline.ensures) (omega arith) left

pub returns : goal.returns
returns c = laid_end _ _ _ (tabled (goal.at.returns c).After-longest_windows-longest) _ _ _ c.loop-e.invariant.1 (rw c.in_default.is at c.next_deadline.ensures) (omega arith) _ (c.push_gap-2.ensures c.loop-e.invariant.1.so_far c.loop-e.invariant.1.held)
