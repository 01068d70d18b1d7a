-- `expired_entries` meets its contract. The invariant: the entries of the jobs passed have met the border, the others are as they were.
use Rattle.std.proofs.Common.{rules, arith, ◌≡◌, ◌<◌, refl, length}
use Rattle.words.specs.ListLaws.{long}
use Rattle.plan.specs.Limits.{max_jobs}
use Rattle.executive.specs.Step.{expired_entries}
use Rattle.executive.specs.StepLaws.{expired_turn}
use Rattle.executive.proofs.stepping.expired_entries.Goals as goal
use Rattle.executive.proofs.stepping.expired_entries.Goals.{Start}

entries-full : (c : Start) → length c.args.before ≡ max_jobs
entries-full c = search (rules, long)

pub loop-i-init : goal.loop-i-init
unfolding expired_entries
loop-i-init c = refl

pub loop-i-preserved : goal.loop-i-preserved
loop-i-preserved c =
    let k : c.loop-i.i < length c.args.before = omega (arith, entries-full (goal.at.loop-i-preserved c).Start) in
    expired_turn c.args.t c.loop-i.i c.args.job.now c.args.before c.loop-i.entry _ _ c.expired_entry.result c.loop-i-test.true k c.loop-i.invariant c.expired_entry.ensures
