-- `intervals::plan_intervals` meets its contract: by whether the windows hold.
use Rattle.std.proofs.Common.{sym, ap, ◌∙◌}
use Rattle.intervals.specs.DeadlineLaws.{within_limits}
use Rattle.intervals.specs.IntervalLaws.{intervals_are, no_intervals}
use Rattle.intervals.specs.Laid.{laid}
use Rattle.intervals.proofs.plan_intervals.Goals as goal

pub intervals_of-requires : goal.intervals_of-requires
intervals_of-requires c =
    let w = within_limits _ (sym c.if-windows_hold.ensures) in
    (c.jobs_of.ensures.few, w.few_slots, rw c.jobs_of.ensures.jobs w.windows)

pub returns-then-windows_hold : goal.returns-then-windows_hold
returns-then-windows_hold c =
    c.intervals_of.ensures ∙ ap laid (rw c.jobs_of.ensures.jobs (intervals_are _ (sym c.if-windows_hold.ensures)))

pub returns-else-windows_hold : goal.returns-else-windows_hold
returns-else-windows_hold c = c.empty_layout.ensures ∙ ap laid (sym (no_intervals _ (sym c.if-windows_hold.ensures)))
