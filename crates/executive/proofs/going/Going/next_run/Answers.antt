-- `next_run` meets its contract: the parts of a step, none of which touches the plan, then the rows.
use Rattle.std.proofs.Common.{◌≡◌, refl, sym, ap, ◌∙◌}
use Rattle.intervals.specs.Layout.{layout_of}
use Rattle.executive.specs.CoherentLaws.{sound}
use Rattle.executive.specs.Sound.{Sound}
use Rattle.executive.specs.StepLaws.{told_plan, left_plan, after_plan, next_of}
use Rattle.executive.proofs.going.Going.next_run.Goals as goal
use Rattle.executive.proofs.going.Going.next_run.Goals.{Start, After-after_report-judged}

sound-run : (c : Start) → Sound c.args.self.now.run.now
sound-run c = sound _ c.args.self.now.coherent c.args.self.now.before c.args.self.now.whole.jobs c.args.self.now.whole.table c.args.self.now.whole.entries

-- the plan after the parts
same_plan : (c : After-after_report-judged) → c.after_report-judged.result.plan ≡ c.args.self.now.run.now.plan
same_plan c =
    after_plan _ _ c.args.slot c.after_report-judged.ensures
    ∙ left_plan _ _ refl
    ∙ told_plan c.args.self.now.run.now _ c.args.slot c.args.kind refl

pub refreshed-requires : goal.refreshed-requires
refreshed-requires c =
    let at = goal.at.refreshed-requires c in
    (rw (same_plan at.After-after_report-judged) (sound-run at.Start).few, c.args.self.now.laid ∙ ap layout_of (sym (same_plan at.After-after_report-judged)))

pub returns : goal.returns
returns c =
    next_of c.args.self.now.run.now _ _ _ c.args.slot c.args.kind refl refl c.after_report-judged.ensures _ c.refreshed.ensures

pub after_report-judged-requires : goal.after_report-judged-requires
after_report-judged-requires c = c.requires
