-- `after_report` meets its contract: the parts of a step but the rows.
use Rattle.executive.specs.CoherentLaws.{sound, chosen_countable}
use Rattle.executive.specs.Sound.{Sound, Countable}
use Rattle.executive.proofs.going.Going.after_report.Goals as goal
use Rattle.executive.proofs.going.Going.after_report.Goals.{Start}

sound-run : (c : Start) → Sound c.args.self.now.run.now
sound-run c = sound _ c.args.self.now.coherent c.args.self.now.before c.args.self.now.whole.jobs c.args.self.now.whole.table c.args.self.now.whole.entries

countable : (c : Start) → Countable c.args.self.now.run.now c.args.slot
countable c = rw c.requires (chosen_countable _ c.args.self.now.coherent c.args.self.now.before c.args.self.now.whole.jobs c.args.self.now.whole.table c.args.self.now.whole.entries)

pub reported-told-requires : goal.reported-told-requires
reported-told-requires c =
    let at = goal.at.reported-told-requires c in
    ((sound-run at.Start).border, countable at.Start)

pub returns : goal.returns
returns c = rw (c.judged.ensures, c.expired-left.ensures, c.reported-told.ensures)
