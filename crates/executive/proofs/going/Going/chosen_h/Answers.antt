-- `chosen_h` meets its contract: the current spares say whose set is walked.
use Rattle.std.proofs.Common.{rules, ◌∙◌}
use Rattle.executive.specs.Choice.{members}
use Rattle.executive.specs.MemberLaws.{Full}
use Rattle.executive.specs.CoherentLaws.{sound}
use Rattle.executive.specs.ChoiceLaws.{open_slot, hi_slot}
use mir.Facts.{to_z-of_z}
use mir.Syntax.{w32}
use mir.Val.{to_z, of_z}
use Rattle.executive.proofs.going.Going.chosen_h.Goals as goal
use Rattle.executive.proofs.going.Going.chosen_h.Goals.{Start}

full : (c : Start) → Full c.args.self.now.run.now
full c = record {
  few = (sound _ c.args.self.now.coherent c.args.self.now.before c.args.self.now.whole.jobs c.args.self.now.whole.table c.args.self.now.whole.entries).few;
  jobs = c.args.self.now.whole.jobs;
  entries = c.args.self.now.whole.entries;
}

pub returns-then-open_to_all : goal.returns-then-open_to_all
returns-then-open_to_all c =
    let g = c.args.self.now in
    open_slot g.run.now (to_z w32 (of_z w32 g.hi)) (to_z w32 (of_z w32 g.lo)) _ _ _ (to_z-of_z {w = w32} (search rules) ∙ g.hi_now) (to_z-of_z {w = w32} (search rules) ∙ g.lo_now) c.open_to_all.ensures (full (goal.at.returns-then-open_to_all c).Start) c.if-open_to_all.true g.ready_now c.earliest.ensures

pub returns : goal.returns
unfolding members
returns c =
    let g = c.args.self.now in
    hi_slot g.run.now (to_z w32 (of_z w32 g.hi)) (to_z w32 (of_z w32 g.lo)) _ _ _ (to_z-of_z {w = w32} (search rules) ∙ g.hi_now) (to_z-of_z {w = w32} (search rules) ∙ g.lo_now) c.open_to_all.ensures (full (goal.at.returns c).Start) c.if-open_to_all.false c.ready_hi_set-ready_hi.ensures c.earliest-2.ensures
