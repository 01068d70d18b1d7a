-- `chosen_t` meets its contract: the table's job if it is live, otherwise the walk over the ready set.
use Rattle.std.proofs.Common.{arith}
use Rattle.executive.specs.Sound.{Sound}
use Rattle.executive.specs.MemberLaws.{Full}
use Rattle.executive.specs.CoherentLaws.{sound}
use Rattle.executive.specs.ChoiceLaws.{table_slot, other_slot}
use Rattle.executive.proofs.going.Going.chosen_t.Goals as goal
use Rattle.executive.proofs.going.Going.chosen_t.Goals.{Start}

sound-run : (c : Start) → Sound c.args.self.now.run.now
sound-run c = sound _ c.args.self.now.coherent c.args.self.now.before c.args.self.now.whole.jobs c.args.self.now.whole.table c.args.self.now.whole.entries

full : (c : Start) → Full c.args.self.now.run.now
full c = record { few = (sound-run c).few; jobs = c.args.self.now.whole.jobs; entries = c.args.self.now.whole.entries }

pub bounds-r-from : goal.bounds-r-from
bounds-r-from c = omega (arith, (sound-run (goal.at.bounds-r-from c).Start).border)

pub bounds-r-index : goal.bounds-r-index
bounds-r-index c = let s = sound-run (goal.at.bounds-r-index c).Start in omega (arith, rw (c.from.ensures) at c.index.ensures.0, s.named)

pub returns-then-has_slot : goal.returns-then-has_slot
returns-then-has_slot c =
    table_slot c.args.self.now.run.now _ _ _ c.from.ensures c.index.ensures.0 c.has_slot.ensures c.if-has_slot.true

pub returns : goal.returns
returns c =
    other_slot c.args.self.now.run.now _ _ _ c.from.ensures c.index.ensures.0 c.has_slot.ensures c.if-has_slot.false _ _ (full (goal.at.returns c).Start) c.args.self.now.ready_now c.earliest.ensures
