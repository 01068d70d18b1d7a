-- `Lines::slots`: so many slots stand in front, one line to each.
use Rattle.std.proofs.Common.{length}
use Rattle.lines.specs.Lines.{number, field}
use Rattle.plan_text.specs.ReaderLaws.{Fills}
use Rattle.plan_text.proofs.reader.Lines.slots.Given as goal

abbrev pub invariant-loop-slot : goal.invariant-loop-slot
invariant-loop-slot l = Fills (field number "slot=") 1 (length l.initial.slot-items) l.initial.self l.slot-items l.self l.slot-index
