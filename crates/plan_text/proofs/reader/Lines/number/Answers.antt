-- `Lines::number`: what the field at the place is, taken.
use Rattle.lines.specs.Lines.{number}
use Rattle.plan_text.specs.ReaderLaws.{taken_reads}
use Rattle.plan_text.proofs.reader.Lines.number.Goals as goal

pub returns : goal.returns
returns c = taken_reads number _ _ _ _ _ c.taken.ensures c.number_field.ensures
