-- `Lines::level`: what the field at the place is, taken.
use Rattle.lines.specs.Lines.{field}
use Rattle.plan_text.specs.Read.{level_in}
use Rattle.plan_text.specs.ReaderLaws.{taken_reads}
use Rattle.plan_text.proofs.reader.Lines.level.Goals as goal

pub returns : goal.returns
unfolding field
returns c = taken_reads level_in _ _ _ _ _ c.taken.ensures c.level_field.ensures
