-- `Lines::numbered_plan`: refused at its first line, or the plan that is read there.
use Rattle.std.proofs.Common.{arith}
use Rattle.plan_text.specs.ReaderLaws.{told_late, told_plan}
use Rattle.plan_text.proofs.reader.Lines.numbered_plan.Goals as goal

pub returns-then-from-gt-LAST_LINE : goal.returns-then-from-gt-LAST_LINE
returns-then-from-gt-LAST_LINE c = told_late c.args.self.now (omega (arith, c.from.ensures, c.if-from-gt-LAST_LINE.true))

pub returns : goal.returns
returns c = told_plan _ _ _ (omega arith) c.plan.ensures
