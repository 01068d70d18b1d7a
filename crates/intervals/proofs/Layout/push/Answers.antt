-- `intervals::Layout::push` meets its contract: a store at the count is one interval more.
use Rattle.std.proofs.Common.{arith}
use Rattle.intervals.specs.LaidLaws.{laid_more}
use Rattle.intervals.proofs.Layout.push.Goals as goal

pub returns : goal.returns
returns c = λ xs e. laid_more c.args.self.now xs e _ c.from.result c.requires (omega arith)
