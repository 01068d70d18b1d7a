-- `first` meets its contract: at border 0 no job has had a slot.
use Rattle.std.proofs.Common.{arith}
use Rattle.plan.specs.CountLaws.{counts_start}
use Rattle.acceptance.proofs.along.Border.first.Goals as goal

pub invariant_of-result : goal.invariant_of-result
invariant_of-result c = record { within = omega arith; counted = counts_start _ }
