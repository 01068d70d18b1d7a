-- `spares::work::work_of` meets its contract: each row by its own rule.
use Rattle.std.proofs.Common.{rules, true, false}
use Rattle.spares.specs.Work.{work_left, work_each, work_of}
use Rattle.spares.proofs.work.work_of.Goals as goal

pub returns : goal.returns
unfolding work_of work_each work_left
returns c = rw (c.work_each.ensures (work_left true) (λ j e n p. search rules), c.work_each-2.ensures (work_left false) (λ j e n p. search rules))
