-- `count_run` meets its contract: a slot that goes on the row before it counts nothing.
use borrow.Author.Tests.{eq-eqb, ne_eqb}
use Rattle.well_formed.specs.RunWords.{runs_with}
use Rattle.well_formed.proofs.count_run.Goals as goal

pub returns-then-k-before : goal.returns-then-k-before
unfolding runs_with
returns-then-k-before c = rw (ne_eqb _ _ c.if-k-before.true) c.count_slot.ensures

pub returns-else-k-before : goal.returns-else-k-before
unfolding runs_with
returns-else-k-before c = rw (eq-eqb _ _ c.if-k-before.false)
