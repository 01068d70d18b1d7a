-- `of` meets its contract: a plan that passes 2 to 7 and 17 is in order.
use Rattle.std.proofs.Common.{rules, ap}
use Rattle.words.specs.ListLaws.{long}
use Rattle.answers.specs.Answer.{accepted}
use Rattle.well_formed.specs.InOrderLaws.{in_order}
use Rattle.acceptance.proofs.along.Laid.of.Goals as goal

pub invariant_of-result : goal.invariant_of-result
unfolding accepted
invariant_of-result c =
    record { in_order = in_order _ c.requires.sized.0 c.requires.sized.1 (ap accepted c.requires.formed); laid = c.layout_of-layout.ensures; whole = search (rules, long) }
