-- `next` meets its contract: the counts are those of the next border.
use Rattle.std.proofs.Common.{arith, ◌∙◌}
use Rattle.plan.specs.CountLaws.{counts_on}
use Rattle.acceptance.proofs.along.Border.next.Goals as goal

pub invariant_of-result : goal.invariant_of-result
invariant_of-result c =
    let b = c.args.self in
    let ok = b.of.now.in_order in
    record {
      within = omega arith;
      counted = (rw c.from.ensures at c.count_slot.ensures) ∙ counts_on b.of.now.plan.now b.t b.counts b.counted (omega (arith, ok.table_array, ok.slots)) (omega (arith, ok.slots));
    }
