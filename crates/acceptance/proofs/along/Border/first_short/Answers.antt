-- `first_short` meets its contract: a border that is short is the answer, and past one that is not the answer stays.
use Rattle.std.proofs.Common.{sym, ◌∙◌}
use Rattle.acceptance.specs.AlongLaws.{short_here, not_here, none_left}
use Rattle.acceptance.proofs.along.Border.first_short.Goals as goal

pub returns-then-is_short : goal.returns-then-is_short
returns-then-is_short c =
    let b = c.loop-b.b in
    short_here b.of.now.plan.now b.of.now.in_order b.t c.loop-b-test.true (sym c.is_short.ensures ∙ c.if-is_short.true) ∙ c.loop-b.invariant.1

pub loop-b-preserved : goal.loop-b-preserved
loop-b-preserved c =
    let b = c.loop-b.b in
    let next = c.next-b.ensures in
    (next.0 ∙ c.loop-b.invariant.0, rw (next.0, next.1) (not_here b.of.now.plan.now b.of.now.in_order b.t c.loop-b-test.true (sym c.is_short.ensures ∙ c.if-is_short.false) ∙ c.loop-b.invariant.1))

pub returns : goal.returns
returns c =
    let b = c.loop-b.b in
    none_left b.of.now.plan.now b.of.now.in_order b.t c.loop-b-test.false ∙ c.loop-b.invariant.1
