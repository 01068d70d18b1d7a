-- `check9` meets its contract: on the way to the next end no HI job ends, so where the border before it is not short none on the way is.
use Rattle.std.proofs.Common.{ap, sym, ◌∙◌}
use Rattle.acceptance.specs.declared.along.Laid.{Laid}
use Rattle.acceptance.specs.Acceptance.{check9}
use Rattle.acceptance.specs.AlongLaws.{past_end, past_last}
use Rattle.acceptance.specs.BorderLaws.{no_end}
use Rattle.acceptance.proofs.along.Laid.check9.Goals as goal

pub loop-b-init : goal.loop-b-init
unfolding check9
loop-b-init c =
    let first = c.first-from.ensures in
    (rw first.0, rw first.1)

pub loop-b-preserved : goal.loop-b-preserved
loop-b-preserved c =
    let a = c.loop-b.from in
    let p = a.of.now.plan.now in
    let ok = a.of.now.in_order in
    let b = c.in-Some.ensures.next in
    let next = c.next-from.ensures in
    let good = rw b.0 at (sym c.is_short.ensures ∙ c.if-is_short.false) in
    (rw (next.0, b.0) c.loop-b.invariant.0, rw (next.0, next.1, b.0) (past_end p ok a.t c.in-Some.b.t b.1 b.2 (no_end p ok a.t c.in-Some.b.t b.3) good ∙ c.loop-b.invariant.1))

pub returns : goal.returns
returns c =
    let a = c.loop-b.from in
    let p = a.of.now.plan.now in
    let ok = a.of.now.in_order in
    past_last p ok a.t a.within (no_end p ok a.t p.slots c.in_default.ensures.none) ∙ c.loop-b.invariant.1 ∙ ap (λ (l : Laid). check9 l.plan.now) c.loop-b.invariant.0
