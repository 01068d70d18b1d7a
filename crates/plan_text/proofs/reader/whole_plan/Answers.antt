-- `whole_plan`: the plan's refusal, more text after it, or the plan.
use Rattle.std.proofs.Common.{refl, ap}
use Rattle.std.proofs.lemmas.Result.{err_from_is_err_and}
use Rattle.plan_text.specs.Reader.{read_into}
use Rattle.plan_text.specs.ReaderLaws.{whole_refused, whole_more, whole_is}
use Rattle.plan_text.proofs.reader.whole_plan.Goals as goal

pub returns-in_err-plan : goal.returns-in_err-plan
returns-in_err-plan c =
    let p = err_from_is_err_and c.from_residual.result c.from_residual.ensures.1 in
    rw (p.1, p.2) (whole_refused _ _ refl refl c.plan.ensures (ap (read_into c.plan.new.plan) c.in_err-plan.was))

pub returns-then-lines-text : goal.returns-then-lines-text
returns-then-lines-text c = whole_more _ _ refl refl c.plan.ensures (ap (read_into c.plan.new.plan) c.in_ok-plan.was) c.if-lines-text.true

pub returns : goal.returns
returns c = whole_is _ _ refl refl c.plan.ensures (ap (read_into c.plan.new.plan) c.in_ok-plan.was) c.if-lines-text.false
