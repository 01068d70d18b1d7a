-- `run::take_plan` meets its promise: the plan that is there, the wait for more of it, or its refusal.
use Rattle.console.specs.Turns.{told_is, told_wait, plan_begins, plan_waits, plan_refused}
use Rattle.console.proofs.run.take_plan.Goals as goal

pub returns-in-Ok : goal.returns-in-Ok
returns-in-Ok c = told_is (plan_begins c.args.c.now c.args.text.now _ c.plan_prefix-prefix.ensures _ c.in-Ok.is) c.begun.ensures

pub returns-in-Err : goal.returns-in-Err
returns-in-Err c =
    told_is (plan_refused c.args.c.now c.args.text.now _ c.plan_prefix-prefix.ensures _ c.in-Err.is _ c.is_final.ensures c.if-is_final.true) c.refused.ensures

pub returns-in-Err-2 : goal.returns-in-Err-2
returns-in-Err-2 c =
    told_is (plan_waits c.args.c.now c.args.text.now _ c.plan_prefix-prefix.ensures _ c.in-Err.is _ c.is_final.ensures c.if-is_final.false) (told_wait _ _)
