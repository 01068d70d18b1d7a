-- `run::begun` meets its promise: the run begins, or the refusal of its plan.
use mathlib.Core.Path.{refl}
use Rattle.console.specs.Turns.{told_is, told_quiet, started_refused, started_runs}
use Rattle.console.proofs.run.begun.Goals as goal

pub returns-in-Err : goal.returns-in-Err
returns-in-Err c = told_is (started_refused c.args.c.now c.args.used c.args.line _ _ c.start-started.ensures _ c.in-Err.is) c.refused.ensures

pub returns-in-Ok : goal.returns-in-Ok
returns-in-Ok c = told_is (started_runs c.args.c.now c.args.used c.args.line _ _ c.start-started.ensures _ c.in-Ok.is) (told_quiet _ _ _ refl refl)
