-- `run::stepped` meets its promise: the step line and the next run, or the refusal.
use native.Mathlib.Omega.{arith}
use mathlib.Core.Path.{refl}
use Rattle.console.specs.Turns.{told_is, told_line, step_refused, step_taken, step_line_lem}
use Rattle.console.specs.Pieces.{piece_is}
use Rattle.console.proofs.run.stepped.Goals as goal

pub returns-in-Err : goal.returns-in-Err
returns-in-Err c = told_is (step_refused c.args.c.now c.args.used _ _ c.step-after.ensures _ c.in-Err.is) c.refused.ensures

pub returns-in-Ok : goal.returns-in-Ok
returns-in-Ok c =
    let line = piece_is (step_line_lem _ _ _ c.step-after.ensures _ c.in-Ok.is) (c.step_line.ensures.piece (omega arith)) in
    told_is (step_taken c.args.c.now c.args.used _ _ c.step-after.ensures _ c.in-Ok.is _ c.line_after-c.ensures) (told_line _ _ (omega arith) line refl refl refl)
