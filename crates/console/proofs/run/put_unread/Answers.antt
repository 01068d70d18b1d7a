-- `run::put_unread` meets its promise: the refusal of the plan, or nothing.
use native.Mathlib.Omega.{arith}
use Rattle.console.specs.Pieces.{piece_none, piece_within, piece_is}
use Rattle.console.specs.Turns.{unread_none, unread_refused}
use Rattle.console.proofs.run.put_unread.Goals as goal

pub returns-in-Ok : goal.returns-in-Ok
returns-in-Ok c = piece_within (piece_is (unread_none _ _ c.plan_prefix.ensures _ c.in-Ok.is) (piece_none 0 _ (omega arith))) (omega arith)

pub returns-in-Err : goal.returns-in-Err
returns-in-Err c = piece_within (piece_is (unread_refused _ _ c.plan_prefix.ensures _ c.in-Err.is) c.put_refusal.ensures) (omega arith)
