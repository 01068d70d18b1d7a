-- `run::refused` meets its promise: the refused line, and a console that has stopped.
use native.Mathlib.Omega.{arith}
use mathlib.Core.Path.{refl}
use Rattle.console.specs.Turns.{told_line}
use Rattle.console.proofs.run.refused.Goals as goal

pub returns : goal.returns
returns c = told_line _ _ (omega arith) c.put_refusal.ensures refl refl refl
