-- `check::put_analysis` meets its promise: the refusal, or the interval lines and the answer after them.
use native.Mathlib.Omega.{arith}
use Rattle.console.specs.Pieces.{piece_within, piece_is}
use Rattle.console.specs.Sheet.{puts_then, puts_is}
use Rattle.console.specs.Lists.{analysis_refused, analysis_accepted}
use Rattle.console.proofs.check.put_analysis.Goals as goal

pub returns-in-Err : goal.returns-in-Err
returns-in-Err c = piece_is (analysis_refused _ _ c.in-Err.is) (piece_within c.put_refusal.ensures (omega arith))

pub returns-in-Ok : goal.returns-in-Ok
returns-in-Ok c =
    let all = puts_is (analysis_accepted _ _ c.in-Ok.is) (puts_then c.put_interval_lines.ensures c.key.ensures) in
    piece_within (all.piece (omega arith)) (omega arith)
