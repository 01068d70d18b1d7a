-- `check::check_output` meets its promise: with room for every output, what is written is the whole output.
use native.Mathlib.Omega.{arith}
use Rattle.console.specs.Pieces.{piece_is}
use Rattle.console.specs.Lists.{check_no_room, check_written_lem, check_refused, check_analysed}
use Rattle.console.proofs.check.check_output.Goals as goal

pub returns-in_default : goal.returns-in_default
returns-in_default c =
    let all = check_no_room _ _ c.in_default.ensures.cases in
    record { value = all.0; out_after = all.1.0; counts_in = all.1.1 }

pub returns-in-Err : goal.returns-in-Err
returns-in-Err c =
    let line = piece_is (check_refused _ _ c.read_plan-read.ensures _ c.in-Err.is) c.put_refusal.ensures in
    let all = check_written_lem _ _ _ c.in-Some.ensures.cases _ _ _ (omega arith) line in
    record { value = all.0; out_after = all.1.0; counts_in = all.1.1 }

pub returns-in-Ok : goal.returns-in-Ok
returns-in-Ok c =
    let lines = piece_is (check_analysed _ _ c.read_plan-read.ensures _ c.in-Ok.is _ c.analysis_of.ensures) c.put_analysis.ensures in
    let all = check_written_lem _ _ _ c.in-Some.ensures.cases _ _ _ (omega arith) lines in
    record { value = all.0; out_after = all.1.0; counts_in = all.1.1 }
