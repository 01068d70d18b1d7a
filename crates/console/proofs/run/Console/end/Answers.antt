-- `run::Console::end` meets its promise: with room, what its stage prints at the end of input.
use native.Mathlib.Omega.{arith}
use Rattle.console.specs.declared.run.Stage.TheVariants.{Reading, Running, Stopped}
use Rattle.console.specs.Pieces.{piece_none, piece_within, piece_is}
use Rattle.console.specs.Turns.{stage_end, end_no_room, end_told}
use Rattle.console.proofs.run.Console.end.Goals as goal

pub returns-in_default : goal.returns-in_default
returns-in_default c =
    let all = end_no_room c.args.self c.args.text.now _ c.in_default.ensures.cases in
    record { value = all.0; out_after = all.1.0; counts_in = all.1.1 }

pub returns-in-Reading : goal.returns-in-Reading
returns-in-Reading c =
    let all = end_told c.args.self c.args.text.now _ _ c.in-Some.ensures.cases _ _ (piece_is (stage_end c.args.self c.args.text.now Reading c.in-Reading.is) c.put_unread.ensures) in
    record { value = all.0; out_after = all.1.0; counts_in = all.1.1 }

pub returns-in-Running : goal.returns-in-Running
returns-in-Running c =
    let all = end_told c.args.self c.args.text.now _ _ c.in-Some.ensures.cases _ _ (piece_is (stage_end c.args.self c.args.text.now Running c.in-Running.is) c.put_rest.ensures) in
    record { value = all.0; out_after = all.1.0; counts_in = all.1.1 }

pub returns-in-Stopped : goal.returns-in-Stopped
returns-in-Stopped c =
    let all = end_told c.args.self c.args.text.now _ _ c.in-Some.ensures.cases _ _ (piece_is (stage_end c.args.self c.args.text.now Stopped c.in-Stopped.is) (piece_within (piece_none 0 _ (omega arith)) (omega arith))) in
    record { value = all.0; out_after = all.1.0; counts_in = all.1.1 }
