-- `run::Console::next` meets its promise: with room, the event of its stage.
use mathlib.Core.Path.{◌∙◌}
use Rattle.console.specs.Turns.{next_no_room, next_told}
use Rattle.console.proofs.run.Console.next.Goals as goal

pub returns-in_err-out : goal.returns-in_err-out
returns-in_err-out c =
    let both = next_no_room c.args.self c.args.text.now _ c.in_err-out.ensures.cases in
    record { value = c.from_residual.ensures ∙ both.0; out_after = both.1; used_in_bounds = rw c.from_residual.ensures tt }

pub returns-in_err-used : goal.returns-in_err-used
returns-in_err-used c =
    let all = next_told c.args.self c.args.text.now _ _ c.in_ok-out.ensures.cases _ _ (rw c.in_err-used.was at c.event.ensures) in
    record { value = c.from_residual-in_err-used.ensures ∙ all.0; out_after = all.1.0; used_in_bounds = rw c.from_residual-in_err-used.ensures tt }

pub returns : goal.returns
returns c =
    let all = next_told c.args.self c.args.text.now _ _ c.in_ok-out.ensures.cases _ _ (rw c.in_ok-used.was at c.event.ensures) in
    record { value = all.0; out_after = all.1.0; used_in_bounds = all.1.1 }
