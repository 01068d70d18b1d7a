-- `choose` meets its contract: refused as the call is, otherwise the choice of a run that goes on.
use Rattle.std.proofs.Common.{rules, ap, ◌∙◌}
use Rattle.words.specs.ListLaws.{long}
use Rattle.executive.specs.CallLaws.{choice_refused, choice_made}
use Rattle.executive.specs.Choice.{choose}
use Rattle.executive.proofs.Run.choose.Goals as goal

pub returns-in-Ok : goal.returns-in-Ok
returns-in-Ok c =
    let g = c.in-Ok.going in
    c.choice.ensures ∙ choice_made g.run.now g.coherent g.before ∙ ap choose c.in-Ok.ensures.going

pub returns-in-Err : goal.returns-in-Err
returns-in-Err c = c.no_choice.ensures ∙ choice_refused c.args.self _ c.in-Err.ensures.refused

pub going-requires : goal.going-requires
going-requires c = record { table = search rules; jobs = search (rules, long); entries = search (rules, long) }
