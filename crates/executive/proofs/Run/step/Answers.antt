-- `step` meets its contract: a run by value has all the places of its arrays; the next run is that of the run that goes on.
use Rattle.std.proofs.Common.{rules, sym, ap, ◌∙◌}
use Rattle.words.specs.ListLaws.{long}
use Rattle.executive.specs.Choice.{chosen}
use Rattle.executive.proofs.Run.step.Goals as goal

pub allowed-requires : goal.allowed-requires
allowed-requires c = record { table = search rules; jobs = search (rules, long); entries = search (rules, long) }

pub next_run-requires : goal.next_run-requires
next_run-requires c = c.in-Ok.ensures.made ∙ ap chosen (sym c.in-Ok.ensures.going)

pub returns-in-Ok : goal.returns-in-Ok
returns-in-Ok c =
    let next = c.next_run.ensures in
    let going = c.in-Ok.ensures.going in
    let stepped = c.in-Ok.ensures.stepped in
    search rules
