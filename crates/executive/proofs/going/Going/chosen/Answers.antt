-- `chosen` meets its contract, phase by phase.
use Rattle.std.proofs.Common.{sym, ap, ◌∙◌}
use Rattle.executive.specs.declared.Phase.{Phase}
use Rattle.executive.specs.Choice.{chosen_in, chosen}
use Rattle.executive.proofs.going.Going.chosen.Goals as goal

pub returns-in-T : goal.returns-in-T
unfolding chosen
returns-in-T c = c.chosen_t.ensures ∙ sym (ap (λ (h : Phase). chosen_in h c.args.self.now.run.now) c.in-T.is)

pub returns-in-H : goal.returns-in-H
unfolding chosen
returns-in-H c = c.chosen_h.ensures ∙ sym (ap (λ (h : Phase). chosen_in h c.args.self.now.run.now) c.in-H.is)
