-- `choice` meets its contract: the slot, the ready jobs counted, the current spares.
use Rattle.std.proofs.Common.{rules, ◌∙◌}
use mir.Facts.{to_z-of_z}
use mir.Syntax.{w32}
use Rattle.executive.specs.ChoiceLaws.{choice_is}
use Rattle.executive.proofs.going.Going.choice.Goals as goal

pub returns : goal.returns
returns c =
    let g = c.args.self.now in
    choice_is _ _ _ _ _ c.chosen-slot.ensures g.ready_now (to_z-of_z {w = w32} (search rules) ∙ g.hi_now) (to_z-of_z {w = w32} (search rules) ∙ g.lo_now)
