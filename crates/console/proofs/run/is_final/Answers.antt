-- `run::is_final` meets its promise: the line at fault is complete, or the bytes in hand are enough.
use Rattle.console.specs.Turns.{final_closed, final_long}
use Rattle.console.proofs.run.is_final.Goals as goal

pub returns-then-has_lines : goal.returns-then-has_lines
returns-then-has_lines c = final_closed _ _ _ c.first_place.ensures _ c.has_lines.ensures c.if-has_lines.true

pub returns-else-has_lines : goal.returns-else-has_lines
returns-else-has_lines c = final_long _ _ _ c.first_place.ensures _ c.has_lines.ensures c.if-has_lines.false
