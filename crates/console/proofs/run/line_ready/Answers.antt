-- `run::line_ready` meets its promise: the LF is in hand, or the line is too long.
use mathlib.Core.Path.{◌∙◌}
use borrow.Author.Tests.{lt-ltb}
use Rattle.console.specs.Turns.{ready_closed, ready_long}
use Rattle.console.proofs.run.line_ready.Goals as goal

pub returns-then-line_end-text : goal.returns-then-line_end-text
returns-then-line_end-text c =
    lt-ltb _ _ c.if-line_end-text.true ∙ ready_closed _ _ c.line_end.ensures c.if-line_end-text.true

pub returns-else-line_end-text : goal.returns-else-line_end-text
returns-else-line_end-text c = ready_long _ _ c.line_end.ensures c.if-line_end-text.false
