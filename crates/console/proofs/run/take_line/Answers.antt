-- `run::take_line` meets its promise: the wait for the line, a bad line, or the report on it.
use mathlib.Core.Path.{sym, ◌∙◌}
use Rattle.console.specs.Turns.{told_is, told_wait, line_waits, line_bad, line_steps}
use Rattle.console.proofs.run.take_line.Goals as goal

pub returns-then-not-line_ready : goal.returns-then-not-line_ready
returns-then-not-line_ready c =
    told_is (line_waits c.args.c.now c.args.text.now (sym c.line_ready.ensures ∙ c.if-not-line_ready.true)) (told_wait _ _)

pub returns-in-None : goal.returns-in-None
returns-in-None c =
    told_is (line_bad c.args.c.now c.args.text.now (sym c.line_ready.ensures ∙ c.if-not-line_ready.false) (sym c.in-None.is ∙ c.report_field.ensures)) c.refused.ensures

pub returns-in-Some : goal.returns-in-Some
returns-in-Some c =
    told_is (line_steps c.args.c.now c.args.text.now (sym c.line_ready.ensures ∙ c.if-not-line_ready.false) _ _ (sym c.in-Some.is ∙ c.report_field.ensures)) c.stepped.ensures
