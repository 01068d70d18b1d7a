-- `start` meets its contract: the analysis decides between a new run and the blank one.
use Rattle.std.proofs.Common.{ap, ◌∙◌}
use Rattle.std.proofs.Math.Bool.{not}
use Rattle.answers.specs.Answer.{accepted}
use Rattle.executive.specs.StartLaws.{start_refused, start_made}
use Rattle.executive.proofs.start.Goals as goal

pub returns-then-is_err : goal.returns-then-is_err
unfolding accepted
returns-then-is_err c = rw c.blank_run.ensures (start_refused c.args.p _ c.analysis_of-answer.ensures (c.is_err.ensures.negation ∙ ap not c.if-is_err.true))

pub returns : goal.returns
unfolding accepted
returns c = rw c.fresh_entries.ensures (start_made c.args.p _ c.analysis_of-answer.ensures (c.is_err.ensures.negation ∙ ap not c.if-is_err.false))
