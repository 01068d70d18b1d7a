-- `run::fresh_console` meets its promise.
use Rattle.console.proofs.run.fresh_console.Goals as goal

pub returns : goal.returns
returns c = rw c.blank_run.ensures
