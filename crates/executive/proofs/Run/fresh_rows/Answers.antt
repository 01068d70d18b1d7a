-- `fresh_rows` meets its contract: the rows worked out for these jobs and entries.
use Rattle.executive.specs.FreshLaws.{fresh_of_run}
use Rattle.executive.proofs.Run.fresh_rows.Goals as goal

pub returns : goal.returns
returns c = fresh_of_run c.args.self.now _ _ c.requires.0 c.requires.1 c.rows_of.ensures
