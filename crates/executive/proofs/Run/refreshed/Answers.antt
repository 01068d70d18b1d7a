-- `refreshed` meets its contract: both rows are the fresh ones.
use Rattle.std.proofs.Common.{rules}
use Rattle.words.specs.ListLaws.{long}
use Rattle.executive.specs.Step.{refreshed}
use Rattle.executive.proofs.Run.refreshed.Goals as goal

pub fresh_rows-requires : goal.fresh_rows-requires
fresh_rows-requires c = (record { few = c.requires.0; jobs = search (rules, long); entries = search (rules, long) }, c.requires.1)

pub returns : goal.returns
unfolding refreshed
returns c = search (rules, c.fresh_rows.ensures)
