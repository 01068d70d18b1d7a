-- `coherent` meets its contract: a run by value has all the places of its arrays.
use Rattle.std.proofs.Common.{rules}
use Rattle.words.specs.ListLaws.{long}
use Rattle.executive.proofs.Run.coherent.Goals as goal

pub coherent_layout-requires : goal.coherent_layout-requires
coherent_layout-requires c = record { table = search rules; jobs = search (rules, long); entries = search (rules, long) }
