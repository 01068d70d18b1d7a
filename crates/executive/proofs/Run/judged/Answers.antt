-- `judged` meets its contract: a run by value has all the places of its arrays.
use Rattle.std.proofs.Common.{rules}
use Rattle.words.specs.ListLaws.{long}
use Rattle.executive.proofs.Run.judged.Goals as goal

pub phase_after-requires : goal.phase_after-requires
phase_after-requires c = record { table = search rules; jobs = search (rules, long); entries = search (rules, long) }
