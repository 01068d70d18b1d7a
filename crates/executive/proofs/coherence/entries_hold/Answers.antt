-- `entries_hold` meets its contract: the chain tests every pair.
use Rattle.std.proofs.Common.{rules, tests}
use Rattle.std.proofs.lemmas.Iterator.{YieldsList-from_slice, YieldsList-from_zip}
use Rattle.std.proofs.lemmas.Iterator.Search.{all_from_yields_List}
use Rattle.plan.specs.declared.Job.{Job}
use Rattle.entries.specs.declared.Entry.{Entry}
use Rattle.entries.specs.Entry.{entry_holds}
use Rattle.words.specs.ZipLaws.{every_pair}
use Rattle.executive.proofs.coherence.entries_hold.Goals as goal

pub returns : goal.returns
returns c =
    rw every_pair
    (all_from_yields_List (λ (p : Job × Entry). entry_holds c.args.t p.0 p.1) c.all.new.self _ _ c.all.ensures.ran (YieldsList-from_zip (YieldsList-from_slice c.args.job.now cc) (YieldsList-from_slice c.args.entry.now cc)) (λ x b q k. search (rules, tests)))
