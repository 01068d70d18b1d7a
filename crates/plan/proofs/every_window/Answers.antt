-- `plan::every_window` meets its contract: the library's test of all members is `every`.
use Rattle.std.proofs.lemmas.Iterator.{YieldsList-from_slice}
use Rattle.std.proofs.lemmas.Iterator.Search.{all_from_yields_List}
use borrow.Author.Rules.{rules}
use borrow.Author.Tests.{tests}
use Rattle.words.specs.EveryLaws.{every_is_all}
use Rattle.plan.specs.Rules.{window_holds}
use Rattle.plan.proofs.every_window.Goals as goal

pub returns : goal.returns
returns c =
    rw every_is_all
    (all_from_yields_List (window_holds c.args.slots) _ _ _ c.all.ensures.ran (YieldsList-from_slice c.args.jobs.now cc) (λ x b q k. search (rules, tests)))
