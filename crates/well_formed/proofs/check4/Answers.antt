-- `check4` meets its contract: the search finds the first job that breaks the rule.
use Rattle.std.proofs.lemmas.Iterator.{YieldsList-from_slice}
use Rattle.std.proofs.lemmas.Iterator.Search.{position_from_yields_List}
use Rattle.std.specs.Prelude.{not}
use borrow.Author.Rules.{rules}
use borrow.Author.Tests.{tests}
use Rattle.answers.specs.declared.Refusal.{Refusal}
use Rattle.plan.specs.Rules.{window_holds}
use Rattle.well_formed.specs.WellFormed.{check4}
use Rattle.well_formed.specs.PlaceLaws.{told_at}
use Rattle.well_formed.proofs.check4.Goals as goal

pub returns : goal.returns
unfolding check4
returns c =
    rw (← c.jobs_of-jobs.ensures.jobs)
    (told_at Refusal.Window (window_holds c.args.p.now.slots) _ (λ i e k. search rules) c.jobs_of-jobs.result.now c.position.result _
    (position_from_yields_List (λ j. not (window_holds c.args.p.now.slots j)) _ _ c.position.result c.position.ensures.ran (YieldsList-from_slice c.jobs_of-jobs.result.now cc) (λ x b q k. search (rules, tests)))
    c.refused.ensures)
