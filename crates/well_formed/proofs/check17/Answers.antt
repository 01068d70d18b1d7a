-- `check17` meets its contract: the search finds the first job with too many runs.
use Rattle.std.proofs.lemmas.Iterator.{YieldsList-from_slice}
use Rattle.std.proofs.lemmas.Iterator.Search.{position_from_yields_List}
use Rattle.std.specs.Prelude.{ℕ, ◌≤◌, ◌≡◌, length, not, take}
use Rattle.std.proofs.Common.{◌∙◌}
use borrow.Author.Rules.{rules}
use borrow.Author.Tests.{tests}
use Rattle.words.specs.Words.{◌≤?◌}
use Rattle.answers.specs.declared.Refusal.{Refusal}
use Rattle.plan.specs.Limits.{max_jobs}
use Rattle.plan.specs.Plan.{jobs_of}
use Rattle.well_formed.specs.Runs.{max_runs}
use Rattle.well_formed.specs.PlaceLaws.{told_at}
use Rattle.well_formed.proofs.Laws.{runs_rule}
use Rattle.well_formed.proofs.check17.Goals as goal

pub returns : goal.returns
returns c e =
    let jobs : c.jobs_of.result.now ≡ jobs_of c.args.p.now = c.jobs_of.ensures.jobs in
    let few : length (jobs_of c.args.p.now) ≤ max_jobs = rw jobs at c.jobs_of.ensures.few in
    told_at Refusal.Chopped (λ (n : ℕ). n ≤? max_runs) _ (λ i e k. search rules) (take (length (jobs_of c.args.p.now)) c.args.runs) c.position.result _
    (position_from_yields_List (λ (n : ℕ). not (n ≤? max_runs)) _ _ c.position.result c.position.ensures.ran (YieldsList-from_slice (take (length (jobs_of c.args.p.now)) c.args.runs) cc) (λ x b q k. search (rules, tests)))
    c.refused.ensures
    ∙ runs_rule c.args.p.now c.args.runs e few c.requires
