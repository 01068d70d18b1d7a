-- `check7` meets its contract: the search finds the first job whose count is not its lo.
use Rattle.std.proofs.lemmas.Iterator.{YieldsList-from_slice, YieldsList-from_zip}
use Rattle.std.proofs.lemmas.Iterator.Consumers.{YieldsList-at}
use Rattle.std.proofs.lemmas.Iterator.Search.{position_from_yields_List}
use Rattle.std.specs.Prelude.{ℕ, suc, ◌+◌, ◌-◌, ◌≤◌, ◌≡◌, refl, not, Err, List, [], ◌∷◌, length, drop, get_or}
use Rattle.std.specs.List.{zip}
use Rattle.std.proofs.Common.{arith, ◌∙◌, drop-cons}
use borrow.Author.Rules.{rules}
use borrow.Author.Tests.{tests}
use Rattle.words.specs.Words.{◌=?◌}
use Rattle.answers.specs.declared.Refusal.{Refusal}
use Rattle.answers.specs.Answer.{accepted, ◌unless◌, first_refusal}
use Rattle.plan.specs.declared.Job.{Job}
use Rattle.plan.specs.Limits.{max_jobs}
use Rattle.plan.specs.Plan.{jobs_of}
use Rattle.well_formed.specs.PlaceLaws.{told_at}
use Rattle.well_formed.proofs.Laws.{counts_rule}
use Rattle.well_formed.proofs.check7.Goals as goal

-- each job beside its count is each job with the count at its place
beside : (counts : List ℕ) (i : ℕ) (jobs : List Job) → i + length jobs ≤ length counts
    → first_refusal (λ k (x : Job × ℕ). Err (Refusal.TableCount k) unless (x.1 =? x.0.lo)) (suc i) (zip jobs (drop i counts)) ≡ first_refusal (λ k (j : Job). Err (Refusal.TableCount k) unless (get_or counts (k - 1) 0 =? j.lo)) (suc i) jobs
unfolding first_refusal accepted
beside counts i [] l = refl
beside counts i (j ∷ jobs) l =
    let place : suc i - 1 ≡ i = omega arith in
    rw (drop-cons counts i 0 (omega arith), beside counts (suc i) jobs (omega arith), place)

pub returns : goal.returns
returns c e =
    let jobs : c.jobs_of-jobs.result.now ≡ jobs_of c.args.p.now = c.jobs_of-jobs.ensures.jobs in
    let few : length (jobs_of c.args.p.now) ≤ max_jobs = rw jobs at c.jobs_of-jobs.ensures.few in
    told_at Refusal.TableCount (λ (x : Job × ℕ). x.1 =? x.0.lo) _ (λ i e k. search rules) (zip (jobs_of c.args.p.now) c.args.counts) c.position.result _
    (position_from_yields_List (λ (x : Job × ℕ). not (x.1 =? x.0.lo)) c.position.new.self _ c.position.result c.position.ensures.ran (YieldsList-from_zip (YieldsList-at c.zip.ensures.first (YieldsList-from_slice (jobs_of c.args.p.now) cc)) (YieldsList-at c.zip.ensures.second (YieldsList-from_slice c.args.counts cc))) (λ x b q k. search (rules, tests)))
    c.refused.ensures
    ∙ beside c.args.counts 0 (jobs_of c.args.p.now) (let l : length c.args.counts ≡ 32 = search rules in omega arith)
    ∙ counts_rule c.args.p.now c.args.counts e few
