-- `every_settled` meets its contract: the chain tests every job.
use Rattle.std.proofs.Common.{rules, tests, ◌∙◌, ℕ}
use Rattle.std.proofs.lemmas.Iterator.{YieldsList-from_slice, YieldsList-from_zip}
use Rattle.std.proofs.lemmas.Iterator.Search.{all_from_yields_List}
use Rattle.plan.specs.declared.Job.{Job}
use Rattle.entries.specs.declared.Entry.{Entry}
use Rattle.entries.specs.Entry.{settled}
use Rattle.executive.specs.StepLaws.{every_settled_all}
use Rattle.executive.proofs.stepping.every_settled.Goals as goal

pub returns : goal.returns
returns c =
    all_from_yields_List (λ (p : (Job × Entry) × ℕ). settled p.0.0 p.0.1 p.1) c.all.new.self _ _ c.all.ensures.ran (YieldsList-from_zip (YieldsList-from_zip (YieldsList-from_slice c.args.job.now cc) (YieldsList-from_slice c.args.entry.now cc)) (YieldsList-from_slice c.args.counts cc)) (λ x b q k. search (rules, tests))
    ∙ every_settled_all c.args.job.now c.args.entry.now c.args.counts
