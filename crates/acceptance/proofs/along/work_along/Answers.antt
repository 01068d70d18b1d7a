-- `work_along` meets its contract: at each place stands the work of the job there.
use Rattle.std.proofs.Common.{rules, tests, arith, ◌≡◌, sym, ◌∙◌, length, get_or}
use Rattle.words.specs.ListLaws.{long}
use Rattle.words.specs.MadeLaws.{from_fn_is}
use Rattle.words.specs.ZipLaws.{zip_length, zip_at}
use Rattle.plan.specs.Plan.{blank_job}
use Rattle.acceptance.specs.Work.{left_along, work_along}
use Rattle.acceptance.proofs.along.work_along.Goals as goal

pub returns : goal.returns
returns c =
    let job = c.args.job.now in
    let counts = c.args.counts in
    let size : length counts ≡ 32 = search (rules, long) in
    let long_work : length (work_along job counts) ≡ 32 = zip_length left_along job counts (omega (arith, c.told-job, size)) ∙ c.told-job in
    from_fn_is _ _ c.from_fn.result (work_along job counts) 0
    (λ i y q e.
    let k : (q ≡ (c.args.job, c.args.counts)) × (y ≡ left_along (get_or job i blank_job) (get_or counts i 0)) = search (rules, tests) in
    (k.0, λ h. k.1 ∙ sym (zip_at left_along job counts i blank_job 0 0 (omega (arith, long_work, c.told-job)) (omega (arith, long_work, size)))))
    _ long_work c.from_fn.ensures.items
