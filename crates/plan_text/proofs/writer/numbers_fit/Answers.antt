-- `writer::numbers_fit`: a job that is refused, and the slots after the last job.
use Rattle.std.proofs.Common.{◌≡◌, ◌+◌, ◌*◌, length, sym, ◌∙◌, arith, ap}
use Rattle.plan.specs.Plan.{jobs_of, blank_job}
use Rattle.plan_text.specs.WriterLaws.{job_stops, jobs_end}
use Rattle.plan_text.proofs.writer.numbers_fit.Goals as goal

pub returns-in_err-job_fits : goal.returns-in_err-job_fits
returns-in_err-job_fits c =
    let x = job_stops _ _ (jobs_of c.args.p.now) blank_job _ _ (rw c.first_jobs-job-items.ensures.all at c.loop-job-test.true) c.loop-job.invariant.answer c.in_err-job_fits.field-0.0 (sym (rw c.first_jobs-job-items.ensures.all at c.job_fits.ensures) ∙ c.in_err-job_fits.was) in
    grind (arith, x)

pub loop-name-init : goal.loop-name-init
loop-name-init c =
    let n : c.loop-job.line ≡ 3 + 5 * length (jobs_of c.args.p.now) = omega (arith, ap length c.first_jobs-job-items.ensures.all) in
    record { at_line = omega arith; answer = rw n (jobs_end _ _ (jobs_of c.args.p.now) _ _ (rw c.first_jobs-job-items.ensures.all at c.loop-job-test.false) c.loop-job.invariant.answer) }
