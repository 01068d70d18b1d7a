-- `Lines::jobs`: one job more stands in the slice, or its line is refused.
use Rattle.std.proofs.Common.{length, refl}
use Rattle.std.proofs.lemmas.Result.{err_from_is_err_and}
use Rattle.plan_text.specs.Read.{next_job}
use Rattle.plan_text.specs.ReaderLaws.{fills_on, fills_stop, fills_end}
use Rattle.plan_text.proofs.reader.Lines.jobs.Goals as goal

pub returns-in_err-job : goal.returns-in_err-job
returns-in_err-job c =
    let p = err_from_is_err_and c.from_residual.result c.from_residual.ensures.1 in
    rw (p.1, p.2)
    (fills_stop next_job 5 (length c.args.jobs.now) c.args.self.now _ _ _ _ c.loop-job.invariant c.loop-job-test.true _ c.job.ensures refl c.in_err-job.was)

pub loop-job-preserved : goal.loop-job-preserved
loop-job-preserved c = fills_on next_job 5 (length c.args.jobs.now) c.args.self.now _ _ _ _ c.loop-job.invariant c.loop-job-test.true _ c.job.ensures _ c.in_ok-job.was

pub returns : goal.returns
returns c = fills_end next_job 5 (length c.args.jobs.now) c.args.self.now refl _ _ _ c.loop-job.invariant c.loop-job-test.false
