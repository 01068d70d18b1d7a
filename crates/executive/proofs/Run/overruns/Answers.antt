-- `overruns` meets its contract: a number beyond the jobs has the blank job, which overruns nothing.
use Rattle.std.proofs.Common.{arith, ◌∙◌, sym}
use borrow.Author.Tests.{le-ltb}
use Rattle.executive.specs.StepLaws.{none_beyond}
use Rattle.executive.proofs.Run.overruns.Goals as goal

pub bounds-self-i : goal.bounds-self-i
bounds-self-i c = omega (arith, c.requires.jobs)

pub returns-else-i-lt-JOBS : goal.returns-else-i-lt-JOBS
returns-else-i-lt-JOBS c =
    le-ltb _ _ c.if-i-lt-JOBS.false ∙ sym (none_beyond c.args.self.now _ _ _ c.in-Job.is c.index-i.ensures.0 (omega (arith, c.requires.jobs)))
