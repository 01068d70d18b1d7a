-- `Lines::jobs`: so many jobs stand in front, five lines to each.
use Rattle.std.proofs.Common.{length}
use Rattle.plan_text.specs.Read.{next_job}
use Rattle.plan_text.specs.ReaderLaws.{Fills}
use Rattle.plan_text.proofs.reader.Lines.jobs.Given as goal

abbrev pub invariant-loop-job : goal.invariant-loop-job
invariant-loop-job l = Fills next_job 5 (length l.initial.job-items) l.initial.self l.job-items l.self l.job-index
