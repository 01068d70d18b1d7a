-- `rows_of` meets its contract: the work of the first jobs, then each row.
use Rattle.spares.proofs.rows_of.Goals as goal

pub returns : goal.returns
returns c = rw (c.row_of.ensures, c.row_of-2.ensures, c.work_of-work.ensures, c.first_jobs.ensures.all)
