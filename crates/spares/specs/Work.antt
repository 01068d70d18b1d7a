-- The work of jobs by their entries, for both rows: one definition at HI and at LO; and both rows of that work.
use Rattle.std.specs.Prelude.{ℕ, Bool, true, false}
use mathlib.Core.List.{List, zip_with}
use Rattle.words.specs.Words.{filled}
use Rattle.plan.specs.declared.Job.{Job}
use Rattle.plan.specs.declared.Plan.{Plan}
use Rattle.plan.specs.Limits.{max_jobs}
use Rattle.plan.specs.Plan.{jobs_of}
use Rattle.entries.specs.declared.Entry.{Entry}
use Rattle.entries.specs.Entry.{live}
use Rattle.intervals.specs.declared.Layout.{Layout}
use Rattle.spares.specs.declared.Rows.{Rows}
use Rattle.spares.specs.declared.work.Work.{Work}
use Rattle.spares.specs.Spares.{Spare, hi_left, lo_left, row}
use Rattle.spares.specs.InLayout.{row_in}

-- the work of one job for the HI row, or for the LO row
unfoldable pub work_left : Bool → Job → Entry → ℕ
work_left true j e = hi_left j (live e) e.given
work_left false j e = lo_left j (live e) e.given

-- of each job
unfoldable pub work_each : Bool → List Job → List Entry → List ℕ
work_each hi js es = zip_with (work_left hi) js es

-- the spares of a plan worked out afresh from its entries, the HI row or the LO row; at t = N all are 0
unfoldable pub fresh_row : Bool → Plan → ℕ → List Entry → List Spare
fresh_row hi p t es = row p t (work_each hi (jobs_of p) es)

-- for both rows, 0 beyond the jobs
unfoldable pub work_of : List Job → List Entry → Work
work_of js es = record { hi = filled max_jobs 0 (work_each true js es); lo = filled max_jobs 0 (work_each false js es) }

-- both rows of a layout for that work
abbrev pub rows_in : Layout → ℕ → Work → Rows
rows_in l t work = record { hi = row_in l t work.hi; lo = row_in l t work.lo }
