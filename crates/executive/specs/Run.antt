-- The run: the fresh spares, the blank run, and a new run.
use Rattle.std.specs.Prelude.{ℕ, ◌-◌, true, false, List, get_or, replicate, if◌then◌else◌}
use Rattle.plan.specs.declared.Plan.{Plan}
use Rattle.answers.specs.Answer.{Accepted, accepted}
use Rattle.plan.specs.Limits.{max_jobs}
use Rattle.plan.specs.Plan.{jobs_of, blank_plan}
use Rattle.spares.specs.Spares.{Spare, row, no_spares, current}
use Rattle.spares.specs.Work.{work_each}
use Rattle.acceptance.specs.Acceptance.{acceptance}
use Rattle.acceptance.specs.Analysis.{hi_at_start, lo_at_start}
use Rattle.entries.specs.declared.Entry.{Entry}
use Rattle.entries.specs.Entry.{fresh_entry}
use Rattle.executive.specs.declared.Phase.TheVariants.{T}
use Rattle.executive.specs.declared.Run.{Run}
use Rattle.executive.specs.declared.Started.{Started}

-- the entry of job k
abbrev pub entry_no : Run → ℕ → Entry
entry_no r k = get_or r.entry (k - 1) fresh_entry

-- HI and LO work of the run's jobs
unfoldable pub hi_work : Run → List ℕ
hi_work r = work_each true (jobs_of r.plan) r.entry

unfoldable pub lo_work : Run → List ℕ
lo_work r = work_each false (jobs_of r.plan) r.entry

-- the spares worked out afresh; at t = N all are 0
unfoldable pub fresh_hi : Run → List Spare
fresh_hi r = row r.plan r.t (hi_work r)

unfoldable pub fresh_lo : Run → List Spare
fresh_lo r = row r.plan r.t (lo_work r)

-- the current spares, from the rows that the run keeps
abbrev pub current_hi : Run → Spare
current_hi r = current r.plan r.t r.hi

abbrev pub current_lo : Run → Spare
current_lo r = current r.plan r.t r.lo

-- the blank plan, t = 0, phase T, all spares 0, every entry waiting with 0 given
abbrev pub blank_run : Run
blank_run = record { plan = blank_plan; t = 0; phase = T; hi = no_spares; lo = no_spares; entry = replicate max_jobs fresh_entry }

-- that plan, t = 0, phase T, the spares of border 0, every entry, those beyond n too, waiting with 0 given
abbrev pub new_run : Plan → Run
new_run p = record { plan = p; t = 0; phase = T; hi = row p 0 (hi_at_start p); lo = row p 0 (lo_at_start p); entry = replicate max_jobs fresh_entry }

-- a new run is made only from an accepted plan; otherwise the plan's refusal is the answer
unfoldable pub start : Plan → Started
start p =
    let answer = acceptance p in
    if accepted answer then record { answer = Accepted; run = new_run p } else record { answer = answer; run = blank_run }
