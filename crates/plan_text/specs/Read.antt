-- The plan text and its reading.
use Rattle.std.specs.Prelude.{ℕ, if◌then◌else◌}
use mathlib.Core.List.{List, ◌++◌, flat_map}
use Rattle.std.specs.Prelude.{Option, None, Some}
use Rattle.plan.specs.declared.Level.{Level}
use Rattle.plan.specs.declared.Level.TheVariants.{Lo, Hi}
use Rattle.plan.specs.declared.Job.{Job}
use Rattle.plan.specs.declared.Plan.{Plan}
use Rattle.answers.specs.Answer.{Accepted, SlotLimit, JobLimit, ◌unless◌}
use Rattle.words.specs.Words.{filled}
use Rattle.plan.specs.Limits.{max_slots, max_jobs, one_to}
use Rattle.plan.specs.Plan.{jobs_of, slots_of, blank_job, blank_plan}
use Rattle.plan_text.specs.declared.PlanRead.{PlanRead}
use Rattle.lines.specs.Lines.{bytes, line, number_line, same_bytes, number, Cursor, Read, got, refused, Reader, give, ◌>>=◌, must, many, field, nothing_after}

-- ---- the text

abbrev pub level_text : Level → List ℕ
level_text Hi = bytes "HI"
level_text Lo = bytes "LO"

unfoldable pub job_text : Job → List ℕ
job_text j =
    line "level=" (level_text j.level)
    ++ number_line "release=" j.release
    ++ number_line "deadline=" j.deadline
    ++ number_line "lo=" j.lo
    ++ number_line "hi=" j.hi

-- the text of a plan: each plan has one
unfoldable pub plan_text : Plan → List ℕ
plan_text p =
    number_line "slots=" p.slots
    ++ number_line "jobs=" p.jobs
    ++ flat_map job_text (jobs_of p)
    ++ flat_map (number_line "slot=") (slots_of p)

-- ---- read

-- a level is HI or LO
unfoldable pub level_in : List ℕ → Option Level
level_in s =
    if same_bytes s (bytes "HI") then Some Hi
    else if same_bytes s (bytes "LO") then Some Lo
    else None

-- the five lines of a job
unfoldable pub next_job : Reader Job
next_job = do
  level ← field level_in "level="
  release ← field number "release="
  deadline ← field number "deadline="
  lo ← field number "lo="
  hi ← field number "hi="
  give (record { level = level; release = release; deadline = deadline; lo = lo; hi = hi })

-- the lines of a plan in their fixed order; 2 and 3 are judged on their line; 0 and LO stand beyond n and N
unfoldable pub next_plan : Reader Plan
next_plan = do
  slots ← field number "slots="
  _ ← must (SlotLimit unless one_to max_slots slots)
  jobs ← field number "jobs="
  _ ← must (JobLimit unless one_to max_jobs jobs)
  job ← many jobs next_job
  table ← many slots (field number "slot=")
  give (record { slots = slots; jobs = jobs; job = filled max_jobs blank_job job; table = filled max_slots 0 table })

-- the start of a text is line 1
abbrev pub start_of : List ℕ → Cursor
start_of s = record { line_no = 1; text = s }

-- the plan and nothing after
unfoldable pub only_plan : Reader Plan
only_plan = do
  plan ← next_plan
  _ ← nothing_after
  give plan

-- a refused text yields the blank plan
abbrev pub plan_read : Read Plan → PlanRead
plan_read (got plan here) = record { answer = Accepted; plan = plan }
plan_read (refused answer) = record { answer = answer; plan = blank_plan }

unfoldable pub read_plan : List ℕ → PlanRead
read_plan s = plan_read (only_plan (start_of s))
