-- The plan: its n jobs, its N slots, the blank one, when two are equal, and the counts of table slots.
use Rattle.std.specs.Prelude.{ℕ, ◌+◌, ◌-◌, ◌≡◌, Bool, true, false, List, [], ◌∷◌, map, take, get_or, replicate, if◌then◌else◌}
use Rattle.words.specs.Words.{◌=?◌, count_up}
use Rattle.plan.specs.declared.Level.{Level}
use Rattle.plan.specs.declared.Level.TheVariants.{Lo, Hi}
use Rattle.plan.specs.declared.Job.{Job}
use Rattle.plan.specs.declared.Plan.{Plan}
use Rattle.plan.specs.Limits.{max_slots, max_jobs}

-- the first n jobs
abbrev pub jobs_of : Plan → List Job
jobs_of p = take p.jobs p.job

-- the first N slots of the table
abbrev pub slots_of : Plan → List ℕ
slots_of p = take p.slots p.table

-- beyond n every level is LO and every entry 0
abbrev pub blank_job : Job
blank_job = record { level = Lo; release = 0; deadline = 0; lo = 0; hi = 0 }

abbrev pub blank_plan : Plan
blank_plan = record { slots = 0; jobs = 0; job = replicate max_jobs blank_job; table = replicate max_slots 0 }

-- job k; jobs are numbered from 1
abbrev pub job_no : Plan → ℕ → Job
job_no p k = get_or p.job (k - 1) blank_job

-- the table's entry for slot t
abbrev pub table_at : Plan → ℕ → ℕ
table_at p t = get_or p.table t 0

abbrev pub high : Level → Bool
high Lo = false
high Hi = true

abbrev pub is_hi : Job → Bool
is_hi j = high j.level

-- plans are equal when N, n, the first n jobs and the first N slots agree
abbrev pub SamePlan : Plan → Plan → Type 0
SamePlan p q = (p.slots ≡ q.slots) × (p.jobs ≡ q.jobs) × (jobs_of p ≡ jobs_of q) × (slots_of p ≡ slots_of q)

-- how many of the slots name job k
unfoldable pub naming : ℕ → List ℕ → ℕ
naming k [] = 0
naming k (s ∷ ss) = (if s =? k then 1 else 0) + naming k ss

-- the table slots of job k before border t
abbrev pub table_slots : Plan → ℕ → ℕ → ℕ
table_slots p t k = naming k (take t p.table)

-- the counts of table slots, one per job, at border t
unfoldable pub counts_at : Plan → ℕ → List ℕ
counts_at p t = map (table_slots p t) (count_up 1 max_jobs)
