-- A plan in order: what checks 2 to 7 promise of each job and each slot, and the words for plans and jobs that every theorem above uses. Definitions only: InOrderLaws shows that a plan which passes them is in order.
-- Jobs are counted here by their place, from 0: the job at place k has the number suc k, which is its name in the table.
use Rattle.std.specs.Prelude.{ℕ, suc, ◌≤◌, ◌<◌, ◌≡◌, false, List, length, take, drop, get_or}
use Rattle.plan.specs.declared.Job.{Job}
use Rattle.plan.specs.declared.Plan.{Plan}
use Rattle.plan.specs.Limits.{max_slots, max_jobs}
use Rattle.plan.specs.Plan.{blank_job, job_no, is_hi, naming, table_at, table_slots}

-- ---- plans and their jobs

-- a plan record as the code has it: its arrays have their lengths
abbrev pub Sized : Plan → Type 0
Sized p = (length p.job ≡ max_jobs) × (length p.table ≡ max_slots)

-- k is the number of a job of the plan
abbrev pub JobOf : Plan → ℕ → Type 0
JobOf p k = (1 ≤ k) × (k ≤ p.jobs)

-- the slots that job k has inside its window, where `who` says slot by slot who has it, 0 for nobody
abbrev pub in_window : Plan → ℕ → List ℕ → ℕ
in_window p k who = naming k (drop (job_no p k).release (take (job_no p k).deadline who))

-- ---- jobs by their place

-- the job at place k
abbrev pub job_at : Plan → ℕ → Job
job_at p k = get_or p.job k blank_job

-- the table slots before border t of the job at place k
abbrev pub tab : Plan → ℕ → ℕ → ℕ
tab p k t = table_slots p t (suc k)

-- ---- the promise

-- what checks 2 to 7 say of each job and each slot of a record whose arrays have their lengths
pub record InOrder (p : Plan) : Type 0 where
  pub job_array : length p.job ≡ max_jobs
  pub table_array : length p.table ≡ max_slots
  pub slots : (1 ≤ p.slots) × (p.slots ≤ max_slots)
  pub jobs : (1 ≤ p.jobs) × (p.jobs ≤ max_jobs)
  pub window : (k : ℕ) → k < p.jobs → (job_at p k).release < (job_at p k).deadline
  pub ends : (k : ℕ) → k < p.jobs → (job_at p k).deadline ≤ p.slots
  pub some : (k : ℕ) → k < p.jobs → 1 ≤ (job_at p k).lo
  pub budget : (k : ℕ) → k < p.jobs → (job_at p k).lo ≤ (job_at p k).hi
  pub most : (k : ℕ) → k < p.jobs → (job_at p k).hi ≤ p.slots
  pub low : (k : ℕ) → k < p.jobs → is_hi (job_at p k) ≡ false → (job_at p k).lo ≡ (job_at p k).hi
  pub names : (s : ℕ) → s < p.slots → (k : ℕ) → table_at p s ≡ suc k → (k < p.jobs) × ((job_at p k).release ≤ s) × (s < (job_at p k).deadline)
  pub full : (k : ℕ) → k < p.jobs → tab p k p.slots ≡ (job_at p k).lo
