-- The acceptance promise, as statements: A1 (check 8) and A2 (check 9) of a plan in order. Definitions only.
use Rattle.std.specs.Prelude.{ℕ, suc, ◌+◌, ◌-◌, ◌≤◌, ◌<◌, ◌≡◌, true}
use Rattle.words.specs.Words.{◌<?◌}
use Rattle.windows.specs.Windows.{Windows, within, InTime}
use Rattle.plan.specs.declared.Plan.{Plan}
use Rattle.plan.specs.Plan.{is_hi, table_at}
use Rattle.spares.specs.Spares.{hi_left}
use Rattle.well_formed.specs.InOrder.{job_at, tab}

-- the windows of the plan's jobs
abbrev pub windows_of : Plan → Windows
windows_of p = record { count = p.jobs; release = λ k. (job_at p k).release; deadline = λ k. (job_at p k).deadline }

-- the hi of the HI jobs, 0 of the others
unfoldable pub hi_of : Plan → ℕ → ℕ
hi_of p k = hi_left (job_at p k) true 0

-- what may still be asked at border t along the table: hi less the table slots before t, of the HI jobs that have had fewer than lo of them
unfoldable pub asked : Plan → ℕ → ℕ → ℕ
asked p t k = hi_left (job_at p k) (tab p k t <? (job_at p k).lo) (tab p k t)

-- A1: for all a and b, the hi of the HI jobs with r >= a and d <= b sum to b - a at most
abbrev pub A1 : Plan → Type 0
A1 p = (a b : ℕ) → within (windows_of p) (hi_of p) a b ≤ b - a

-- A2: for all t < N and e, what may still be asked at border t along the table by the jobs with d <= e sums to e - t at most
abbrev pub A2 : Plan → Type 0
A2 p = (t : ℕ) → t < p.slots → InTime (windows_of p) t (asked p t)

-- slot t is the lo-th table slot of a HI job at place k: along the table the job ends in it
abbrev pub EndsIn : Plan → ℕ → ℕ → Type 0
EndsIn p t k = (is_hi (job_at p k) ≡ true) × (table_at p t ≡ suc k) × (tab p k t + 1 ≡ (job_at p k).lo)

-- no HI job ends in a slot from border a to border b
abbrev pub NoEnd : Plan → ℕ → ℕ → Type 0
NoEnd p a b = (t k : ℕ) → a ≤ t → t < b → k < p.jobs → EndsIn p t k → ⊥
