-- What the theorems say of the choice: who leads whom, the earliest of some jobs, the ready jobs. Definitions only.
use Rattle.std.specs.Prelude.{ℕ, ◌≤◌, ◌<◌, ◌≡◌, ◌⊎◌, true, false}
use Rattle.plan.specs.declared.Plan.{Plan}
use Rattle.plan.specs.Plan.{job_no, is_hi}
use Rattle.executive.specs.declared.Run.{Run}
use Rattle.executive.specs.Run.{entry_no}
use Rattle.well_formed.specs.InOrder.{JobOf}
use Rattle.ready.specs.declared.Slot.{Slot}
use Rattle.entries.specs.Entry.{live}
use Rattle.ready.specs.Ready.{goes_before}

-- job m leads job k: least d, then HI before LO, then the lower number
abbrev pub Leads : Plan → ℕ → ℕ → Type 0
Leads p m k = (goes_before (job_no p k) (job_no p m) ≡ false) × (k < m → goes_before (job_no p m) (job_no p k) ≡ true)

-- the one of those with a property that leads them all, or idle where none has it
abbrev pub EarliestOf : Plan → (ℕ → Type 0) → Slot → Type 0
EarliestOf p Has slot =
    ((slot ≡ Slot.Idle) × ((k : ℕ) → JobOf p k → Has k → ⊥))
    ⊎ ((m : ℕ) × (slot ≡ Slot.Job m) × JobOf p m × Has m × ((k : ℕ) → JobOf p k → Has k → Leads p m k))

-- job k is ready
abbrev pub Ready : Run → ℕ → Type 0
Ready r k = (live (entry_no r k) ≡ true) × ((job_no r.plan k).release ≤ r.t)

-- the earliest-deadline ready job, or idle where none is ready; the same of the HI jobs
abbrev pub EarliestReady : Run → Slot → Type 0
EarliestReady r slot = EarliestOf r.plan (λ k. Ready r k) slot

abbrev pub EarliestReadyHi : Run → Slot → Type 0
EarliestReadyHi r slot = EarliestOf r.plan (λ k. (is_hi (job_no r.plan k) ≡ true) × Ready r k) slot
