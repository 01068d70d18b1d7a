-- What the theorems say of a job's end and of its deadline. Definitions only.
use Rattle.std.specs.Prelude.{ℕ, ◌-◌, ◌≤◌, ◌≡◌, ◌⊎◌, true, false, List, length}
use Rattle.plan.specs.declared.Job.{Job}
use Rattle.plan.specs.declared.Plan.{Plan}
use Rattle.plan.specs.Plan.{job_no, is_hi}
use Rattle.executive.specs.declared.Phase.TheVariants.{T}
use Rattle.executive.specs.declared.Run.{Run}
use Rattle.promises.specs.Demands.{Event, phase_at, FinishedInTime, HadWholeBudget}
use Rattle.well_formed.specs.InOrder.{JobOf}
use Rattle.entries.specs.Entry.{waiting}
use Rattle.entries.specs.declared.Standing.{Standing}
use Rattle.entries.specs.declared.Standing.TheVariants.{Waiting, Finished, Cut, Dropped}

-- finished by the deadline; cut with hi slots; dropped: a LO job, its deadline has come, and the last slot before that was not run in phase T
abbrev pub EndTells : List Event → Job → ℕ → Standing → Type 0
EndTells h j given Waiting = Unit {0}
EndTells h j given (Finished border) = border ≤ j.deadline
EndTells h j given (Cut border) = given ≡ j.hi
EndTells h j given (Dropped border) = (is_hi j ≡ false) × (j.deadline ≤ length h) × (phase_at h (j.deadline - 1) ≡ T → ⊥)

-- what a drop at `border` has to tell
abbrev pub DropTells : List Event → Job → ℕ → Standing → Type 0
DropTells h j border s = waiting s ≡ true → is_hi j ≡ false → j.deadline ≤ border → (j.deadline ≤ length h) × (phase_at h (j.deadline - 1) ≡ T → ⊥)

-- at its deadline a job has finished or had its whole budget, if it is HI or the last slot before was run in phase T
abbrev pub MetIn : List Event → Run → Plan → Type 0
MetIn h r p =
    (k : ℕ) → JobOf p k → (job_no p k).deadline ≤ r.t → (is_hi (job_no p k) ≡ true) ⊎ (phase_at h ((job_no p k).deadline - 1) ≡ T)
    → FinishedInTime p r k ⊎ HadWholeBudget p h r k
