-- What the theorems say of runs: when a report is taken, the slots of a history, and what every run that comes from a start keeps. Definitions only.
-- In the invariant jobs are counted by their place, from 0, as in the acceptance promise.
use Rattle.std.specs.Prelude.{ℕ, suc, ◌≤◌, ◌<◌, ◌≡◌, Bool, true, false, List, ◌∷◌, length, take, drop, get_or, if◌then◌else◌}
use Rattle.answers.specs.Answer.{accepted}
use Rattle.windows.specs.Windows.{Feasible}
use Rattle.plan.specs.declared.Job.{Job}
use Rattle.plan.specs.declared.Plan.{Plan}
use Rattle.plan.specs.Limits.{max_jobs}
use Rattle.plan.specs.Plan.{job_no, is_hi}
use Rattle.well_formed.specs.WellFormed.{well_formed}
use Rattle.well_formed.specs.InOrder.{job_at, InOrder, JobOf, Sized}
use Rattle.spare_theory.specs.Promise.{windows_of}
use Rattle.acceptance_promise.specs.OneSlot.{hi_remaining, OnTable}
use Rattle.entries.specs.declared.Entry.{Entry}
use Rattle.executive.specs.declared.Phase.TheVariants.{T}
use Rattle.executive.specs.declared.Run.{Run}
use Rattle.entries.specs.declared.Kind.{Kind}
use Rattle.executive.specs.declared.Report.{Report}
use Rattle.entries.specs.Entry.{live, fresh_entry, standing_holds, ran_on, expired_entry}
use Rattle.executive.specs.Run.{entry_no, fresh_hi, fresh_lo}
use Rattle.executive.specs.Coherent.{coherent}
use Rattle.executive.specs.Choice.{chosen}
use Rattle.executive.specs.Step.{kind_fits}
use Rattle.promises.specs.Demands.{Event, event, Reached}

-- ---- one step

-- what it means that a report is accepted
pub record Taken (r : Run) (report : Report) : Type 0 where
  pub whole : coherent r ≡ true
  pub more : r.t < r.plan.slots
  pub slot : report.slot ≡ r.t
  pub fits : kind_fits (chosen r) report.kind ≡ true

-- ---- one entry

-- the entry of one job with the report of the slot that ends at `border`: `own` says whether the slot was its own
abbrev pub reported_entry : ℕ → Job → Bool → Kind → Entry → Entry
reported_entry border j own kind e = if own then ran_on kind border j e else e

-- and after expiry
unfoldable pub entry_after : ℕ → Job → Bool → Kind → Entry → Entry
entry_after border j own kind e = expired_entry border j (reported_entry border j own kind e)

-- ---- slot by slot

-- slot i of a history: before it there was a run, reached by the slots before, that took a report;
-- the event is that run's phase, what the rules chose for it and what was reported
abbrev pub SlotOf : Plan → List Event → ℕ → Type 0
SlotOf p h i = (before : Run) × (report : Report) × Reached p (take i h) before × Taken before report × (drop i h ≡ event before report ∷ drop (suc i) h)

-- ---- what runs keep

-- everything that coherence asks, and more: the record's own lengths, and rows that are the fresh ones as lists
pub record Recorded (r : Run) : Type 0 where
  pub well : accepted (well_formed r.plan) ≡ true
  pub sized : Sized r.plan
  pub order : InOrder r.plan
  pub long : length r.entry ≡ max_jobs
  pub time : r.t ≤ r.plan.slots
  pub holds : (k : ℕ) → JobOf r.plan k → standing_holds r.t (job_no r.plan k).hi (entry_no r k).given (entry_no r k).standing ≡ true
  pub hi : r.hi ≡ fresh_hi r
  pub lo : r.lo ≡ fresh_lo r

-- the entry at place k: the slots that job has been given, and whether it is live
abbrev pub entry_at : Run → ℕ → Entry
entry_at r k = get_or r.entry k fresh_entry

abbrev pub given_at : Run → ℕ → ℕ
given_at r k = (entry_at r k).given

abbrev pub live_at : Run → ℕ → Bool
live_at r k = live (entry_at r k)

-- the run's invariant, at every border
pub record Kept (p : Plan) (r : Run) : Type 0 where
  -- no job has a slot before its release
  pub begun : (k : ℕ) → k < p.jobs → 0 < given_at r k → (job_at p k).release < r.t
  -- no window of the HI work left is overfull
  pub room : Feasible (windows_of p) r.t (hi_remaining p (given_at r) (live_at r))
  -- in phase T every live job has been given its table slots, and every live HI job fewer than lo
  pub table : r.phase ≡ T → OnTable p r.t (given_at r) (live_at r)
  -- no LO job is live at its deadline
  pub expiry : (k : ℕ) → k < p.jobs → is_hi (job_at p k) ≡ false → live_at r k ≡ true → r.t < (job_at p k).deadline
