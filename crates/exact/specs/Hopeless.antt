-- Demand 3, last sentence: a plan with limits, windows, budgets and table in order is refused exactly when some needs make it hopeless.
-- Its words, then the sentence as statements: each is a type, and Exact has a term of it.
use Rattle.std.specs.Prelude.{ℕ, suc, ◌≤◌, ◌<◌, ◌≡◌, ◌↔◌, true, List, map, length, get_or, if◌then◌else◌}
use Rattle.words.specs.Words.{◌<?◌, count_up}
use Rattle.answers.specs.Answer.{Accepted}
use Rattle.plan.specs.declared.Plan.{Plan}
use Rattle.plan.specs.Plan.{job_no, is_hi, table_at, table_slots}
use Rattle.acceptance.specs.Analysis.{analysis}
use Rattle.well_formed.specs.WellFormed.{well_formed}
use Rattle.well_formed.specs.InOrder.{Sized, JobOf, in_window}

-- needs: for each job the slots it will turn out to need, none above its larger budget
abbrev pub Needs : Plan → (ℕ → ℕ) → Type 0
Needs p need = (k : ℕ) → JobOf p k → need k ≤ (job_no p k).hi

-- the table run as written, unused slots idle: slot s goes to the table's job while that needs more than the table slots it has had
unfoldable pub table_run : Plan → (ℕ → ℕ) → ℕ → ℕ
table_run p need s = if table_slots p s (table_at p s) <? need (table_at p s) then table_at p s else 0

-- the list of the N slots, who has each
abbrev pub slots_by : Plan → (ℕ → ℕ) → List ℕ
slots_by p who = map who (count_up 0 p.slots)

-- the table run overruns at border t: slot t - 1 is the lo-th table slot of a HI job that needs more than lo
pub record OverrunsAt (p : Plan) (need : ℕ → ℕ) (t : ℕ) : Type 0 where
  pub slot : ℕ
  pub border : t ≡ suc slot
  pub inside : slot < p.slots
  pub job : ℕ
  pub of_plan : JobOf p job
  pub named : table_at p slot ≡ job
  pub high : is_hi (job_no p job) ≡ true
  pub last : table_slots p t job ≡ (job_no p job).lo
  pub more : (job_no p job).lo < need job

-- t is the first such border
abbrev pub FirstOverrun : Plan → (ℕ → ℕ) → ℕ → Type 0
FirstOverrun p need t = OverrunsAt p need t × ((u : ℕ) → u < t → OverrunsAt p need u → ⊥)

-- an order of the N slots, who has each, that continues the table run from border t on: before t it is the table run
abbrev pub Continues : Plan → (ℕ → ℕ) → ℕ → List ℕ → Type 0
Continues p need t order = (length order ≡ p.slots) × ((s : ℕ) → s < t → get_or order s 0 ≡ table_run p need s)

-- each of its slots is idle or a job's
abbrev pub JobsOnly : Plan → List ℕ → Type 0
JobsOnly p order = (s : ℕ) → get_or order s 0 ≤ p.jobs

-- it gives every HI job its need in its window
abbrev pub Serves : Plan → (ℕ → ℕ) → List ℕ → Type 0
Serves p need order = (k : ℕ) → JobOf p k → is_hi (job_no p k) ≡ true → need k ≤ in_window p k order

-- hopeless: the table run up to its first overrun can't be continued by any order that serves
abbrev pub Hopeless : Plan → (ℕ → ℕ) → Type 0
Hopeless p need = (t : ℕ) × FirstOverrun p need t × ((order : List ℕ) → Continues p need t order → Serves p need order → ⊥)

-- some needs make the plan hopeless
abbrev pub HopelessUnderSome : Plan → Type 0
HopelessUnderSome p = (need : ℕ → ℕ) × Needs p need × Hopeless p need

-- 3c: a plan record that passes 2 to 7 and 17 is refused by the analysis exactly when some needs make it hopeless
abbrev pub Demand3c : Type 0
Demand3c = (p : Plan) → Sized p → well_formed p ≡ Accepted → ((analysis p).answer ≡ Accepted → ⊥) ↔ HopelessUnderSome p

-- its two halves. No plan is refused wrongly: the needs that make it hopeless are found
abbrev pub Demand3cRefused : Type 0
Demand3cRefused = (p : Plan) → Sized p → well_formed p ≡ Accepted → ((analysis p).answer ≡ Accepted → ⊥) → HopelessUnderSome p

-- no plan is accepted wrongly, and more: whatever the needs, at the first overrun there is the order that serves
abbrev pub Demand3cAccepted : Type 0
Demand3cAccepted =
    (p : Plan) → Sized p → (analysis p).answer ≡ Accepted → (need : ℕ → ℕ) → Needs p need → (t : ℕ) → FirstOverrun p need t →
    (order : List ℕ) × JobsOnly p order × Continues p need t order × Serves p need order

-- without an overrun nothing need be continued: the table run itself serves, whatever the needs
abbrev pub TableRunServes : Type 0
TableRunServes =
    (p : Plan) → Sized p → well_formed p ≡ Accepted → (need : ℕ → ℕ) → ((t : ℕ) → OverrunsAt p need t → ⊥) →
    Serves p need (slots_by p (table_run p need))
