-- One slot of a run, in the abstract: slots given, who is live, who had the slot. Definitions only: OneSlotLaws says what a slot keeps.
use Rattle.std.specs.Prelude.{ℕ, suc, ◌+◌, ◌≤◌, ◌<◌, ◌≡◌, Bool, true}
use Rattle.plan.specs.declared.Plan.{Plan}
use Rattle.plan.specs.Plan.{is_hi, table_at}
use Rattle.spares.specs.Spares.{hi_left}
use Rattle.well_formed.specs.InOrder.{job_at, tab}

module _ (p : Plan) where
  -- the HI work left: hi less the slots given, of the live HI jobs
  unfoldable pub hi_remaining : (ℕ → ℕ) → (ℕ → Bool) → ℕ → ℕ
  hi_remaining given live k = hi_left (job_at p k) (live k) (given k)

  -- at border t the run is on the table: every live job has been given at least its table slots, and every live HI job fewer than lo
  pub record OnTable (t : ℕ) (given : ℕ → ℕ) (live : ℕ → Bool) : Type 0 where
    pub ahead : (k : ℕ) → k < p.jobs → live k ≡ true → tab p k t ≤ given k
    pub early : (k : ℕ) → k < p.jobs → live k ≡ true → is_hi (job_at p k) ≡ true → given k < (job_at p k).lo

  -- the slot went to the job of number x (0: nobody), which has one slot more; nobody came to life
  pub record SlotTo (x : ℕ) (given given' : ℕ → ℕ) (live live' : ℕ → Bool) : Type 0 where
    pub more : (k : ℕ) → k < p.jobs → x ≡ suc k → given' k ≡ given k + 1
    pub others : (k : ℕ) → k < p.jobs → (x ≡ suc k → ⊥) → given' k ≡ given k
    pub fewer : (k : ℕ) → k < p.jobs → live' k ≡ true → live k ≡ true

  -- the rule of phase T: slot t to the table's job if it is live
  abbrev pub TableFirst : ℕ → ℕ → (ℕ → Bool) → Type 0
  TableFirst t x live = (k : ℕ) → k < p.jobs → table_at p t ≡ suc k → live k ≡ true → x ≡ suc k

  -- the rule of phase H: slot t to the ready HI job j, of the earliest deadline among those
  pub record EarliestHi (t j : ℕ) (live : ℕ → Bool) : Type 0 where
    pub there : j < p.jobs
    pub high : is_hi (job_at p j) ≡ true
    pub alive : live j ≡ true
    pub first : (k : ℕ) → k < p.jobs → is_hi (job_at p k) ≡ true → live k ≡ true → (job_at p k).release ≤ t → (job_at p j).deadline ≤ (job_at p k).deadline

  -- no HI job is ready
  abbrev pub NoHiReady : ℕ → (ℕ → Bool) → Type 0
  NoHiReady t live = (k : ℕ) → k < p.jobs → is_hi (job_at p k) ≡ true → live k ≡ true → (job_at p k).release ≤ t → ⊥
