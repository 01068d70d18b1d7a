-- Laws of the choice: the ready jobs, what each phase chooses of them, and that whatever is chosen is ready.
use Rattle.std.specs.Prelude.{ℕ, ◌-◌, ◌≤◌, ◌<◌, ◌≡◌, ◌⊎◌, Bool, ◌&&◌, length}
use Rattle.std.proofs.Common.{arith, sym, ◌∙◌, leb-true, le-leb}
use Rattle.std.proofs.Math.Path.{refl}
use Rattle.std.proofs.Math.Logic.{⊎_elim, inl, inr}
use Rattle.std.proofs.Math.Bool.{true, false}
use Rattle.words.specs.Words.{◌≤?◌, above0, below0}
use Rattle.plan.specs.Plan.{job_no, is_hi, table_at}
use Rattle.well_formed.specs.InOrder.{InOrder, JobOf}
use Rattle.words.specs.Cases.{both_hold, never}
use Rattle.executive.specs.declared.Phase.{Phase}
use Rattle.executive.specs.declared.Phase.TheVariants.{T, H}
use Rattle.executive.specs.declared.Run.{Run}
use Rattle.executive.specs.Run.{entry_no, current_hi, current_lo}
use Rattle.executive.specs.Choice.{chosen, ready, ready_hi, chosen_t, chosen_h}
use Rattle.ready.specs.declared.Slot.{Slot}
use Rattle.entries.specs.Entry.{live}
use Rattle.ready.specs.Ready.{earliest, is_ready}
use Rattle.promises.specs.Chosen.{Ready, EarliestReady, EarliestReadyHi}
use Rattle.promises.specs.General.{joined}
use Rattle.promises.specs.EarliestLaws.{earliest_of}

pub idle_is_no_job : (m : ℕ) → Slot.Idle ≡ Slot.Job m → ⊥
idle_is_no_job m e = let z : ◌≡◌ {A = ℕ} 0 1 = cc in omega arith

pub same_job : (k m : ℕ) → Slot.Job k ≡ Slot.Job m → k ≡ m
same_job k m e = cc

module _ (r : Run) where
  ready_numbers : (k : ℕ) → is_ready r.t (job_no r.plan k) (entry_no r k) ≡ true → Ready r k
  ready_numbers k h =
      let w = both_hold (live (entry_no r k)) ((job_no r.plan k).release ≤? r.t) h in
      (w.0, leb-true (job_no r.plan k).release r.t w.1)

  numbers_ready : (k : ℕ) → Ready r k → is_ready r.t (job_no r.plan k) (entry_no r k) ≡ true
  numbers_ready k w = joined (live (entry_no r k)) ((job_no r.plan k).release ≤? r.t) w.0 (le-leb (job_no r.plan k).release r.t w.1)

  -- phase T: the table's job if it is live, otherwise as of the ready jobs
  pub in_phase_T : r.phase ≡ T
      → ((1 ≤ table_at r.plan r.t) × (live (entry_no r (table_at r.plan r.t)) ≡ true) × (chosen r ≡ Slot.Job (table_at r.plan r.t)))
      ⊎ ((1 ≤ table_at r.plan r.t → live (entry_no r (table_at r.plan r.t)) ≡ true → ⊥) × (chosen r ≡ earliest r.plan.job (ready r)))
  unfolding chosen chosen_t ready
  in_phase_T phase = rw phase (go (1 ≤? table_at r.plan r.t) refl (live (entry_no r (table_at r.plan r.t))) refl)
    where
      go : (a : Bool) → (1 ≤? table_at r.plan r.t) ≡ a → (b : Bool) → live (entry_no r (table_at r.plan r.t)) ≡ b
          → ((1 ≤ table_at r.plan r.t) × (live (entry_no r (table_at r.plan r.t)) ≡ true) × (chosen_t r ≡ Slot.Job (table_at r.plan r.t)))
          ⊎ ((1 ≤ table_at r.plan r.t → live (entry_no r (table_at r.plan r.t)) ≡ true → ⊥) × (chosen_t r ≡ earliest r.plan.job (ready r)))
      go true e true f = inl (leb-true 1 (table_at r.plan r.t) e, f, rw (e, f))
      go true e false f = inr (λ _ h. never h f, rw (e, f))
      go false e b f = inr (λ h _. never (le-leb 1 (table_at r.plan r.t) h) e, rw e)

  -- phase H: as of all ready jobs while HI spare > 0 and LO spare >= 0, otherwise as of the ready HI jobs
  pub in_phase_H : r.phase ≡ H
      → ((above0 (current_hi r) ≡ true) × (below0 (current_lo r) ≡ false) × (chosen r ≡ earliest r.plan.job (ready r)))
      ⊎ (((above0 (current_hi r) ≡ false) ⊎ (below0 (current_lo r) ≡ true)) × (chosen r ≡ earliest r.plan.job (ready_hi r)))
  unfolding chosen chosen_h ready ready_hi
  in_phase_H phase = rw phase (go (above0 (current_hi r)) refl (below0 (current_lo r)) refl)
    where
      go : (a : Bool) → above0 (current_hi r) ≡ a → (b : Bool) → below0 (current_lo r) ≡ b
          → ((above0 (current_hi r) ≡ true) × (below0 (current_lo r) ≡ false) × (chosen_h r ≡ earliest r.plan.job (ready r)))
          ⊎ (((above0 (current_hi r) ≡ false) ⊎ (below0 (current_lo r) ≡ true)) × (chosen_h r ≡ earliest r.plan.job (ready_hi r)))
      go true e false f = inl (e, f, rw (e, f))
      go true e true f = inr (inr f, rw (e, f))
      go false e b f = inr (inl e, rw e)

module _ (r : Run) (js_fit : r.plan.jobs ≤ length r.plan.job) (es_fit : r.plan.jobs ≤ length r.entry) where
  pub earliest_ready : EarliestReady r (earliest r.plan.job (ready r))
  unfolding ready
  earliest_ready =
      ⊎_elim
      (λ w. inl (w.0, λ k l h. w.1 k l (numbers_ready r k h)))
      (λ w. inr (w.0, w.1, w.2, ready_numbers r w.0 w.3, λ k l h. w.4 k l (numbers_ready r k h)))
      (earliest_of r.plan r.entry js_fit es_fit (is_ready r.t))

  pub earliest_ready_hi : EarliestReadyHi r (earliest r.plan.job (ready_hi r))
  unfolding ready_hi
  earliest_ready_hi =
      ⊎_elim
      (λ w. inl (w.0, λ k l h. w.1 k l (passes k h)))
      (λ w. let q = both_hold (is_ready r.t (job_no r.plan w.0) (entry_no r w.0)) (is_hi (job_no r.plan w.0)) w.3 in
      inr (w.0, w.1, w.2, (q.1, ready_numbers r w.0 q.0), λ k l h. w.4 k l (passes k h)))
      (earliest_of r.plan r.entry js_fit es_fit (λ j e. is_ready r.t j e && is_hi j))
    where
      passes : (k : ℕ) → (is_hi (job_no r.plan k) ≡ true) × Ready r k → (is_ready r.t (job_no r.plan k) (entry_no r k) && is_hi (job_no r.plan k)) ≡ true
      passes k h = joined (is_ready r.t (job_no r.plan k) (entry_no r k)) (is_hi (job_no r.plan k)) (numbers_ready r k h.1) h.0

  module _ (ok : InOrder r.plan) (more : r.t < r.plan.slots) where
    -- what is chosen of the ready jobs is a ready job of the plan
    of_ready : (slot : Slot) → EarliestReady r slot → (m : ℕ) → slot ≡ Slot.Job m → JobOf r.plan m × Ready r m
    of_ready slot (inl w) m e = absurd (idle_is_no_job m (sym w.0 ∙ e))
    of_ready slot (inr w) m e = let q : w.0 ≡ m = same_job w.0 m (sym w.1 ∙ e) in rw (← q) (w.2, w.3)

    of_ready_hi : (slot : Slot) → EarliestReadyHi r slot → (m : ℕ) → slot ≡ Slot.Job m → JobOf r.plan m × Ready r m
    of_ready_hi slot (inl w) m e = absurd (idle_is_no_job m (sym w.0 ∙ e))
    of_ready_hi slot (inr w) m e = let q : w.0 ≡ m = same_job w.0 m (sym w.1 ∙ e) in rw (← q) (w.2, w.3.1)

    -- what is chosen is a ready job of the plan
    pub chosen_ready : (m : ℕ) → chosen r ≡ Slot.Job m → JobOf r.plan m × Ready r m
    chosen_ready m e = go r.phase refl
      where
        go : (x : Phase) → r.phase ≡ x → JobOf r.plan m × Ready r m
        go T phase =
            ⊎_elim
            (λ w. let q : table_at r.plan r.t ≡ m = same_job (table_at r.plan r.t) m (sym w.2 ∙ e) in
            let one = w.0 in
            let n = ok.names r.t more (table_at r.plan r.t - 1) (omega arith) in
            let few = n.0 in
            rw (← q) ((one, omega arith), (w.1, n.1)))
            (λ w. of_ready (earliest r.plan.job (ready r)) earliest_ready m (sym w.1 ∙ e))
            (in_phase_T r phase)
        go H phase =
            ⊎_elim
            (λ w. of_ready (earliest r.plan.job (ready r)) earliest_ready m (sym w.2 ∙ e))
            (λ w. of_ready_hi (earliest r.plan.job (ready_hi r)) earliest_ready_hi m (sym w.1 ∙ e))
            (in_phase_H r phase)
