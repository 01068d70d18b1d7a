-- The run's invariant holds at the start and is kept by every accepted step: proved phase by phase from the acceptance promise.
use Rattle.std.specs.Prelude.{ℕ, suc, ◌+◌, ◌-◌, ◌≤◌, ◌<◌, ◌≡◌, refl, Bool, true, false, ℤ, length, if◌then◌else◌}
use Rattle.std.proofs.Math.Decide.{dec_le, ℕ_discrete}
use Rattle.std.proofs.Common.{arith, sym, ◌∙◌, ⊎_elim, eq-eqb, ne_eqb}
use Rattle.std.proofs.Math.Path.{ap}
use mathlib.Core.List.{List}
use Rattle.std.proofs.Math.ListN.{get_or}
use Rattle.std.proofs.lemmas.List.{get_or-replicate}
use Rattle.words.specs.Words.{◌=?◌, above0}
use Rattle.windows.specs.Windows.{InTime, Feasible}
use Rattle.windows.specs.WindowLaws.{met, in_time_mono}
use Rattle.plan.specs.declared.Plan.{Plan}
use Rattle.plan.specs.Limits.{max_jobs}
use Rattle.plan.specs.Plan.{job_no, is_hi, blank_job, table_at}
use Rattle.spares.specs.Spares.{row, current, hi_left}
use Rattle.well_formed.specs.InOrder.{job_at, InOrder, JobOf}
use Rattle.spare_theory.specs.Promise.{windows_of, A2}
use Rattle.spare_theory.specs.CountLaws.{tab_start}
use Rattle.spare_theory.specs.SpareLaws.{above_exactly}
use Rattle.acceptance_promise.specs.OneSlot.{hi_remaining, OnTable, SlotTo, TableFirst, NoHiReady}
use Rattle.acceptance_promise.specs.OneSlotLaws.{high_met, stays_on_table, table_feasible, overrun_feasible, earliest_feasible, nobody_feasible, spare_feasible}
use Rattle.entries.specs.declared.Entry.{Entry}
use Rattle.executive.specs.declared.Phase.{Phase}
use Rattle.executive.specs.declared.Phase.TheVariants.{T, H}
use Rattle.executive.specs.declared.Run.{Run}
use Rattle.executive.specs.declared.Report.{Report}
use Rattle.entries.specs.Entry.{live, fresh_entry, standing_holds}
use Rattle.spares.specs.Work.{work_each, work_left}
use Rattle.executive.specs.Run.{fresh_hi, hi_work, current_hi, new_run}
use Rattle.words.specs.ZipLaws.{zipped_at}
use Rattle.executive.specs.Choice.{chosen, ready_hi}
use Rattle.ready.specs.Ready.{earliest}
use Rattle.executive.specs.Step.{overrun, can_return, phase_after, next_run}
use Rattle.promises.specs.Told.{job_run}
use Rattle.promises.specs.Runs.{entry_after, Taken, Recorded, entry_at, given_at, live_at, Kept}
use Rattle.promises.specs.Chosen.{Ready}
use Rattle.promises.specs.EarliestLaws.{leads_deadline}
use Rattle.promises.specs.ChosenLaws.{in_phase_T, in_phase_H, earliest_ready_hi}
use Rattle.promises.specs.NextLaws.{next_plan_lem, next_t, next_phase, next_length, given_after, live_after, low_after, live_fewer}
use Rattle.promises.specs.RecordLaws.{js_fit, es_fit, chosen_is_ready, own_slot_lem, next_entry}
use Rattle.promises.specs.PhaseLaws.{number_place, job_of_place, phases_differ, past_lo_no, overrun_of, overrun_job, return_on_table}

-- ---- the record, by places

module _ (r : Run) (w : Recorded r) where
  pub rule_at : (k : ℕ) → k < r.plan.jobs → standing_holds r.t (job_at r.plan k).hi (given_at r k) (entry_at r k).standing ≡ true
  rule_at k l = rw (number_place k) at (w.holds (suc k) (job_of_place r.plan k l))

  -- a live job has fewer slots than hi
  pub fewer_than_hi : (k : ℕ) → k < r.plan.jobs → live_at r k ≡ true → given_at r k < (job_at r.plan k).hi
  fewer_than_hi k l h = live_fewer r.t (job_at r.plan k).hi (given_at r k) (entry_at r k).standing (rule_at k l) h

  -- and its deadline is to come
  pub live_open : Kept r.plan r → (k : ℕ) → k < r.plan.jobs → live_at r k ≡ true → r.t < (job_at r.plan k).deadline
  live_open kept k l alive = go (is_hi (job_at r.plan k)) refl (dec_le (job_at r.plan k).deadline r.t)
    where
      go : (b : Bool) → is_hi (job_at r.plan k) ≡ b → Dec ((job_at r.plan k).deadline ≤ r.t) → r.t < (job_at r.plan k).deadline
      go b e (no q) = omega arith
      go false e (yes q) = kept.expiry k l e alive
      go true e (yes q) = absurd (let m = high_met r.plan r.t (given_at r) (live_at r) kept.room k l e q alive in let f = fewer_than_hi k l alive in omega arith)

-- ---- one step, by places

module _ (r : Run) (w : Recorded r) (report : Report) (ok : Taken r report) where
  abbrev next : Run
  next = next_run r (chosen r) report.kind

  abbrev who : ℕ
  who = job_run (chosen r)

  pub next_at : (k : ℕ) → k < r.plan.jobs → entry_at next k ≡ entry_after (r.t + 1) (job_at r.plan k) (who =? suc k) report.kind (entry_at r k)
  next_at k l = rw (number_place k) at (next_entry r w report ok (suc k) (job_of_place r.plan k l))

  pub given_next : (k : ℕ) → k < r.plan.jobs → given_at next k ≡ given_at r k + (if who =? suc k then 1 else 0)
  given_next k l = ap (λ (e : Entry). e.given) (next_at k l) ∙ given_after (r.t + 1) (job_at r.plan k) (who =? suc k) report.kind (entry_at r k)

  alive_next : (k : ℕ) → k < r.plan.jobs → live_at next k ≡ true → live (entry_after (r.t + 1) (job_at r.plan k) (who =? suc k) report.kind (entry_at r k)) ≡ true
  alive_next k l h = sym (ap (λ (e : Entry). live e) (next_at k l)) ∙ h

  -- the slot went to what was chosen
  pub slot_to : SlotTo r.plan who (given_at r) (given_at next) (live_at r) (live_at next)
  slot_to = record {
    more = λ k l e. given_next k l ∙ ap (λ (b : Bool). given_at r k + (if b then 1 else 0)) (eq-eqb who (suc k) e);
    others = λ k l e. given_next k l ∙ ap (λ (b : Bool). given_at r k + (if b then 1 else 0)) (ne_eqb who (suc k) e) ∙ omega arith;
    fewer = λ k l h. live_after (r.t + 1) (job_at r.plan k) (who =? suc k) report.kind (entry_at r k) (alive_next k l h);
  }

  -- what is chosen is a job of the plan that is live, released, and has fewer slots than hi
  pub chosen_at : (k : ℕ) → who ≡ suc k → (k < r.plan.jobs) × (live_at r k ≡ true) × ((job_at r.plan k).release ≤ r.t)
  chosen_at k e =
      let c = chosen_is_ready r w ok.more (suc k) (own_slot_lem (chosen r) (suc k) (omega arith) (eq-eqb who (suc k) e)) in
      (c.0.1, rw (number_place k) at c.1.0, rw (number_place k) at c.1.1)

  next_fits : next.plan.jobs ≤ length next.entry
  next_fits = rw (next_plan_lem r (chosen r) report.kind, next_length r (chosen r) report.kind) (es_fit r w)

  -- no job has a slot before its release
  begun_next : ((k : ℕ) → k < r.plan.jobs → 0 < given_at r k → (job_at r.plan k).release < r.t)
      → (k : ℕ) → k < r.plan.jobs → 0 < given_at next k → (job_at r.plan k).release < r.t + 1
  begun_next begun k l some = go (ℕ_discrete who (suc k))
    where
      go : Dec (who ≡ suc k) → (job_at r.plan k).release < r.t + 1
      go (yes e) = let c = (chosen_at k e).2 in omega arith
      go (no e) = let b = begun k l (rw (slot_to.others k l e) at some) in omega arith

  -- no LO job is live at its deadline
  expiry_next : (k : ℕ) → k < r.plan.jobs → is_hi (job_at r.plan k) ≡ false → live_at next k ≡ true → r.t + 1 < (job_at r.plan k).deadline
  expiry_next k l low h = low_after (r.t + 1) (job_at r.plan k) (who =? suc k) report.kind (entry_at r k) (alive_next k l h) low

  -- ---- phase T

  pub table_first : r.phase ≡ T → TableFirst r.plan r.t who (live_at r)
  table_first phase k l e alive =
      ⊎_elim
      (λ c. ap job_run c.2 ∙ e)
      (λ c. let q : table_at r.plan r.t - 1 ≡ k = omega arith in absurd (c.0 (omega arith) (rw q alive)))
      (in_phase_T r phase)

  -- no overrun: who had the slot is not past its lo
  no_overrun : overrun next (chosen r) ≡ false → (k : ℕ) → k < r.plan.jobs → who ≡ suc k → live_at next k ≡ true → is_hi (job_at r.plan k) ≡ true → given_at next k < (job_at r.plan k).lo
  no_overrun h k l e alive high =
      let q = sym (overrun_of next (chosen r) k (own_slot_lem (chosen r) (suc k) (omega arith) (eq-eqb who (suc k) e))) ∙ h in
      past_lo_no (job_at r.plan k) (entry_at next k) (rw (next_plan_lem r (chosen r) report.kind) at q) alive high

  -- an overrun: a HI job had the slot
  has_overrun : overrun next (chosen r) ≡ true → (k : ℕ) × (who ≡ suc k) × (is_hi (job_at r.plan k) ≡ true)
  has_overrun h =
      let o = overrun_job next (chosen r) h in
      let one = (chosen_is_ready r w ok.more o.0 o.1).0.0 in
      let e : o.0 ≡ suc (o.0 - 1) = omega arith in
      (o.0 - 1, ap job_run o.1 ∙ e, same o.0 o.2)
    where
      same : (m : ℕ) → is_hi (job_no next.plan m) ≡ true → is_hi (job_no r.plan m) ≡ true
      same m q = rw (next_plan_lem r (chosen r) report.kind) at q

  -- no window is overfull, and a run in phase T is on the table
  abbrev Goes : Type 0
  Goes = Feasible (windows_of r.plan) (r.t + 1) (hi_remaining r.plan (given_at next) (live_at next)) × (next.phase ≡ T → OnTable r.plan (r.t + 1) (given_at next) (live_at next))

  goes_T : A2 r.plan → r.phase ≡ T → OnTable r.plan r.t (given_at r) (live_at r) → Goes
  goes_T a2 phase on = go (overrun next (chosen r)) refl
    where
      after : (b : Bool) → overrun next (chosen r) ≡ b → next.phase ≡ (if b then H else T)
      after b e = next_phase r (chosen r) report.kind ∙ ap (λ (x : Phase). phase_after x next (chosen r)) phase ∙ ap (λ (b : Bool). if b then H else T) e

      go : (b : Bool) → overrun next (chosen r) ≡ b → Goes
      go false e =
          let on' = stays_on_table r.plan w.order r.t who (given_at r) (given_at next) (live_at r) (live_at next) on (table_first phase) slot_to (no_overrun e) in
          (table_feasible r.plan w.order a2 (r.t + 1) (given_at next) (live_at next) on', λ _. on')
      go true e =
          let o = has_overrun e in
          let c = chosen_at o.0 o.1 in (
            overrun_feasible r.plan w.order a2 r.t o.0 (given_at r) (given_at next) (live_at r) (live_at next) on (rw o.1 at (table_first phase)) (rw o.1 at slot_to) c.0 o.2 c.1,
            λ t. absurd (phases_differ (sym (after true e) ∙ t)),
          )

  -- ---- phase H

  -- the work of the HI row is the HI work left
  work_at_lem : (k : ℕ) → k < r.plan.jobs → get_or (hi_work r) k 0 ≡ hi_remaining r.plan (given_at r) (live_at r) k
  unfolding hi_work work_each work_left hi_remaining
  work_at_lem k l = zipped_at (λ j e. hi_left j (live e) e.given) r.plan.job r.entry r.plan.jobs (js_fit r w) (es_fit r w) k blank_job fresh_entry 0 l

  -- the current HI spare is above 0: one slot to spare
  slot_to_spare : Feasible (windows_of r.plan) r.t (hi_remaining r.plan (given_at r) (live_at r))
      → above0 (current_hi r) ≡ true → InTime (windows_of r.plan) (r.t + 1) (hi_remaining r.plan (given_at r) (live_at r))
  unfolding fresh_hi
  slot_to_spare now above =
      let fresh : current_hi r ≡ current r.plan r.t (row r.plan r.t (hi_work r)) = ap (λ (zs : List ℤ). current r.plan r.t zs) w.hi in
      let none_due : (k : ℕ) → k < r.plan.jobs → (job_at r.plan k).deadline ≤ r.t → get_or (hi_work r) k 0 ≡ 0
      = λ k l d. work_at_lem k l ∙ met (windows_of r.plan) r.t (hi_remaining r.plan (given_at r) (live_at r)) now.0 k l d in
      in_time_mono (windows_of r.plan) (r.t + 1) (λ k. get_or (hi_work r) k 0) (hi_remaining r.plan (given_at r) (live_at r)) (λ k l. let e = work_at_lem k l in omega arith)
      ((above_exactly r.plan w.order (hi_work r) r.t ok.more none_due).0 (rw fresh at above))

  goes_H : r.phase ≡ H → Feasible (windows_of r.plan) r.t (hi_remaining r.plan (given_at r) (live_at r)) → Goes
  goes_H phase now = (⊎_elim (λ c. spared c.0) (λ c. hurried c.1) (in_phase_H r phase), returned)
    where
      Room : Type 0
      Room = Feasible (windows_of r.plan) (r.t + 1) (hi_remaining r.plan (given_at next) (live_at next))

      spared : above0 (current_hi r) ≡ true → Room
      spared above = spare_feasible r.plan r.t (given_at r) (given_at next) (live_at r) (live_at next) now who (slot_to_spare now above) slot_to

      none_ready : ((k : ℕ) → JobOf r.plan k → (is_hi (job_no r.plan k) ≡ true) × Ready r k → ⊥) → NoHiReady r.plan r.t (live_at r)
      none_ready none k l high alive released =
          none (suc k) (job_of_place r.plan k l) (rw (number_place k) high, (rw (number_place k) alive, rw (number_place k) released))

      hurried : chosen r ≡ earliest r.plan.job (ready_hi r) → Room
      hurried e =
          ⊎_elim
          (λ c. nobody_feasible r.plan r.t (given_at r) (given_at next) (live_at r) (live_at next) now who (none_ready c.1) slot_to)
          (λ c. let one = c.2.0 in
          let m : c.0 ≡ suc (c.0 - 1) = omega arith in
          first (c.0 - 1) (ap job_run (e ∙ c.1) ∙ m) c.3.0
          (λ k l high alive released. rw (number_place k) at (leads_deadline r.plan c.0 (suc k) (c.4 (suc k) (job_of_place r.plan k l) (rw (number_place k) high, (rw (number_place k) alive, rw (number_place k) released))))))
          (earliest_ready_hi r (js_fit r w) (es_fit r w))
        where
          first : (j : ℕ) → who ≡ suc j → is_hi (job_at r.plan j) ≡ true
              → ((k : ℕ) → k < r.plan.jobs → is_hi (job_at r.plan k) ≡ true → live_at r k ≡ true → (job_at r.plan k).release ≤ r.t → (job_at r.plan j).deadline ≤ (job_at r.plan k).deadline)
              → Room
          first j q high before =
              let c = chosen_at j q in
              earliest_feasible r.plan r.t (given_at r) (given_at next) (live_at r) (live_at next) now j
              (record { there = c.0; high = high; alive = c.1; first = before }) (fewer_than_hi r w j c.0 c.1) (rw q at slot_to)

      after : (b : Bool) → can_return next ≡ b → next.phase ≡ (if b then T else H)
      after b e = next_phase r (chosen r) report.kind ∙ ap (λ (x : Phase). phase_after x next (chosen r)) phase ∙ ap (λ (b : Bool). if b then T else H) e

      on_return : (b : Bool) → can_return next ≡ b → next.phase ≡ T → OnTable r.plan (r.t + 1) (given_at next) (live_at next)
      on_return true e t =
          rw (next_plan_lem r (chosen r) report.kind, next_t r (chosen r) report.kind) at
          (return_on_table next (rw (next_plan_lem r (chosen r) report.kind) (js_fit r w)) next_fits (rw (next_plan_lem r (chosen r) report.kind) w.order.jobs.1) e)
      on_return false e t = absurd (phases_differ (sym (after false e) ∙ t))

      returned : next.phase ≡ T → OnTable r.plan (r.t + 1) (given_at next) (live_at next)
      returned = on_return (can_return next) refl

  -- the invariant after the slot
  pub kept_next : A2 r.plan → Kept r.plan r → Kept r.plan next
  kept_next a2 kept =
      let goes = go r.phase refl in
      let t = next_t r (chosen r) report.kind in
      record { begun = rw t (begun_next kept.begun); room = rw t goes.0; table = rw t goes.1; expiry = rw t expiry_next }
    where
      go : (x : Phase) → r.phase ≡ x → Goes
      go T e = goes_T a2 e (kept.table e)
      go H e = goes_H e kept.room

-- ---- the start

module _ (p : Plan) (order : InOrder p) (a2 : A2 p) where
  pub fresh : (k : ℕ) → k < p.jobs → entry_at (new_run p) k ≡ fresh_entry
  fresh k l = let m = order.jobs.1 in get_or-replicate max_jobs k fresh_entry fresh_entry (omega arith)

  new_on_table : OnTable p 0 (given_at (new_run p)) (live_at (new_run p))
  new_on_table = record {
    ahead = λ k l a. omega (arith, tab_start p k);
    early = λ k l a h. rw (fresh k l) (order.some k l);
  }

  pub kept_start : Kept p (new_run p)
  kept_start = record {
    begun = λ k l h. absurd (let z : ◌≡◌ {A = ℕ} (given_at (new_run p) k) 0 = rw (fresh k l) in omega arith);
    room = table_feasible p order a2 0 (given_at (new_run p)) (live_at (new_run p)) new_on_table;
    table = λ _. new_on_table;
    expiry = λ k l low h. let a = order.window k l in omega arith;
  }
