-- What one slot of a run keeps, in both phases: no window of the HI work left becomes overfull; and what deadlines find (the core of demands 3a and 3b).
use Rattle.std.specs.Prelude.{ℕ, suc, ◌+◌, ◌-◌, ◌≤◌, ◌<◌, ◌≡◌, refl, ◌⊎◌, Bool, true}
use Rattle.std.proofs.Math.Decide.{ℕ_discrete}
use Rattle.std.proofs.Common.{add-one, arith, ⊎_elim}
use Rattle.windows.specs.SumLaws.{same_no, same_le}
use Rattle.windows.specs.Windows.{InTime, Feasible, NoMore}
use Rattle.windows.specs.WindowLaws.{met, earliest_keeps, nobody_keeps, spare_keeps}
use Rattle.plan.specs.declared.Plan.{Plan}
use Rattle.plan.specs.Plan.{is_hi, table_at}
use Rattle.well_formed.specs.InOrder.{job_at, tab, InOrder}
use Rattle.spare_theory.specs.Promise.{windows_of, asked, A2}
use Rattle.spare_theory.specs.CountLaws.{tab_start, tab_last}
use Rattle.spare_theory.specs.TableLaws.{hi_left_lem, hi_left_case, hi_left_small, asked_high, feasible, asked_in_time, a1_of_a2, tab_due, overrun_in_time}
use Rattle.acceptance_promise.specs.OneSlot.{hi_remaining, OnTable, SlotTo, TableFirst, EarliestHi, NoHiReady}

module _ (p : Plan) where
  -- ---- the HI work left
  -- of a live HI job
  pub remaining_live : (g : ℕ → ℕ) (live : ℕ → Bool) (k : ℕ) → is_hi (job_at p k) ≡ true → live k ≡ true → hi_remaining p g live k ≡ (job_at p k).hi - g k
  unfolding hi_remaining
  remaining_live g live k h l = hi_left_lem (job_at p k) (live k) (g k) l h

  -- by cases: a live HI job, or nothing
  pub remaining_case : (g : ℕ → ℕ) (live : ℕ → Bool) (k : ℕ)
      → ((live k ≡ true) × (is_hi (job_at p k) ≡ true) × (hi_remaining p g live k ≡ (job_at p k).hi - g k)) ⊎ (hi_remaining p g live k ≡ 0)
  unfolding hi_remaining
  remaining_case g live k = hi_left_case (job_at p k) (live k) (g k)

  -- after a slot nobody has more left
  pub remaining_fewer : (x : ℕ) (g g' : ℕ → ℕ) (live live' : ℕ → Bool) → SlotTo p x g g' live live' → NoMore (windows_of p) (hi_remaining p g' live') (hi_remaining p g live)
  remaining_fewer x g g' live live' slot k l = ⊎_elim (λ w. go w (ℕ_discrete x (suc k))) (λ w. omega arith) (remaining_case g' live' k)
    where
      go : (live' k ≡ true) × (is_hi (job_at p k) ≡ true) × (hi_remaining p g' live' k ≡ (job_at p k).hi - g' k) → Dec (x ≡ suc k) → hi_remaining p g' live' k ≤ hi_remaining p g live k
      go w (yes q) = omega (arith, w.2, remaining_live g live k w.1 (slot.fewer k l w.0), slot.more k l q)
      go w (no q) = omega (arith, w.2, remaining_live g live k w.1 (slot.fewer k l w.0), slot.others k l q)

  -- and the HI job that had it has less
  pub remaining_less : (j : ℕ) (g g' : ℕ → ℕ) (live live' : ℕ → Bool) → SlotTo p (suc j) g g' live live'
      → j < p.jobs → is_hi (job_at p j) ≡ true → live j ≡ true → g j < (job_at p j).hi → hi_remaining p g' live' j + 1 ≤ hi_remaining p g live j
  remaining_less j g g' live live' slot l high alive less =
      let r = remaining_live g live j high alive in
      ⊎_elim (λ w. omega (arith, w.2, slot.more j l refl)) (λ w. omega arith) (remaining_case g' live' j)

  -- ---- phase T
  -- the table's job if live had the slot, so every live job still has its table slots
  pub still_ahead : (t x : ℕ) (g g' : ℕ → ℕ) (live live' : ℕ → Bool) → OnTable p t g live → TableFirst p t x live → SlotTo p x g g' live live'
      → (k : ℕ) → k < p.jobs → live' k ≡ true → tab p k (t + 1) ≤ g' k
  still_ahead t x g g' live live' on first slot k l alive = rw (add-one t) (go (ℕ_discrete x (suc k)) (ℕ_discrete (table_at p t) (suc k)))
    where
      was : tab p k t ≤ g k
      was = on.ahead k l (slot.fewer k l alive)

      go : Dec (x ≡ suc k) → Dec (table_at p t ≡ suc k) → tab p k (suc t) ≤ g' k
      go (yes q) w = omega (arith, was, slot.more k l q, tab_last p k t, same_le (table_at p t) (suc k))
      go (no q) (yes w) = absurd (q (first k l w (slot.fewer k l alive)))
      go (no q) (no w) = omega (arith, was, slot.others k l q, tab_last p k t, same_no (table_at p t) (suc k) w)

  -- a live HI job on the table has no more left than may be asked
  remaining_asked : (t : ℕ) (g : ℕ → ℕ) (live : ℕ → Bool) (k : ℕ) → (live k ≡ true → tab p k t ≤ g k)
      → (live k ≡ true → is_hi (job_at p k) ≡ true → g k < (job_at p k).lo) → hi_remaining p g live k ≤ asked p t k
  remaining_asked t g live k ahead early =
      ⊎_elim
      (λ w. let a = ahead w.0 in let e = early w.0 w.1 in omega (arith, w.2, asked_high p t k w.1 (omega arith)))
      (λ w. omega arith)
      (remaining_case g live k)

  module _ (ok : InOrder p) where
    -- the start is on the table
    pub start_on_table : OnTable p 0 (λ k. 0) (λ k. true)
    start_on_table = record { ahead = λ k l a. omega (arith, tab_start p k); early = λ k l a h. ok.some k l }

    -- no overrun after the slot: the run is still on the table
    pub stays_on_table : (t x : ℕ) (g g' : ℕ → ℕ) (live live' : ℕ → Bool) → OnTable p t g live → TableFirst p t x live → SlotTo p x g g' live live'
        → ((k : ℕ) → k < p.jobs → x ≡ suc k → live' k ≡ true → is_hi (job_at p k) ≡ true → g' k < (job_at p k).lo) → OnTable p (t + 1) g' live'
    stays_on_table t x g g' live live' on first slot early = record { ahead = still_ahead t x g g' live live' on first slot; early = λ k l. go k l (ℕ_discrete x (suc k)) }
      where
        go : (k : ℕ) → k < p.jobs → Dec (x ≡ suc k) → live' k ≡ true → is_hi (job_at p k) ≡ true → g' k < (job_at p k).lo
        go k l (yes q) alive high = early k l q alive high
        go k l (no q) alive high = omega (arith, slot.others k l q, on.early k l (slot.fewer k l alive) high)

    -- on the table the HI work left is in time
    table_in_time : A2 p → (t : ℕ) (g : ℕ → ℕ) (live : ℕ → Bool) → OnTable p t g live → InTime (windows_of p) t (hi_remaining p g live)
    table_in_time a2 t g live on = asked_in_time p ok a2 t (hi_remaining p g live) (λ k l. remaining_asked t g live k (on.ahead k l) (on.early k l))

    -- so no window is overfull
    pub table_feasible : A2 p → (t : ℕ) (g : ℕ → ℕ) (live : ℕ → Bool) → OnTable p t g live → Feasible (windows_of p) t (hi_remaining p g live)
    unfolding hi_remaining
    table_feasible a2 t g live on = feasible p (a1_of_a2 p ok a2) t (hi_remaining p g live) (λ k l. hi_left_small p k (live k) (g k)) (table_in_time a2 t g live on)

    -- nor after a slot that a HI job had, in which it may have overrun
    pub overrun_feasible : A2 p → (t j : ℕ) (g g' : ℕ → ℕ) (live live' : ℕ → Bool) → OnTable p t g live → TableFirst p t (suc j) live → SlotTo p (suc j) g g' live live'
        → j < p.jobs → is_hi (job_at p j) ≡ true → live j ≡ true → Feasible (windows_of p) (t + 1) (hi_remaining p g' live')
    unfolding hi_remaining
    overrun_feasible a2 t j g g' live live' on first slot l high alive =
        feasible p (a1_of_a2 p ok a2) (t + 1) (hi_remaining p g' live') (λ k h. hi_left_small p k (live' k) (g' k))
        (overrun_in_time p ok a2 t j (hi_remaining p g live) (hi_remaining p g' live') l (table_in_time a2 t g live on) (remaining_fewer (suc j) g g' live live' slot)
        (remaining_less j g g' live live' slot l high alive (omega (arith, on.early j l alive high, ok.budget j l))) others)
      where
        others : (k : ℕ) → k < p.jobs → (k ≡ j → ⊥) → hi_remaining p g' live' k ≤ asked p (t + 1) k
        others k h q =
            remaining_asked (t + 1) g' live' k (still_ahead t (suc j) g g' live live' on first slot k h)
            (λ u v. let e = on.early k h (slot.fewer k h u) v in omega (arith, slot.others k h (λ w. q (omega arith))))

    -- demand 3b: a job that is live after a slot of phase T that ends at its deadline has had its lo (a LO job its whole budget)
    pub table_met : (t x : ℕ) (g g' : ℕ → ℕ) (live live' : ℕ → Bool) → OnTable p t g live → TableFirst p t x live → SlotTo p x g g' live live'
        → (k : ℕ) → k < p.jobs → (job_at p k).deadline ≡ t + 1 → live' k ≡ true → (job_at p k).lo ≤ g' k
    table_met t x g g' live live' on first slot k l h alive =
        let a = still_ahead t x g g' live live' on first slot k l alive in
        let b : tab p k (t + 1) ≡ (job_at p k).lo = rw h at (tab_due p ok k l) in
        omega arith

  -- ---- phase H
  module _ (t : ℕ) (g g' : ℕ → ℕ) (live live' : ℕ → Bool) (now : Feasible (windows_of p) t (hi_remaining p g live)) where
    -- the slot to the ready HI job of the earliest deadline (W4)
    pub earliest_feasible : (j : ℕ) → EarliestHi p t j live → g j < (job_at p j).hi → SlotTo p (suc j) g g' live live' → Feasible (windows_of p) (t + 1) (hi_remaining p g' live')
    earliest_feasible j c less slot =
        earliest_keeps (windows_of p) t (hi_remaining p g live) (hi_remaining p g' live') now (remaining_fewer (suc j) g g' live live' slot) j c.there
        (remaining_less j g g' live live' slot c.there c.high c.alive less)
        (λ k l r. ⊎_elim (λ w. c.first k l w.1 w.0 r.0) (λ w. absurd (let u = r.1 in omega arith)) (remaining_case g live k))

    -- no HI job is ready, and the slot to nobody or a LO job (W5)
    pub nobody_feasible : (x : ℕ) → NoHiReady p t live → SlotTo p x g g' live live' → Feasible (windows_of p) (t + 1) (hi_remaining p g' live')
    nobody_feasible x none slot =
        nobody_keeps (windows_of p) t (hi_remaining p g live) (hi_remaining p g' live') now (remaining_fewer x g g' live live' slot)
        (λ k l r. ⊎_elim (λ w. none k l w.1 w.0 r.0) (λ w. let u = r.1 in omega arith) (remaining_case g live k))

    -- one slot to spare (the current HI spare is above 0): the slot to anyone, or nobody (W6)
    pub spare_feasible : (x : ℕ) → InTime (windows_of p) (t + 1) (hi_remaining p g live) → SlotTo p x g g' live live' → Feasible (windows_of p) (t + 1) (hi_remaining p g' live')
    spare_feasible x spare slot = spare_keeps (windows_of p) t (hi_remaining p g live) (hi_remaining p g' live') now (remaining_fewer x g g' live live' slot) spare

  -- demand 3a: a HI job that is live at its deadline has had its whole hi (W3), so none is live with fewer
  pub high_met : (t : ℕ) (g : ℕ → ℕ) (live : ℕ → Bool) → Feasible (windows_of p) t (hi_remaining p g live)
      → (k : ℕ) → k < p.jobs → is_hi (job_at p k) ≡ true → (job_at p k).deadline ≤ t → live k ≡ true → (job_at p k).hi ≤ g k
  high_met t g live now k l high h alive = omega (arith, met (windows_of p) t (hi_remaining p g live) now.0 k l h, remaining_live g live k high alive)
