-- Laws of a plan in order: what may be asked along the table, what A1 and A2 give of work that is no more, and the overrun line.
use Rattle.std.specs.Prelude.{ℕ, suc, ◌+◌, ◌-◌, ◌≤◌, ◌<◌, ◌≡◌, ◌⊎◌, Bool, false}
use Rattle.std.proofs.Common.{zero-le}
use Rattle.std.proofs.Math.Decide.{dec_le, ℕ_discrete}
use native.Mathlib.Omega.{arith}
use Rattle.std.proofs.Math.Path.{refl}
use Rattle.std.proofs.Math.Logic.{inl, inr, ⊎_elim}
use Rattle.std.proofs.Math.Bool.{true}
use borrow.Author.Tests.{ltb-true, lt-ltb}
use Rattle.words.specs.Words.{◌<?◌}
use Rattle.windows.specs.SumLaws.{total_mono, total_none, gate_shut, gate_case, gate_mono, gate_none}
use Rattle.windows.specs.Windows.{due_at, due_by, inside_at, within, InTime, Feasible, NoMore}
use Rattle.windows.specs.WindowLaws.{due_less, in_time_mono, within_mono}
use Rattle.windows.specs.SlotLaws.{given_none}
use Rattle.plan.specs.declared.Job.{Job}
use Rattle.plan.specs.declared.Plan.{Plan}
use Rattle.plan.specs.Plan.{is_hi, table_at}
use Rattle.spares.specs.Spares.{hi_left}
use Rattle.well_formed.specs.InOrder.{job_at, tab, InOrder}
use Rattle.spare_theory.specs.Promise.{windows_of, hi_of, asked, A1, A2}
use Rattle.spare_theory.specs.CountLaws.{tab_start, tab_split, tab_mono}

-- ---- the HI work of a job
-- of a live HI job
pub hi_left_lem : (j : Job) (live : Bool) (g : ℕ) → live ≡ true → is_hi j ≡ true → hi_left j live g ≡ j.hi - g
unfolding hi_left
hi_left_lem j live g l h = rw (l, h)

-- by cases: a live HI job, or nothing
pub hi_left_case : (j : Job) (live : Bool) (g : ℕ) → ((live ≡ true) × (is_hi j ≡ true) × (hi_left j live g ≡ j.hi - g)) ⊎ (hi_left j live g ≡ 0)
unfolding hi_left
hi_left_case j true g = go (is_hi j) refl
  where
    go : (b : Bool) → is_hi j ≡ b → ((true ≡ true) × (is_hi j ≡ true) × (hi_left j true g ≡ j.hi - g)) ⊎ (hi_left j true g ≡ 0)
    go true e = inl (refl, e, hi_left_lem j true g refl e)
    go false e = inr (rw e)
hi_left_case j false g = inr refl

module _ (p : Plan) where
  -- ---- what may be asked
  -- of a HI job with fewer than lo table slots behind it
  pub asked_high : (t k : ℕ) → is_hi (job_at p k) ≡ true → tab p k t < (job_at p k).lo → asked p t k ≡ (job_at p k).hi - tab p k t
  unfolding asked
  asked_high t k h l = hi_left_lem (job_at p k) (tab p k t <? (job_at p k).lo) (tab p k t) (lt-ltb (tab p k t) (job_at p k).lo l) h

  -- by cases: such a job, or nothing
  pub asked_case : (t k : ℕ) → ((is_hi (job_at p k) ≡ true) × (tab p k t < (job_at p k).lo) × (asked p t k ≡ (job_at p k).hi - tab p k t)) ⊎ (asked p t k ≡ 0)
  unfolding asked
  asked_case t k = ⊎_elim (λ w. inl (w.1, ltb-true (tab p k t) (job_at p k).lo w.0, w.2)) inr (hi_left_case (job_at p k) (tab p k t <? (job_at p k).lo) (tab p k t))

  -- HI work is hi of a HI job at most, and nothing of the others
  pub hi_left_small : (k : ℕ) (live : Bool) (g : ℕ) → hi_left (job_at p k) live g ≤ hi_of p k
  unfolding hi_of
  hi_left_small k live g = ⊎_elim (λ w. omega (arith, w.2, hi_left_lem (job_at p k) true 0 refl w.1)) (λ w. omega arith) (hi_left_case (job_at p k) live g)

  -- ---- every window
  -- I3 with A1: work that is in time at t and for nobody above the hi of a HI job overfills no window
  pub feasible : A1 p → (t : ℕ) (left : ℕ → ℕ) → NoMore (windows_of p) left (hi_of p) → InTime (windows_of p) t left → Feasible (windows_of p) t left
  feasible a1 t left small now = (now, λ a b h. let m = a1 a b in omega (arith, within_mono (windows_of p) (hi_of p) left small a b))

  module _ (ok : InOrder p) where
    -- past the table's end each job has had its lo slots, so nothing may be asked
    asked_over : (t k : ℕ) → k < p.jobs → p.slots ≤ t → asked p t k ≡ 0
    asked_over t k l h = ⊎_elim (λ w. absurd (omega (arith, w.1, ok.full k l, tab_mono p k p.slots t h))) (λ w. w) (asked_case t k)

    -- so all is in time there
    pub past_in_time : (t : ℕ) → p.slots ≤ t → InTime (windows_of p) t (asked p t)
    unfolding due_by
    past_in_time t h e = omega (arith, total_none p.jobs (due_at (windows_of p) (asked p t) e) (λ k l. gate_none (job_at p k).deadline e (asked p t k) (asked_over t k l h)))

    -- A2 at every border
    pub a2_all : A2 p → (t : ℕ) → InTime (windows_of p) t (asked p t)
    a2_all a2 t = go (dec_le p.slots t)
      where
        go : Dec (p.slots ≤ t) → InTime (windows_of p) t (asked p t)
        go (no q) = a2 t (omega arith)
        go (yes q) = past_in_time t q

    -- work that is at most what may be asked at border t is in time
    pub asked_in_time : A2 p → (t : ℕ) (left : ℕ → ℕ) → NoMore (windows_of p) left (asked p t) → InTime (windows_of p) t left
    asked_in_time a2 t left fewer = in_time_mono (windows_of p) t (asked p t) left fewer (a2_all a2 t)

    -- a job that is released at a or later has no table slot before a
    pub tab_none : (a k : ℕ) → k < p.jobs → a ≤ (job_at p k).release → tab p k a ≡ 0
    tab_none a k l h =
        let z = given_none (table_at p) (suc k) 0 a (λ s m u e. let d = ok.window k l in let b = ok.ends k l in let n = ok.names s (omega arith) k e in omega arith) in
        omega (arith, tab_split p k 0 a zero-le, tab_start p k)

    -- a job has all its table slots by its deadline
    pub tab_due : (k : ℕ) → k < p.jobs → tab p k (job_at p k).deadline ≡ (job_at p k).lo
    tab_due k l =
        let z = given_none (table_at p) (suc k) (job_at p k).deadline p.slots (λ s m u e. let n = ok.names s u k e in omega arith) in
        omega (arith, ok.full k l, tab_split p k (job_at p k).deadline p.slots (ok.ends k l))

    -- a job with a table slot to come is not past its deadline
    pub coming_open : (k t : ℕ) → k < p.jobs → tab p k t < (job_at p k).lo → t < (job_at p k).deadline
    coming_open k t l h = go (dec_le (job_at p k).deadline t)
      where
        go : Dec ((job_at p k).deadline ≤ t) → t < (job_at p k).deadline
        go (yes q) = absurd (omega (arith, tab_due k l, tab_mono p k (job_at p k).deadline t q))
        go (no q) = omega arith

    -- so nothing may be asked by a job whose deadline has come
    pub asked_due : (t k : ℕ) → k < p.jobs → (job_at p k).deadline ≤ t → asked p t k ≡ 0
    asked_due t k l h = ⊎_elim (λ w. absurd (omega (arith, coming_open k t l w.1))) (λ w. w) (asked_case t k)

    -- the work released at a or later and due by b may be asked at border a
    pub within_asked : (a b : ℕ) → within (windows_of p) (hi_of p) a b ≤ due_by (windows_of p) (asked p a) b
    unfolding within due_by hi_of
    within_asked a b = total_mono p.jobs (inside_at (windows_of p) (hi_of p) a b) (due_at (windows_of p) (asked p a) b) each
      where
        high : (k : ℕ) → k < p.jobs → a ≤ (job_at p k).release → hi_of p k ≤ asked p a k
        high k l r =
            let z = tab_none a k l r in
            ⊎_elim (λ w. omega (arith, w.2, ok.some k l, asked_high a k w.1 (omega (arith, ok.some k l)))) (λ w. omega arith) (hi_left_case (job_at p k) true 0)

        each : (k : ℕ) → k < p.jobs → inside_at (windows_of p) (hi_of p) a b k ≤ due_at (windows_of p) (asked p a) b k
        each k l =
            ⊎_elim
            (λ w. omega (arith, w.1, gate_mono (job_at p k).deadline b (hi_of p k) (asked p a k) (high k l w.0)))
            (λ w. omega arith)
            (gate_case a (job_at p k).release (due_at (windows_of p) (hi_of p) b k))

    -- so A1 follows from A2
    pub a1_of_a2 : A2 p → A1 p
    a1_of_a2 a2 a b = let m = a2_all a2 a b in omega (arith, within_asked a b)

    -- the overrun line: all was in time at t, j has less left at t + 1, nobody more, and the others no more than may be asked there. Then at t + 1 all is in time
    pub overrun_in_time : A2 p → (t j : ℕ) (left left' : ℕ → ℕ) → j < p.jobs → InTime (windows_of p) t left
        → NoMore (windows_of p) left' left → left' j + 1 ≤ left j
        → ((k : ℕ) → k < p.jobs → (k ≡ j → ⊥) → left' k ≤ asked p (t + 1) k)
        → InTime (windows_of p) (t + 1) left'
    unfolding due_by
    overrun_in_time a2 t j left left' l now fewer one others e = go (dec_le (job_at p j).deadline e)
      where
        go : Dec ((job_at p j).deadline ≤ e) → due_by (windows_of p) left' e ≤ e - (t + 1)
        go (yes q) = let n = now e in omega (arith, due_less (windows_of p) left left' fewer j l one e q)
        go (no q) =
            let m = total_mono p.jobs (due_at (windows_of p) left' e) (due_at (windows_of p) (asked p (t + 1)) e) (λ k h. each k h (ℕ_discrete k j)) in
            let n = a2_all a2 (t + 1) e in
            omega arith
          where
            each : (k : ℕ) → k < p.jobs → Dec (k ≡ j) → due_at (windows_of p) left' e k ≤ due_at (windows_of p) (asked p (t + 1)) e k
            each k h (yes w) = rw w (omega (arith, gate_shut {a = (job_at p j).deadline} {b = e} (left' j) (omega arith)))
            each k h (no w) = gate_mono (job_at p k).deadline e (left' k) (asked p (t + 1) k) (others k h w)
