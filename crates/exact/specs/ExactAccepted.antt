-- Acceptance gives the order: at the first overrun what the HI jobs still need overfills no window,
-- so the theory of windows lays out the coming slots, the earliest deadline first.
use Rattle.std.specs.Prelude.{ℕ, zero, suc, ◌+◌, ◌-◌, ◌≤◌, ◌<◌, max, ◌≡◌, ◌⊎◌, Bool, List, get_or, if◌then◌else◌}
use Rattle.std.proofs.Common.{zero-le, add-one, arith, sym, ◌∙◌, lt-ltb, le-ltb}
use Rattle.std.proofs.Math.Decide.{dec_le, dec_lt}
use Rattle.std.proofs.Math.Path.{refl}
use Rattle.std.proofs.Math.Logic.{inl, inr, ⊎_elim}
use Rattle.std.proofs.Math.Bool.{true, false}
use Rattle.std.proofs.Math.ListN.{get_or-eq_default}
use Rattle.words.specs.Words.{◌<?◌}
use Rattle.windows.specs.SumLaws.{same_yes, same_no}
use Rattle.windows.specs.Windows.{InTime, NoMore}
use Rattle.windows.specs.Orders.{given, Order}
use Rattle.windows.specs.SlotLaws.{given_joined, given_agree}
use Rattle.windows.specs.OrderLaws.{order_exists}
use Rattle.plan.specs.declared.Plan.{Plan}
use Rattle.plan.specs.Plan.{is_hi, table_at}
use Rattle.exact.specs.Hopeless.{Needs, table_run, slots_by, FirstOverrun, Continues, JobsOnly, Serves}
use Rattle.exact.specs.ExactRun.{slots_by_long, slots_by_at, slots_by_serves, run_names, run_gives, Overrun, overruns_at, overrun_of, overruns_by}
use Rattle.well_formed.specs.InOrder.{job_at, tab, InOrder}
use Rattle.spare_theory.specs.Promise.{windows_of, hi_of, asked, A2}
use Rattle.well_formed.specs.InOrderLaws.{job_no_lem}
use Rattle.spare_theory.specs.CountLaws.{tab_last, tab_mono}
use Rattle.spare_theory.specs.TableLaws.{hi_left_lem, asked_high, feasible, asked_in_time, a1_of_a2, overrun_in_time}

module _ (p : Plan) (need : ℕ → ℕ) where
  -- what a HI job still needs at border t of the table run
  unfoldable still : ℕ → ℕ → ℕ
  still t k = if is_hi (job_at p k) then need (suc k) - tab p k t else 0

  -- of a HI job
  still_high : (t k : ℕ) → is_hi (job_at p k) ≡ true → still t k ≡ need (suc k) - tab p k t
  unfolding still
  still_high t k h = rw h

  -- by cases on the level
  still_case : (t k : ℕ) → ((is_hi (job_at p k) ≡ true) × (still t k ≡ need (suc k) - tab p k t)) ⊎ (still t k ≡ 0)
  unfolding still
  still_case t k = go (is_hi (job_at p k)) refl
    where
      go : (b : Bool) → is_hi (job_at p k) ≡ b → ((is_hi (job_at p k) ≡ true) × (still t k ≡ need (suc k) - tab p k t)) ⊎ (still t k ≡ 0)
      go true e = inl (e, still_high t k e)
      go false e = inr (rw e)

  module _ (ok : InOrder p) (needs : Needs p need) where
    -- no need is above hi
    need_le : (k : ℕ) → k < p.jobs → need (suc k) ≤ (job_at p k).hi
    need_le k l = rw (job_no_lem p k) at (needs (suc k) (omega arith, l))

    -- a HI job that has had its lo table slots with no overrun needs nothing more; any other needs no more than may be asked
    still_asked : (t k : ℕ) → k < p.jobs → (is_hi (job_at p k) ≡ true → (job_at p k).lo ≤ tab p k t → need (suc k) ≤ (job_at p k).lo) → still t k ≤ asked p t k
    still_asked t k l quiet = ⊎_elim (λ w. go w (dec_le (job_at p k).lo (tab p k t))) (λ w. omega (arith, w)) (still_case t k)
      where
        go : (is_hi (job_at p k) ≡ true) × (still t k ≡ need (suc k) - tab p k t) → Dec ((job_at p k).lo ≤ tab p k t) → still t k ≤ asked p t k
        go w (yes q) = let z = quiet w.0 q in omega (arith, w.1)
        go w (no q) = omega (arith, w.1, need_le k l, asked_high p t k w.0 (omega arith))

    -- it needs its hi at most
    still_small : (t : ℕ) → NoMore (windows_of p) (still t) (hi_of p)
    unfolding hi_of
    still_small t k l = ⊎_elim (λ w. omega (arith, w.1, need_le k l, hi_left_lem (job_at p k) true 0 refl w.0)) (λ w. omega arith) (still_case t k)

    module _ (t : ℕ) (first : FirstOverrun p need t) where
      -- the overrun, by the place of its job
      o : Overrun p need t
      o = overrun_of p need t first.0

      -- before the first overrun
      quiet : (k s : ℕ) → s < t → k < p.jobs → is_hi (job_at p k) ≡ true → (job_at p k).lo ≤ tab p k s → need (suc k) ≤ (job_at p k).lo
      quiet k s h l high full = go (dec_le (need (suc k)) (job_at p k).lo)
        where
          go : Dec (need (suc k) ≤ (job_at p k).lo) → need (suc k) ≤ (job_at p k).lo
          go (yes q) = q
          go (no q) = absurd
              (let r = overruns_by p need ok k s l high (omega arith) (omega (arith, o.border, o.inside)) full in
              first.1 r.0 (omega (arith, r.1)) (overruns_at p need r.0 r.2))

      -- at the first overrun what is still needed is in time
      overrun_needs : A2 p → InTime (windows_of p) t (still t)
      overrun_needs a2 = rw (o.border ∙ sym (add-one s)) (overrun_in_time p ok a2 s o.who (still s) (still (s + 1)) o.there before fewer one others)
        where
          s : ℕ
          s = o.slot

          before : InTime (windows_of p) s (still s)
          before = asked_in_time p ok a2 s (still s) (λ k l. still_asked s k l (quiet k s (omega (arith, o.border)) l))

          fewer : NoMore (windows_of p) (still (s + 1)) (still s)
          fewer k l = ⊎_elim (λ w. omega (arith, w.1, still_high s k w.0, tab_mono p k s (s + 1) (omega arith))) (λ w. omega arith) (still_case (s + 1) k)

          one : still (s + 1) o.who + 1 ≤ still s o.who
          one =
              rw (add-one s)
              (let had = same_yes (table_at p s) (suc o.who) o.named in
              omega (arith, still_high (suc s) o.who o.high, still_high s o.who o.high, o.last, o.more, tab_last p o.who s))

          others : (k : ℕ) → k < p.jobs → (k ≡ o.who → ⊥) → still (s + 1) k ≤ asked p (s + 1) k
          others k l q = rw (add-one s)
              (let e : tab p k (suc s) ≡ tab p k s = omega (arith, tab_last p k s, same_no (table_at p s) (suc k) (λ w. q (omega (arith, o.named)))) in
              still_asked (suc s) k l (λ high full. quiet k s (omega (arith, o.border)) l high (omega arith)))

      -- it comes at N at the latest
      inside : t ≤ p.slots
      inside = omega (arith, o.border, o.inside)

      -- ---- the order: the table run before t, from t on the slots laid out
      module _ (laid : Order (windows_of p) t (still t)) where
        unfoldable whole : ℕ → ℕ
        whole s = if s <? t then table_run p need s else laid.who s

        -- before t
        whole_before : (s : ℕ) → s < t → whole s ≡ table_run p need s
        unfolding whole
        whole_before s l = rw (lt-ltb s t l)

        -- from t on
        whole_from : (s : ℕ) → t ≤ s → whole s ≡ laid.who s
        unfolding whole
        whole_from s l = rw (le-ltb s t l)

        -- each HI job has just what it needs in its window
        whole_serves : (k : ℕ) → k < p.jobs → is_hi (job_at p k) ≡ true → given whole (suc k) (job_at p k).release (job_at p k).deadline ≡ need (suc k)
        whole_serves k l high =
            let j = given_joined whole (suc k) (job_at p k).release (job_at p k).deadline t (omega (arith, ok.window k l))
            (λ s m e. let n = ok.names s (omega (arith, inside)) k (run_names p need s k (sym (whole_before s m) ∙ e)) in (n.1, n.2)) in
            let r = run_gives p need whole k t whole_before in
            let a = given_agree whole laid.who (suc k) (max (job_at p k).release t) (job_at p k).deadline (λ s m n. whole_from s (omega arith)) in
            omega (arith, still_high t k high, laid.serves k l)

        -- each slot is idle or a job's
        whole_named : (s : ℕ) → whole s ≤ p.jobs
        whole_named s = go (dec_lt s t)
          where
            table_named : (x : ℕ) → s < t → table_run p need s ≡ x → x ≤ p.jobs
            table_named zero l e = zero-le
            table_named (suc k) l e = (ok.names s (omega (arith, inside)) k (run_names p need s k e)).0

            go : Dec (s < t) → whole s ≤ p.jobs
            go (yes l) = rw (whole_before s l) (table_named (table_run p need s) l refl)
            go (no l) = rw (whole_from s (omega arith)) (laid.named s)

        -- as a list of N slots it continues the table run, and serves
        order_serves : JobsOnly p (slots_by p whole) × Continues p need t (slots_by p whole) × Serves p need (slots_by p whole)
        order_serves = (
          λ s. named s (dec_lt s p.slots),
          (slots_by_long p whole, λ s l. slots_by_at p whole s (omega (arith, inside)) ∙ whole_before s l),
          slots_by_serves p whole need ok (λ k l high. omega (arith, whole_serves k l high)),
        )
          where
            named : (s : ℕ) → Dec (s < p.slots) → get_or (slots_by p whole) s 0 ≤ p.jobs
            named s (yes l) = rw (slots_by_at p whole s l) (whole_named s)
            named s (no l) = rw (get_or-eq_default (slots_by p whole) 0 {n = s} (omega (arith, slots_by_long p whole))) zero-le

      -- with A2 there is the order
      pub order_found : A2 p → (order : List ℕ) × JobsOnly p order × Continues p need t order × Serves p need order
      order_found a2 =
          let laid = order_exists (windows_of p) p.slots t (still t) ok.ends (feasible p (a1_of_a2 p ok a2) t (still t) (still_small t) (overrun_needs a2)) in
          let s = order_serves laid in
          (slots_by p (whole laid), s.0, s.1, s.2)
