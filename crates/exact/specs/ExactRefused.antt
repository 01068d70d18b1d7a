-- A refusal shows needs that are hopeless: hi for the HI jobs that are due by e and have a table slot to come at t, lo for all others.
-- No overrun comes up to t, one comes later, and any order that continues the table run puts more than e - t slots between t and e.
use Rattle.std.specs.Prelude.{ℕ, zero, suc, ◌-◌, ◌≤◌, ◌<◌, ◌≡◌, ◌⊎◌, Bool, false, ◌&&◌, List, get_or, if◌then◌else◌}
use Rattle.std.proofs.Common.{zero-le, arith, sym, ◌∙◌, inl, inr, ⊎_elim, le-leb, lt-ltb, le-ltb}
use Rattle.std.proofs.Math.Decide.{dec_le}
use Rattle.std.proofs.Math.Path.{refl}
use Rattle.std.proofs.Math.Bool.{true}
use Rattle.std.proofs.lemmas.Bool.{lt-leb}
use Rattle.words.specs.Words.{◌≤?◌, ◌<?◌}
use Rattle.windows.specs.SumLaws.{total_mono, gate_open, gate_shut, gate_none}
use Rattle.windows.specs.Windows.{due_at, due_by}
use Rattle.windows.specs.Orders.{given}
use Rattle.windows.specs.SlotLaws.{given_split, given_wider, given_fewer, counting}
use Rattle.plan.specs.declared.Plan.{Plan}
use Rattle.plan.specs.Plan.{is_hi, table_at}
use Rattle.well_formed.specs.InOrder.{job_at, tab, InOrder}
use Rattle.spare_theory.specs.Promise.{windows_of, asked}
use Rattle.words.specs.Cases.{never}
use Rattle.exact.specs.Hopeless.{Needs, OverrunsAt, FirstOverrun, Continues, Serves, Hopeless}
use Rattle.exact.specs.ExactRun.{in_window_lem, run_names, Overrun, overruns_at, overrun_of, first_overrun, overruns_by}
use Rattle.well_formed.specs.InOrderLaws.{job_no_lem, place_of_lem}
use Rattle.spare_theory.specs.CountLaws.{tab_start, tab_split, tab_mono}
use Rattle.spare_theory.specs.TableLaws.{asked_high, asked_case, tab_due, coming_open}

-- the needs that a refusal at (t, e) shows
unfoldable pub worst : Plan → ℕ → ℕ → ℕ → ℕ
worst p t e zero = 0
worst p t e (suc k) = if is_hi (job_at p k) && (tab p k t <? (job_at p k).lo) && ((job_at p k).deadline ≤? e) then (job_at p k).hi else (job_at p k).lo

module _ (p : Plan) (t e : ℕ) where
  -- what the job at place k may ask at t, due by e
  abbrev asks : ℕ → ℕ
  asks = due_at (windows_of p) (asked p t) e

  -- a HI job that is due by e and has a table slot to come at t: it needs its hi, and asks what it has not had
  record Pressed (k : ℕ) : Type 0 where
    high : is_hi (job_at p k) ≡ true
    coming : tab p k t < (job_at p k).lo
    early : (job_at p k).deadline ≤ e
    needs : worst p t e (suc k) ≡ (job_at p k).hi
    asking : asks k ≡ (job_at p k).hi - tab p k t

  -- by cases: such a job, or one that needs its lo and asks nothing
  worst_case : (k : ℕ) → Pressed k ⊎ ((worst p t e (suc k) ≡ (job_at p k).lo) × (asks k ≡ 0))
  unfolding worst
  worst_case k = go (is_hi (job_at p k)) refl (dec_le (suc (tab p k t)) (job_at p k).lo) (dec_le (job_at p k).deadline e)
    where
      -- a job that is not HI, or has had its lo table slots, asks nothing
      nothing : (is_hi (job_at p k) ≡ true → tab p k t < (job_at p k).lo → ⊥) → asks k ≡ 0
      nothing q = gate_none (job_at p k).deadline e (asked p t k) (⊎_elim (λ w. absurd (q w.0 w.1)) (λ w. w) (asked_case p t k))

      go : (b : Bool) → is_hi (job_at p k) ≡ b → Dec (suc (tab p k t) ≤ (job_at p k).lo) → Dec ((job_at p k).deadline ≤ e) → Pressed k ⊎ ((worst p t e (suc k) ≡ (job_at p k).lo) × (asks k ≡ 0))
      go true h (yes q) (yes r) = inl
          record {
            high = h;
            coming = q;
            early = r;
            needs = rw (h, lt-ltb (tab p k t) (job_at p k).lo q, le-leb (job_at p k).deadline e r);
            asking = gate_open (asked p t k) r ∙ asked_high p t k h q;
          }
      go true h (yes q) (no r) =
          let late : e < (job_at p k).deadline = omega arith in
          inr (rw (h, lt-ltb (tab p k t) (job_at p k).lo q, lt-leb (job_at p k).deadline e late), gate_shut (asked p t k) late)
      go true h (no q) r = inr (rw (h, le-ltb (tab p k t) (job_at p k).lo (omega arith)), nothing (λ _ l. omega arith))
      go false h q r = inr (rw h, nothing (λ w _. never w h))

  module _ (ok : InOrder p) where
    -- they are needs: none is above hi
    worst_needs : Needs p (worst p t e)
    worst_needs n h =
        let i = place_of_lem p n h in
        let k = n - 1 in
        rw (i.0, job_no_lem p k) (⊎_elim (λ w. omega (arith, w.needs)) (λ w. omega (arith, w.0, ok.budget k i.1)) (worst_case k))

    -- no overrun up to t
    worst_early : (u : ℕ) → u ≤ t → Overrun p (worst p t e) u → ⊥
    worst_early u h o =
        ⊎_elim
        (λ w. let m = tab_mono p o.who (suc o.slot) t (omega (arith, o.border)) in omega (arith, o.last, w.coming))
        (λ w. omega (arith, o.more, w.0))
        (worst_case o.who)

    -- with no overrun at all the table itself gives what is asked, between t and e
    table_gives : ((u : ℕ) → OverrunsAt p (worst p t e) u → ⊥) → (k : ℕ) → k < p.jobs → asks k ≤ given (table_at p) (suc k) t e
    table_gives none k l = ⊎_elim (λ w. go w (dec_le (job_at p k).hi (job_at p k).lo)) (λ w. omega (arith, w.1)) (worst_case k)
      where
        go : Pressed k → Dec ((job_at p k).hi ≤ (job_at p k).lo) → asks k ≤ given (table_at p) (suc k) t e
        go w (no q) = absurd
            (let o = overruns_by p (worst p t e) ok k p.slots l w.high (omega (arith, w.needs)) (omega arith) (omega (arith, ok.full k l)) in
            none o.0 (overruns_at p (worst p t e) o.0 o.2))
        go w (yes q) =
            let c = coming_open p ok k t l w.coming in
            let s = tab_split p k t (job_at p k).deadline (omega arith) in
            omega (arith, w.asking, tab_due p ok k l, given_wider (table_at p) (suc k) t (job_at p k).deadline t e (omega arith) w.early)

    -- an order that continues the table run from a later border, and serves, gives what is asked between t and e
    order_gives : (u : ℕ) (order : List ℕ) → t < u → Continues p (worst p t e) u order → Serves p (worst p t e) order
        → (k : ℕ) → k < p.jobs → asks k ≤ given (λ s. get_or order s 0) (suc k) t e
    order_gives u order h continues serves k l = ⊎_elim go (λ w. omega (arith, w.1)) (worst_case k)
      where
        who : ℕ → ℕ
        who s = get_or order s 0

        go : Pressed k → asks k ≤ given who (suc k) t e
        go w =
            let c = coming_open p ok k t l w.coming in
            let s = serves (suc k) (omega arith, l) (rw (job_no_lem p k) w.high) in
            let f = given_fewer who (table_at p) (suc k) (suc k) 0 t (λ s m v q. run_names p (worst p t e) s k (sym (continues.1 s (omega arith)) ∙ q)) in
            omega (
              arith,
              w.needs,
              w.asking,
              w.early,
              in_window_lem p k order,
              tab_split p k 0 t zero-le,
              tab_start p k,
              given_wider who (suc k) (job_at p k).release (job_at p k).deadline 0 e zero-le w.early,
              given_split who (suc k) 0 t e zero-le (omega (arith, w.early)),
            )

    -- slots that give what is asked between t and e are more than there are
    too_many : e - t < due_by (windows_of p) (asked p t) e → (who : ℕ → ℕ) → ((k : ℕ) → k < p.jobs → asks k ≤ given who (suc k) t e) → ⊥
    unfolding due_by
    too_many fails who gives =
        let m = total_mono p.jobs asks (λ k. given who (suc k) t e) gives in
        omega (arith, counting who p.jobs t e)

    -- where more than e - t may be asked at t by the jobs due by e, these needs are hopeless
    pub worst_hopeless : e - t < due_by (windows_of p) (asked p t) e → Needs p (worst p t e) × Hopeless p (worst p t e)
    worst_hopeless fails = (worst_needs, ⊎_elim hopeless (λ none. absurd (too_many fails (table_at p) (table_gives none))) (first_overrun p (worst p t e)))
      where
        no_order : (u : ℕ) → FirstOverrun p (worst p t e) u → (order : List ℕ) → Continues p (worst p t e) u order → Serves p (worst p t e) order → Dec (u ≤ t) → ⊥
        no_order u first order continues serves (yes q) = worst_early u q (overrun_of p (worst p t e) u first.0)
        no_order u first order continues serves (no q) = too_many fails (λ s. get_or order s 0) (order_gives u order (omega arith) continues serves)

        hopeless : (u : ℕ) × FirstOverrun p (worst p t e) u → Hopeless p (worst p t e)
        hopeless (u, first) = (u, first, λ order continues serves. no_order u first order continues serves (dec_le u t))
