-- Places by their ends, and a plan's own layout: its list is the plan's intervals. Laws of the intervals alone are in IntervalLaws.
use Rattle.std.specs.Prelude.{ℕ, zero, suc, ◌-◌, ◌<◌, ◌≡◌, refl, length, replicate}
use Rattle.std.proofs.Common.{sym, ap, ◌∙◌, ⊎_elim, not-suc-le-zero, le_of_suc-le-suc, arith, eq-eqb, ne_eqb}
use mathlib.Core.List.Memᴰ
use mathlib.Core.List.{List, [], ◌∷◌, Memᴰ}
use Rattle.std.proofs.Math.Seq.{take-append_seam}
use Rattle.words.specs.Words.{◌=?◌}
use Rattle.words.specs.Cases.{by_equal}
use Rattle.plan.specs.declared.Plan.{Plan}
use Rattle.intervals.specs.declared.Interval.{Interval}
use Rattle.intervals.specs.Intervals.{max_intervals, intervals, past}
use Rattle.intervals.specs.Layout.{blank_interval, place_of, layout_of, listed, past_in}
use Rattle.intervals.specs.Covers.{Covers, ends, interval_at}
use Rattle.intervals.specs.IntervalLaws.{start_end_at}

-- ---- places by their ends

pub place_here : (e : ℕ) (x : Interval) (xs : List Interval) → x.end ≡ e → place_of e (x ∷ xs) ≡ 0
unfolding place_of
place_here e x xs q = rw (eq-eqb x.end e q)

pub place_on : (e : ℕ) (x : Interval) (xs : List Interval) → (x.end ≡ e → ⊥) → place_of e (x ∷ xs) ≡ suc (place_of e xs)
unfolding place_of
place_on e x xs q = rw (ne_eqb x.end e q)

-- the interval at the place of e ends at e
pub at_place : (e : ℕ) (xs : List Interval) → place_of e xs < length xs → (interval_at xs (place_of e xs)).end ≡ e
unfolding place_of
at_place e [] h = absurd (not-suc-le-zero h)
at_place e (x ∷ xs) h =
    by_equal x.end e
    (λ q. rw (eq-eqb x.end e q) q)
    (λ q.
    let h' : suc (place_of e xs) < suc (length xs) = rw (ne_eqb x.end e q) at h in
    rw (ne_eqb x.end e q) (at_place e xs (le_of_suc-le-suc h')))

-- an end has a place
pub place_of_end : (e : ℕ) (xs : List Interval) → Memᴰ e (ends xs) → place_of e xs < length xs
unfolding place_of
place_of_end e [] m = absurd (Memᴰ.not-nil m)
place_of_end e (x ∷ xs) m =
    by_equal x.end e
    (λ q. rw (eq-eqb x.end e q) (omega arith))
    (λ q. rw (ne_eqb x.end e q)
    (⊎_elim (λ r. absurd (q (sym r))) (λ n. omega (arith, place_of_end e xs n)) (Memᴰ.cases_cons m)))

-- of intervals that cover, the i-th is the place of its end
pub place_at : (a : ℕ) (xs : List Interval) (b i : ℕ) → Covers a xs b → i < length xs → place_of (interval_at xs i).end xs ≡ i
unfolding place_of
place_at a [] b i c h = absurd (not-suc-le-zero h)
place_at a (x ∷ xs) b zero c h = rw (eq-eqb x.end x.end refl)
place_at a (x ∷ xs) b (suc i) c h =
    let later = start_end_at x.end xs b i c.2 (le_of_suc-le-suc h) in
    rw (ne_eqb x.end (interval_at xs i).end (λ q. omega (arith, later.0, later.1))) (ap suc (place_at x.end xs b i c.2 (le_of_suc-le-suc h)))

-- so a deadline is the i-th end exactly when its place is i
pub same_place : (a : ℕ) (xs : List Interval) (b i d : ℕ) → Covers a xs b → i < length xs → (d =? (interval_at xs i).end) ≡ (place_of d xs =? i)
same_place a xs b i d c h =
    by_equal d (interval_at xs i).end
    (λ q. eq-eqb _ _ q ∙ sym (eq-eqb _ _ (ap (λ e. place_of e xs) q ∙ place_at a xs b i c h)))
    (λ q. ne_eqb _ _ q ∙ sym (ne_eqb _ _ (λ r. q (sym (at_place d xs (rw r h)) ∙ ap (λ k. (interval_at xs k).end) r))))

-- ---- a plan's own layout

pub listed_layout : (p : Plan) → listed (layout_of p) ≡ intervals p
unfolding layout_of
listed_layout p = take-append_seam (intervals p) (replicate (max_intervals - length (intervals p)) blank_interval)

pub past_of_layout : (p : Plan) (t : ℕ) → past_in (layout_of p) t ≡ past t (intervals p)
unfolding past_in
past_of_layout p t = ap (past t) (listed_layout p)
