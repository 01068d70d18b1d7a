-- A plan's own layout gives the plan's own row: the work at home in a place is the remaining work of the interval there,
-- since the ends of intervals are distinct.
use Rattle.std.specs.Prelude.{ℕ, zero, suc, ◌+◌, ◌-◌, ◌<◌, ◌≡◌, refl, true, false, List, [], ◌∷◌, ◌++◌, map, pos, negsuc, length, replicate}
use Rattle.std.specs.Ordering.{int_eq}
use lib.Pointwise.{pointwise}
use Rattle.std.proofs.Common.{ap, ◌∙◌, arith, eq-eqb, ne_eqb, eqb-true, Decides}
use Rattle.std.proofs.lemmas.Bool.{false≢true}
use Rattle.std.proofs.lemmas.Bool.Decides.{same_from_decides}
use Rattle.std.specs.Cmp.{signed_Decides}
use mathlib.Core.List.{zip_with}
use Rattle.words.specs.Words.{filled, every}
use Rattle.words.specs.Cases.{by_test}
use Rattle.plan.specs.declared.Job.{Job}
use Rattle.plan.specs.declared.Plan.{Plan}
use Rattle.plan.specs.Limits.{max_jobs}
use Rattle.plan.specs.Plan.{jobs_of}
use Rattle.plan.specs.Rules.{windows_hold}
use Rattle.intervals.specs.declared.Interval.{Interval}
use Rattle.intervals.specs.declared.Layout.{Layout}
use Rattle.intervals.specs.Intervals.{max_intervals, intervals}
use Rattle.intervals.specs.Layout.{place_of, homes, layout_of}
use Rattle.intervals.specs.Covers.{Covers, interval_at}
use Rattle.intervals.specs.IntervalLaws.{intervals_cover, few_intervals, no_intervals}
use Rattle.intervals.specs.LayoutLaws.{same_place, listed_layout, past_of_layout}
use Rattle.spares.specs.Spares.{Spare, remaining, spares, row, current, same_spare, same_row}
use Rattle.spares.specs.InLayout.{work_at, spares_from, row_in, current_in}

-- ---- the work of a place

no_work : (i m : ℕ) (ws : List ℕ) → i < max_intervals → work_at i (replicate m max_intervals) ws ≡ 0
unfolding work_at
no_work i zero ws h = refl
no_work i (suc m) [] h = refl
no_work i (suc m) (w ∷ ws) h = rw (ne_eqb max_intervals i (λ q. omega arith)) (omega (arith, no_work i m ws h))

work_at_home : (a : ℕ) (xs : List Interval) (b i m : ℕ) (js : List Job) (ws : List ℕ) → Covers a xs b → i < length xs → i < max_intervals
    → work_at i (map (λ j. place_of j.deadline xs) js ++ replicate m max_intervals) ws ≡ remaining (interval_at xs i).end js ws
unfolding work_at remaining
work_at_home a xs b i m [] ws c h l = no_work i m ws l
work_at_home a xs b i m (j ∷ js) [] c h l = refl
work_at_home a xs b i m (j ∷ js) (w ∷ ws) c h l =
    rw (same_place a xs b i j.deadline c h, work_at_home a xs b i m js ws c h l)

-- ---- the row

-- intervals from place i on, the work of each place being the remaining work of its interval
same_spares : (t i : ℕ) (hs ws : List ℕ) (js : List Job) (ys : List Interval)
    → ((k : ℕ) → k < length ys → work_at (i + k) hs ws ≡ remaining (interval_at ys k).end js ws) → spares_from t i hs ws ys ≡ spares t js ws ys
unfolding spares_from spares
same_spares t i hs ws js [] h = refl
same_spares t i hs ws js (y ∷ ys) h =
    let later : spares_from t (suc i) hs ws ys ≡ spares t js ws ys = same_spares t (suc i) hs ws js ys (λ k l.
    let e : suc i + k ≡ i + suc k = omega arith in
    rw e (h (suc k) (omega arith))) in
    let here : work_at i hs ws ≡ remaining y.end js ws =
    let e : i ≡ i + 0 = omega arith in
    rw e (h 0 (omega arith)) in
    rw (later, here)

-- the remaining work of the i-th interval is the work at home in place i
pub work_of_layout : (p : Plan) (ws : List ℕ) (i : ℕ) → windows_hold p ≡ true → i < length (intervals p)
    → work_at i (layout_of p).home ws ≡ remaining (interval_at (intervals p) i).end (jobs_of p) ws
unfolding layout_of homes
work_of_layout p ws i h l =
    let beyond = max_jobs - length (map (λ j. place_of j.deadline (intervals p)) (jobs_of p)) in
    work_at_home 0 (intervals p) p.slots i beyond (jobs_of p) ws (intervals_cover p h) l (omega (arith, few_intervals p h))

-- the row of a plan's own layout is the plan's row
pub row_of_layout : (p : Plan) (t : ℕ) (ws : List ℕ) → row_in (layout_of p) t ws ≡ row p t ws
unfolding row_in row spares_from spares
row_of_layout p t ws = ap (filled max_intervals (pos 0)) (ap (spares_from t 0 (layout_of p).home ws) (listed_layout p) ∙ by_test (windows_hold p) holds fails)
  where
    holds : windows_hold p ≡ true → spares_from t 0 (layout_of p).home ws (intervals p) ≡ spares t (jobs_of p) ws (intervals p)
    holds h = same_spares t 0 (layout_of p).home ws (jobs_of p) (intervals p) (λ k l. let e : 0 + k ≡ k = omega arith in rw e (work_of_layout p ws k h l))

    fails : windows_hold p ≡ false → spares_from t 0 (layout_of p).home ws (intervals p) ≡ spares t (jobs_of p) ws (intervals p)
    fails h = rw (no_intervals p h)

-- and its current spare the plan's
pub current_of_layout : (p : Plan) (l : Layout) (t : ℕ) (zs : List Spare) → l ≡ layout_of p → current_in l t zs ≡ current p t zs
unfolding current_in current
current_of_layout p l t zs e = rw (e, past_of_layout p t)

-- ---- two rows

-- two spares are the same exactly when they are one number
one_spare : (x y : Spare) → Decides (same_spare x y) (x ≡ y)
one_spare (pos m) (pos n) = (λ t. ap pos (eqb-true m n t), λ e. eq-eqb m n cc)
one_spare (pos m) (negsuc n) = (λ t. absurd (false≢true t), λ e. cc)
one_spare (negsuc m) (pos n) = (λ t. absurd (false≢true t), λ e. cc)
one_spare (negsuc m) (negsuc n) = (λ t. ap negsuc (eqb-true m n t), λ e. eq-eqb m n cc)

-- rows of one length are the same where the library's test says so
pub same_row_lem : (xs ys : List Spare) → length xs ≡ length ys → pointwise int_eq xs ys ≡ same_row xs ys
unfolding same_row every zip_with
same_row_lem [] [] h = refl
same_row_lem [] (y ∷ ys) h = absurd (omega arith)
same_row_lem (x ∷ xs) [] h = absurd (omega arith)
same_row_lem (x ∷ xs) (y ∷ ys) h = rw (same_row_lem xs ys (omega arith), same_from_decides _ (same_spare x y) (signed_Decides x y) (one_spare x y))
