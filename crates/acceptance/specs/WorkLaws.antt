-- Laws of check 9 and of the analysis: a row of the plan's layout as the plan's row, for the work that the code has in an array.
use Rattle.std.specs.Prelude.{ℕ, zero, suc, ◌≤◌, ◌≡◌, refl, pos, length, take}
use Rattle.std.proofs.Common.{ap, sym, ◌∙◌, length-take-le}
use Rattle.std.proofs.lemmas.List.{take-map}
use mathlib.Core.List.{List, [], ◌∷◌, map, zip_with}
use Rattle.words.specs.Words.{below0, filled}
use Rattle.plan.specs.declared.Job.{Job}
use Rattle.plan.specs.declared.Plan.{Plan}
use Rattle.plan.specs.Plan.{jobs_of, counts_at}
use Rattle.intervals.specs.declared.Interval.{Interval}
use Rattle.intervals.specs.declared.Layout.{Layout}
use Rattle.intervals.specs.Intervals.{max_intervals, intervals}
use Rattle.spares.specs.Spares.{remaining, spares, row, current}
use Rattle.intervals.specs.Layout.{layout_of}
use Rattle.spares.specs.InLayout.{row_in}
use Rattle.spares.specs.InLayoutLaws.{row_of_layout}
use Rattle.intervals.specs.LayoutLaws.{past_of_layout}
use Rattle.spares.specs.Debt.{in_debt}
use Rattle.spares.specs.DebtLaws.{in_debt_lem}
use Rattle.acceptance.specs.Acceptance.{along_table}
use Rattle.acceptance.specs.Work.{left_along, work_along, sums_along}

-- ---- a row needs no more work than there are jobs
remaining_take : (e : ℕ) (js : List Job) (ws : List ℕ) → remaining e js (take (length js) ws) ≡ remaining e js ws
unfolding remaining
remaining_take e [] ws = refl
remaining_take e (j ∷ js) [] = refl
remaining_take e (j ∷ js) (w ∷ ws) = rw (remaining_take e js ws)

spares_same : (t : ℕ) (js : List Job) (ws vs : List ℕ) (xs : List Interval) → ((e : ℕ) → remaining e js ws ≡ remaining e js vs) → spares t js ws xs ≡ spares t js vs xs
unfolding spares
spares_same t js ws vs [] h = refl
spares_same t js ws vs (x ∷ xs) h = rw (h x.end, spares_same t js ws vs xs h)

pub row_same : (p : Plan) (t : ℕ) (ws vs : List ℕ) → take (length (jobs_of p)) ws ≡ vs → row p t ws ≡ row p t vs
unfolding row
row_same p t ws vs e =
    let r : (k : ℕ) → remaining k (jobs_of p) ws ≡ remaining k (jobs_of p) vs = λ k. sym (remaining_take k (jobs_of p) ws) ∙ ap (remaining k (jobs_of p)) e in
    ap (filled max_intervals (pos 0)) (spares_same t (jobs_of p) ws vs (intervals p) r)

-- ---- two lists joined: the first n

zip_take : {A : Type 0} (f : A → ℕ → ℕ) (n : ℕ) (xs : List A) (ys : List ℕ) → take n (zip_with f xs ys) ≡ zip_with f (take n xs) ys
unfolding zip_with
zip_take f zero xs ys = refl
zip_take f (suc n) [] ys = refl
zip_take f (suc n) (x ∷ xs) [] = refl
zip_take f (suc n) (x ∷ xs) (y ∷ ys) = ap (f x y ∷◌) (zip_take f n xs ys)

-- ---- the current HI spare along the table, by the plan's layout and the sums

pub along_layout : (p : Plan) (t : ℕ) (l : Layout) (counts sums : List ℕ) → p.jobs ≤ length p.job → length l.interval ≡ max_intervals → l ≡ layout_of p → counts ≡ counts_at p t → sums ≡ sums_along l.home p.job counts
    → in_debt l t sums ≡ below0 (current p t (row p t (along_table p t)))
unfolding current along_table
along_layout p t l counts sums le size e f g =
    let work : List ℕ = work_along p.job counts in
    let w : take (length (jobs_of p)) work ≡ zip_with left_along (jobs_of p) (counts_at p t) = rw (length-take-le p.jobs p.job le, zip_take left_along p.jobs p.job counts, f) in
    in_debt_lem l t work sums size g ∙ rw (e, past_of_layout p t, row_of_layout p t work, row_same p t work _ w)

-- ---- the rows of border 0
-- a row of border 0, by the plan's layout
pub start_row : (p : Plan) (l : Layout) (f : Job → ℕ) → p.jobs ≤ length p.job → l ≡ layout_of p → row_in l 0 (map f p.job) ≡ row p 0 (map f (jobs_of p))
start_row p l f le e = rw (e, row_of_layout p 0 (map f p.job)) (row_same p 0 (map f p.job) _ (rw (length-take-le p.jobs p.job le) (take-map f p.jobs p.job)))
