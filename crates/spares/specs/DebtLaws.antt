-- A current interval in debt is one whose spare is below 0.
-- The words are in Debt; the laws of the sums and of whole rows are in RowLaws.
use Rattle.std.specs.Prelude.{ℕ, zero, suc, ◌+◌, ◌-◌, ◌*◌, ◌≤◌, ◌<◌, ◌≡◌, refl, Bool, true, false, List, [], ◌∷◌, ◌++◌, ℤ, pos, negsuc, get_or, length, drop, replicate, if◌then◌else◌}
use Rattle.std.proofs.Common.{arith, sym, ap, ◌∙◌, lt-ltb, le-ltb, length-take, length-drop, drop-cons, drop_of_length-le}
use Rattle.words.specs.Words.{◌≤?◌, ◌<?◌, below0}
use Rattle.words.specs.Difference.{Is}
use Rattle.intervals.specs.declared.Interval.{Interval}
use Rattle.intervals.specs.declared.Layout.{Layout}
use Rattle.intervals.specs.Intervals.{max_intervals, past}
use Rattle.spares.specs.Spares.{at_most0, next_spare}
use Rattle.intervals.specs.Layout.{blank_interval, listed, past_in}
use Rattle.spares.specs.InLayout.{spares_from, row_in}
use Rattle.spares.specs.Debt.{max_sum, room, asked, debt_from, of_jobs, of_sums, in_debt, sums_by_home}
use Rattle.spares.specs.RowLaws.{sum_at, debt_is}

-- ---- the debt, worked out last interval first

-- at the code's i - 1: one interval more
pub debt_back : (t i : ℕ) (work : ℕ → ℕ) (xs : List Interval) → 0 < i → i ≤ length xs →
    let x : Interval = get_or xs (i - 1) blank_interval in
    debt_from t (i - 1) work (drop (i - 1) xs) ≡ asked t x (work (i - 1)) (debt_from t i work (drop i xs)) - room t x
unfolding debt_from
debt_back t i work xs p h =
    let e : suc (i - 1) ≡ i = omega arith in
    let here : drop (i - 1) xs ≡ get_or xs (i - 1) blank_interval ∷ drop i xs = rw e at (drop-cons xs (i - 1) blank_interval (omega arith)) in
    rw (here, e)

-- and the debt stays small
pub debt_small : (debt debt' n i : ℕ) → debt' ≤ debt + max_sum → debt ≤ (n - i) * max_sum → 0 < i → i ≤ n → debt' ≤ (n - (i - 1)) * max_sum
debt_small debt debt' n i more small p h = omega arith

-- with none left there is no debt
pub debt_none : (t : ℕ) (work : ℕ → ℕ) (xs : List Interval) → 0 ≡ debt_from t (length xs) work (drop (length xs) xs)
unfolding debt_from
debt_none t work xs = rw (drop_of_length-le xs {i = length xs} (omega arith))

-- ---- the debt and the current spare

-- the same work at each place, the same debt
debt_same : (t i m : ℕ) (f g : ℕ → ℕ) (xs : List Interval) → i + length xs ≤ m → ((k : ℕ) → k < m → f k ≡ g k) → debt_from t i f xs ≡ debt_from t i g xs
unfolding debt_from
debt_same t i m f g [] h same = refl
debt_same t i m f g (x ∷ xs) h same = rw (same i (omega arith), debt_same t (suc i) m f g xs (omega arith) same)

-- a number is below 0 where its part below 0 is
low_part : (z : ℤ) (d : ℕ) → Is (at_most0 z) 0 d → (0 <? d) ≡ below0 z
low_part (pos n) d h = le-ltb 0 d (omega arith)
low_part (negsuc n) d h = lt-ltb 0 d (omega arith)

-- the spare at a place is the first of those from there on
spare_at : (t j i : ℕ) (hs ws : List ℕ) (xs : List Interval) → get_or (spares_from t j hs ws xs) i (pos 0) ≡ next_spare (spares_from t (j + i) hs ws (drop i xs))
unfolding spares_from
spare_at t j zero hs ws [] = refl
spare_at t j zero hs ws (x ∷ xs) = let e : j + 0 ≡ j = omega arith in rw e
spare_at t j (suc i) hs ws [] = refl
spare_at t j (suc i) hs ws (x ∷ xs) = let e : j + suc i ≡ suc j + i = omega arith in rw e (spare_at t (suc j) i hs ws xs)

-- beyond a row there are only zeros
row_at : (xs : List ℤ) (n i : ℕ) → get_or (xs ++ replicate n (pos 0)) i (pos 0) ≡ get_or xs i (pos 0)
row_at [] zero i = refl
row_at [] (suc n) zero = refl
row_at [] (suc n) (suc i) = row_at [] n i
row_at (x ∷ xs) n zero = refl
row_at (x ∷ xs) n (suc i) = row_at xs n i

pub past_within : (t : ℕ) (xs : List Interval) → past t xs ≤ length xs
unfolding past
past_within t [] = omega arith
past_within t (x ∷ xs) = go (x.end ≤? t) (past t xs) (past_within t xs)
  where
    go : (b : Bool) (n : ℕ) → n ≤ length xs → (if b then suc n else 0) ≤ suc (length xs)
    go true n h = omega arith
    go false n h = omega arith

-- the current interval is in debt exactly when its spare is below 0
pub in_debt_lem : (l : Layout) (t : ℕ) (ws sums : List ℕ) → length l.interval ≡ max_intervals → sums ≡ sums_by_home l.home ws
    → in_debt l t sums ≡ below0 (get_or (row_in l t ws) (past_in l t) (pos 0))
unfolding in_debt row_in past_in
in_debt_lem l t ws sums size e =
    let xs : List Interval = listed l in
    let i = past t xs in
    let hs = l.home in
    let within = past_within t xs in
    let few = length-take l.count l.interval in
    let rest = length-drop i xs in
    let jobs : debt_from t i (of_sums sums) (drop i xs) ≡ debt_from t i (of_jobs hs ws) (drop i xs) = debt_same t i max_intervals (of_sums sums) (of_jobs hs ws) (drop i xs) (omega arith) (λ k h. sum_at hs ws sums k e h) in
    let z : 0 + i ≡ i = omega arith in
    let all : List ℤ = spares_from t 0 hs ws xs in
    let now : ℤ = next_spare (spares_from t i hs ws (drop i xs)) in
    let here : get_or all i (pos 0) ≡ now = rw z at (spare_at t 0 i hs ws xs) in
    rw jobs (low_part now _ (debt_is t i hs ws (drop i xs)) ∙ ap below0 (sym (row_at all (max_intervals - length all) i ∙ here)))
