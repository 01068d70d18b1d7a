-- A row worked out with a debt is the row of spares, and the sums by home are the work of the places. The words are in Debt;
-- that a layout's row is the plan's stands in LayoutLaws.
use Rattle.std.specs.Prelude.{ℕ, suc, ◌+◌, ◌-◌, ◌*◌, ◌≤◌, ◌<◌, ◌≡◌, refl, Bool, true, false, ℤ, pos, negsuc, set, length, replicate, if◌then◌else◌}
use Rattle.std.proofs.Common.{sym, ap, ◌∙◌, arith, add-one, le-leb, lt-ltb, le-ltb, eq-eqb, ne_eqb, drop_of_length-le, ext_get_or, get_or-set_same, get_or-set_other, drop-cons}
use mathlib.Core.List.{List, [], ◌∷◌}
use Rattle.std.proofs.lemmas.Bool.{lt-leb}
use Rattle.std.proofs.Math.IntN.{sub_ℕ}
use Rattle.std.proofs.Math.ListN.{get_or, length-set, drop, length-replicate}
use Rattle.std.proofs.lemmas.List.{length-map, get_or-replicate}
use Rattle.words.specs.Words.{◌≤?◌, ◌<?◌, ◌=?◌, count_up, filled}
use Rattle.words.specs.Cases.{by_less, by_equal}
use Rattle.words.specs.PartLaws.{drop_replicate, drop_set}
use Rattle.words.specs.Difference.{Is, is_pos, is_sub, is_add, is_as, is_one}
use Rattle.plan.specs.Limits.{max_jobs}
use Rattle.plan.specs.CountLaws.{count_up_length, count_up_at}
use Rattle.intervals.specs.declared.Interval.{Interval}
use Rattle.intervals.specs.Intervals.{max_intervals}
use Rattle.spares.specs.Spares.{at_most0, next_spare, spare}
use Rattle.intervals.specs.Layout.{blank_interval}
use Rattle.spares.specs.InLayout.{work_at, spares_from}
use Rattle.spares.specs.Debt.{max_work, room, asked, debt_from, of_jobs, sums_by_home, ByHome, with_work, SumsSoFar, RowSoFar}

-- ---- the sums of work by home

pub sums_size : (hs ws : List ℕ) → length (sums_by_home hs ws) ≡ max_intervals
unfolding sums_by_home
sums_size hs ws = length-map (count_up 0 max_intervals) (of_jobs hs ws) ∙ count_up_length 0 max_intervals

-- the sum of a place is the work at home there
pub sum_at : (hs ws sums : List ℕ) (i : ℕ) → sums ≡ sums_by_home hs ws → i < max_intervals → get_or sums i 0 ≡ work_at i hs ws
unfolding sums_by_home
sum_at hs ws sums i e h = let z : 0 + i ≡ i = omega arith in rw e (count_up_at (of_jobs hs ws) 0 0 max_intervals i h ∙ ap (of_jobs hs ws) z)

-- sums that are so at each place are those
pub sums_are : (hs ws sums : List ℕ) → length sums ≡ max_intervals → ((i : ℕ) → i < max_intervals → get_or sums i 0 ≡ work_at i hs ws) → sums ≡ sums_by_home hs ws
sums_are hs ws sums size at =
    ext_get_or 0 sums (sums_by_home hs ws) (size ∙ sym (sums_size hs ws))
    (λ i h. let l : i < max_intervals = rw size at h in at i l ∙ sym (sum_at hs ws (sums_by_home hs ws) i refl l))

pub sums_start : (hs ws : List ℕ) → SumsSoFar hs ws (replicate max_intervals 0) 0
sums_start hs ws = record {
  size = refl;
  within = omega arith;
  whole = λ i l. rw (get_or-replicate {A = ℕ} max_intervals i 0 0 l) (omega arith);
  small = λ i l. rw (get_or-replicate {A = ℕ} max_intervals i 0 0 l) (omega arith);
}

pub work_counted : (sums : List ℕ) (home work : ℕ) {n : ℕ} → home < max_intervals → n ≡ work → set sums home (get_or sums home 0 + n) ≡ with_work sums home work
unfolding with_work
work_counted sums home work h e = rw (lt-ltb home max_intervals h, e)

pub work_nowhere : (sums : List ℕ) (home work : ℕ) → max_intervals ≤ home → sums ≡ with_work sums home work
unfolding with_work
work_nowhere sums home work h = rw (le-ltb home max_intervals h)

-- the sum of place i with one more job
with_work_at : (sums : List ℕ) (home work i : ℕ) → length sums ≡ max_intervals → i < max_intervals → get_or (with_work sums home work) i 0 ≡ get_or sums i 0 + (if home =? i then work else 0)
unfolding with_work
with_work_at sums home work i size l =
    let sum = get_or sums home 0 + work in
    by_equal home i
    (λ q. rw (lt-ltb home max_intervals (omega arith), eq-eqb home i q, ← q, get_or-set_same sums home sum 0 (omega arith)))
    (λ q. by_less home max_intervals
    (λ p. rw (lt-ltb home max_intervals p, ne_eqb home i q, get_or-set_other sums home i sum 0 (λ e. q (sym e))) (omega arith))
    (λ p. rw (le-ltb home max_intervals p, ne_eqb home i q) (omega arith)))

length_with : (sums : List ℕ) (home work : ℕ) → length sums ≡ max_intervals → length (with_work sums home work) ≡ max_intervals
unfolding with_work
length_with sums home work size = go (home <? max_intervals)
  where
    go : (b : Bool) → length (if b then set sums home (get_or sums home 0 + work) else sums) ≡ max_intervals
    go true = length-set sums home (get_or sums home 0 + work) ∙ size
    go false = size

at_most : (b : Bool) (n bound : ℕ) → n ≤ bound → (if b then n else 0) ≤ bound
at_most true n bound h = h
at_most false n bound h = omega arith

pub sums_more : (hs ws sums next : List ℕ) (k : ℕ) → SumsSoFar hs ws sums k → k < max_jobs → length hs ≡ max_jobs → length ws ≡ max_jobs → get_or ws k 0 ≤ max_work
    → next ≡ with_work sums (get_or hs k 0) (get_or ws k 0) → SumsSoFar hs ws next (k + 1)
unfolding work_at
sums_more hs ws sums next k s l lh lw small e = rw e (record {
  size = length_with sums (get_or hs k 0) (get_or ws k 0) s.size;
  within = omega arith;
  whole = λ i h. rw (with_work_at sums (get_or hs k 0) (get_or ws k 0) i s.size h) (let w = s.whole i h in let d = split i in omega arith);
  small = λ i h. rw (with_work_at sums (get_or hs k 0) (get_or ws k 0) i s.size h) (let w = s.small i h in let b = at_most (get_or hs k 0 =? i) (get_or ws k 0) max_work (omega arith) in omega arith);
})
  where
    split : (i : ℕ) → work_at i (drop k hs) (drop k ws) ≡ (if get_or hs k 0 =? i then get_or ws k 0 else 0) + work_at i (drop (k + 1) hs) (drop (k + 1) ws)
    split i = rw (drop-cons hs k 0 (omega arith), drop-cons ws k 0 (omega arith), add-one k)

pub sums_end : (hs ws sums : List ℕ) (k : ℕ) → SumsSoFar hs ws sums k → max_jobs ≤ k → length hs ≡ max_jobs → sums ≡ sums_by_home hs ws
unfolding work_at
sums_end hs ws sums k s l lh =
    let e : k ≡ max_jobs = omega (arith, s.within) in
    let d : drop k hs ≡ [] = drop_of_length-le hs {i = k} (omega arith) in
    let w : (i : ℕ) → i < max_intervals → get_or sums i 0 + work_at i [] (drop k ws) ≡ work_at i hs ws = rw d at s.whole in
    sums_are hs ws sums s.size (λ i h. omega (arith, w i h))

-- no place has more than all jobs' most
work_most : (i : ℕ) (hs ws : List ℕ) → ((k : ℕ) → k < length ws → get_or ws k 0 ≤ max_work) → work_at i hs ws ≤ length ws * max_work
unfolding work_at
work_most i [] ws small = omega arith
work_most i (h ∷ hs) [] small = omega arith
work_most i (h ∷ hs) (w ∷ ws) small =
    omega (arith, at_most (h =? i) w max_work (small 0 (omega arith)), work_most i hs ws (λ k l. small (suc k) (omega arith)))

pub by_home : (hs ws sums : List ℕ) → sums ≡ sums_by_home hs ws → length ws ≡ max_jobs → ((k : ℕ) → k < max_jobs → get_or ws k 0 ≤ max_work) → ByHome hs ws sums
by_home hs ws sums e n small = (e, λ i h. rw (sum_at hs ws sums i e h) (omega (arith, work_most i hs ws (λ k l. small k (omega arith)))))

-- ---- a spare by room and debt

pub asked_most : (t : ℕ) (x : Interval) (work debt : ℕ) → asked t x work debt ≤ work + debt
unfolding asked
asked_most t x work debt = go (x.end ≤? t)
  where
    go : (b : Bool) → (if b then 0 else (work + debt)) ≤ work + debt
    go true = omega arith
    go false = omega arith

-- min (p - m, 0) is -(m - p)
lowered : {z : ℤ} {p m : ℕ} → Is z p m → Is (at_most0 z) 0 (m - p)
lowered {z = pos n} h = omega arith
lowered {z = negsuc n} h = omega arith

-- a spare is one difference of naturals
spare_is : (t : ℕ) (x : Interval) (work debt : ℕ) (next : ℤ) → Is (at_most0 next) 0 debt → Is (spare t x work next) (room t x) (asked t x work debt)
unfolding spare asked
spare_is t x work debt next h =
    by_less t x.end
    (λ l. rw (lt-leb x.end t l) (is_as (is_add (is_sub (room t x) work) h) (omega arith)))
    (λ l. rw (le-leb x.end t l) (is_as (is_pos 0) (omega arith)))

-- the debt is what the smaller of (next spare, 0) takes away
pub debt_is : (t i : ℕ) (hs ws : List ℕ) (xs : List Interval) → Is (at_most0 (next_spare (spares_from t i hs ws xs))) 0 (debt_from t i (of_jobs hs ws) xs)
unfolding spares_from debt_from
debt_is t i hs ws [] = omega arith
debt_is t i hs ws (x ∷ xs) = lowered (spare_is t x (work_at i hs ws) (debt_from t (suc i) (of_jobs hs ws) xs) (next_spare (spares_from t (suc i) hs ws xs)) (debt_is t (suc i) hs ws xs))

-- so a row is the spare of its first interval, made of room and what is asked, and the row of the others
pub spares_step : (t i : ℕ) (hs ws : List ℕ) (x : Interval) (xs : List Interval)
    → spares_from t i hs ws (x ∷ xs) ≡ sub_ℕ (room t x) (asked t x (work_at i hs ws) (debt_from t (suc i) (of_jobs hs ws) xs)) ∷ spares_from t (suc i) hs ws xs
unfolding spares_from
spares_step t i hs ws x xs =
    let d = debt_from t (suc i) (of_jobs hs ws) xs in
    let later : List ℤ = spares_from t (suc i) hs ws xs in
    ap (λ (z : ℤ). z ∷ later) (is_one (spare_is t x (work_at i hs ws) d (next_spare later) (debt_is t (suc i) hs ws xs)) (is_sub (room t x) (asked t x (work_at i hs ws) d)) (omega arith))

-- ---- the row, last interval first

length_spares : (t i : ℕ) (hs ws : List ℕ) (xs : List Interval) → length (spares_from t i hs ws xs) ≡ length xs
unfolding spares_from
length_spares t i hs ws [] = refl
length_spares t i hs ws (x ∷ xs) = ap suc (length_spares t (suc i) hs ws xs)

module _ (t : ℕ) (hs ws : List ℕ) (xs : List Interval) (few : length xs ≤ max_intervals) where
  pub row_start : RowSoFar t hs ws xs (replicate max_intervals (pos 0)) 0 (length xs)
  unfolding spares_from debt_from
  row_start =
      let d : drop (length xs) xs ≡ [] = drop_of_length-le xs {i = length xs} (omega arith) in
      record {
        size = length-replicate max_intervals (pos 0);
        within = omega arith;
        owed = rw d;
        small = omega arith;
        made = rw d (drop_replicate (length xs) max_intervals (pos 0));
      }

  -- one interval more, the one at place j
  pub row_more : (sums : List ℕ) (row : List ℤ) (debt j free ask debt' : ℕ) (z : ℤ) → RowSoFar t hs ws xs row debt (suc j) → ByHome hs ws sums
      → free ≡ room t (get_or xs j blank_interval) → ask ≡ asked t (get_or xs j blank_interval) (get_or sums j 0) debt → z ≡ sub_ℕ free ask → debt' ≡ ask - free
      → RowSoFar t hs ws xs (set row j z) debt' j
  unfolding debt_from
  row_more sums row debt j free ask debt' z s b f a e q =
      let here : drop j xs ≡ get_or xs j blank_interval ∷ drop (suc j) xs = drop-cons xs j blank_interval (omega (arith, s.within)) in
      let work : get_or sums j 0 ≡ work_at j hs ws = sum_at hs ws sums j b.0 (omega (arith, s.within)) in
      let asks : ask ≡ asked t (get_or xs j blank_interval) (work_at j hs ws) (debt_from t (suc j) (of_jobs hs ws) (drop (suc j) xs)) = rw (a, work, s.owed) in
      record {
        size = length-set row j z ∙ s.size;
        within = omega (arith, s.within);
        owed = rw (q, here, f, asks);
        small = omega (arith, asked_most t (get_or xs j blank_interval) (get_or sums j 0) debt, b.1 j (omega (arith, s.within)), s.small, s.within, a, q);
        made = rw (drop_set row j z (pos 0) (omega (arith, s.within, s.size)), s.made, here, spares_step, ← asks, ← f, ← e);
      }

  -- the same at the code's i - 1
  pub row_turn : (sums : List ℕ) (row : List ℤ) (debt i free ask debt' : ℕ) (z : ℤ) → RowSoFar t hs ws xs row debt i → 0 < i → ByHome hs ws sums
      → free ≡ room t (get_or xs (i - 1) blank_interval) → ask ≡ asked t (get_or xs (i - 1) blank_interval) (get_or sums (i - 1) 0) debt → z ≡ sub_ℕ free ask → debt' ≡ ask - free
      → RowSoFar t hs ws xs (set row (i - 1) z) debt' (i - 1)
  row_turn sums row debt i free ask debt' z s p =
      let e : i ≡ suc (i - 1) = omega arith in
      row_more sums row debt (i - 1) free ask debt' z (rw (← e) s)

  pub row_end : (row : List ℤ) (debt i : ℕ) → RowSoFar t hs ws xs row debt i → i ≡ 0 → row ≡ filled max_intervals (pos 0) (spares_from t 0 hs ws xs)
  row_end row debt i s z =
      let first : RowSoFar t hs ws xs row debt 0 = rw z at s in
      rw (length_spares t 0 hs ws xs) first.made
