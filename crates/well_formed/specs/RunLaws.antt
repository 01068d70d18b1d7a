-- Laws of runs: a run has one first slot, so one pass with the slot before counts the runs of every job.
use Rattle.std.specs.Prelude.{ℕ, suc, ◌+◌, ◌-◌, ◌≤◌, ◌<◌, ◌≡◌, refl, Bool, true, false, not, ◌&&◌, List, [], ◌∷◌, map, take, drop, get_or, set, if◌then◌else◌}
use Rattle.std.proofs.Common.{arith, sym, ◌∙◌, length-set, drop_of_length-le, get_or-set_same, get_or-set_other, length-take-le, eq-eqb, ne_eqb, eqb-true}
use Rattle.std.proofs.Math.ListN.{length}
use Rattle.std.proofs.lemmas.List.{get_or-replicate}
use Rattle.std.proofs.Math.Numerals.{add-one}
use Rattle.words.specs.Words.{◌=?◌, ◌<?◌}
use Rattle.words.specs.Cases.{by_test, by_less, by_equal}
use Rattle.words.specs.ListLaws.{taken_from}
use Rattle.plan.specs.Limits.{max_jobs, one_to}
use Rattle.plan.specs.Plan.{naming}
use Rattle.plan.specs.Counts.{max_count, counted_with}
use Rattle.plan.specs.CountLaws.{counted_none, counted_above, counted_full, counted_more}
use Rattle.well_formed.specs.Runs.{Row, slot_before, rows_of, runs_of}
use Rattle.well_formed.specs.RunWords.{no_runs, runs_with, runs_from}

-- 1 where a test holds
abbrev pub bit : Bool → ℕ
bit b = if b then 1 else 0

-- a bit is 1 at most
pub single : (b : Bool) → bit b ≤ 1
single true = omega arith
single false = omega arith

-- ---- a run has one first slot

-- the first slots of runs of job k; `was` says that the slot before these is k's
unfoldable pub starts : ℕ → Bool → List ℕ → ℕ
starts k was [] = 0
starts k was (s ∷ ss) = bit ((s =? k) && not was) + starts k (s =? k) ss

-- the first row of a table that has a slot is of that slot's job
rows_head : (s : ℕ) (ss : List ℕ) → (x : Row) × (xs : List Row) × (rows_of (s ∷ ss) ≡ x ∷ xs) × (x.job ≡ s)
unfolding rows_of
rows_head s ss = go (rows_of ss)
  where
    go : (rows : List Row) → (x : Row) × (xs : List Row) × (slot_before s rows ≡ x ∷ xs) × (x.job ≡ s)
    go [] = (record { job = s; long = 1 }, [], refl, refl)
    go (y ∷ ys) =
        by_test (y.job =? s)
        (λ e. (record { job = s; long = suc y.long }, ys, rw e, refl))
        (λ e. (record { job = s; long = 1 }, y ∷ ys, rw e, refl))

-- the rows of job k
abbrev rows_by : ℕ → List Row → ℕ
rows_by k rows = naming k (map (λ (x : Row). x.job) rows)

-- a slot s before rows that begin with one of u's: one row of k more where s is k's and u is not
slot_more : (k s u : ℕ) (x : Row) (xs : List Row) → x.job ≡ u → rows_by k (slot_before s (x ∷ xs)) ≡ bit ((s =? k) && not (u =? k)) + rows_by k (x ∷ xs)
unfolding naming
slot_more k s u x xs e =
    by_equal u s
    (λ q. rw (e, q, eq-eqb s s refl) (gone (s =? k)))
    (λ q. rw (e, ne_eqb u s q) (new (s =? k) (u =? k) (λ a b. q (eqb-true u k b ∙ sym (eqb-true s k a)))))
  where
    gone : (b : Bool) → bit b + rows_by k xs ≡ bit (b && not b) + (bit b + rows_by k xs)
    gone true = omega arith
    gone false = omega arith

    new : (b c : Bool) → (b ≡ true → c ≡ true → ⊥) → bit b + (bit c + rows_by k xs) ≡ bit (b && not c) + (bit c + rows_by k xs)
    new true true h = absurd (h refl refl)
    new true false h = refl
    new false true h = refl
    new false false h = refl

-- the runs of a table are its first slots
pub runs_starts : (k : ℕ) (slots : List ℕ) → runs_of k slots ≡ starts k false slots
unfolding runs_of rows_of starts naming
runs_starts k [] = refl
runs_starts k (s ∷ []) = go (s =? k)
  where
    go : (b : Bool) → bit b + 0 ≡ bit (b && true) + 0
    go true = refl
    go false = refl
runs_starts k (s ∷ u ∷ ss) =
    let h = rows_head u ss in
    let more : rows_by k (slot_before s (rows_of (u ∷ ss))) ≡ bit ((s =? k) && not (u =? k)) + rows_by k (rows_of (u ∷ ss)) = rw h.2 (slot_more k s u h.0 h.1 h.3) in
    let later : rows_by k (rows_of (u ∷ ss)) ≡ starts k false (u ∷ ss) = runs_starts k (u ∷ ss) in
    more ∙ rw later (turn (s =? k) (u =? k) (starts k (u =? k) ss))
  where
    turn : (b c : Bool) (n : ℕ) → bit (b && not c) + (bit (c && true) + n) ≡ bit (b && true) + (bit (c && not b) + n)
    turn true true n = omega arith
    turn true false n = omega arith
    turn false true n = omega arith
    turn false false n = omega arith

-- ---- the counts of all jobs in one pass

-- a slot of job s counted: its count is one larger, and no other
counted_at : (k s : ℕ) (counts : List ℕ) → 1 ≤ k → k ≤ max_jobs → length counts ≡ max_jobs → get_or counts (k - 1) 0 < max_count → get_or (counted_with counts s) (k - 1) 0 ≡ get_or counts (k - 1) 0 + bit (s =? k)
counted_at k s counts one few n room =
    by_equal s k
    (λ e. rw (e, eq-eqb k k refl, ← counted_more counts k one few room) (get_or-set_same counts (k - 1) _ 0 (omega arith)))
    (λ e. rw (ne_eqb s k e) (other e ∙ omega arith))
  where
    other : (s ≡ k → ⊥) → get_or (counted_with counts s) (k - 1) 0 ≡ get_or counts (k - 1) 0
    other e =
        by_less s 1
        (λ l. rw (← counted_none counts s l))
        (λ l. by_less max_jobs s
        (λ h. rw (← counted_above counts s h))
        (λ h. by_less (get_or counts (s - 1) 0) max_count
        (λ r. rw (← counted_more counts s l h r) (get_or-set_other counts (s - 1) (k - 1) _ 0 (λ q. e (omega arith))))
        (λ r. rw (← counted_full counts s l h r))))

-- the counts keep their number
counted_length : (counts : List ℕ) (s : ℕ) → length (counted_with counts s) ≡ length counts
unfolding counted_with
counted_length counts s = go (one_to max_jobs s && (get_or counts (s - 1) 0 <? max_count))
  where
    go : (b : Bool) → length (if b then set counts (s - 1) (get_or counts (s - 1) 0 + 1) else counts) ≡ length counts
    go true = length-set counts (s - 1) (get_or counts (s - 1) 0 + 1)
    go false = refl

with_length : (runs : List ℕ) (before s : ℕ) → length (runs_with runs before s) ≡ length runs
unfolding runs_with
with_length runs before s = by_test (s =? before) (λ h. rw h) (λ h. rw h (counted_length runs s))

-- the count of job k grows where a run of k begins
with_at : (k before s : ℕ) (runs : List ℕ) → 1 ≤ k → k ≤ max_jobs → length runs ≡ max_jobs → get_or runs (k - 1) 0 < max_count
    → get_or (runs_with runs before s) (k - 1) 0 ≡ get_or runs (k - 1) 0 + bit ((s =? k) && not (before =? k))
unfolding runs_with
with_at k before s runs one few n room =
    by_equal s before
    (λ e. rw (eq-eqb s before e, e) (none (before =? k)))
    (λ e. rw (ne_eqb s before e) (counted_at k s runs one few n room ∙ same (s =? k) (before =? k) (λ a b. e (eqb-true s k a ∙ sym (eqb-true before k b)))))
  where
    none : (b : Bool) → get_or runs (k - 1) 0 ≡ get_or runs (k - 1) 0 + bit (b && not b)
    none true = omega arith
    none false = omega arith

    same : (b c : Bool) → (b ≡ true → c ≡ true → ⊥) → get_or runs (k - 1) 0 + bit b ≡ get_or runs (k - 1) 0 + bit (b && not c)
    same true true h = absurd (h refl refl)
    same true false h = refl
    same false true h = refl
    same false false h = refl

-- over the slots each count grows by the first slots of its job's runs, none of them passing its type's largest number
from_at : (k before : ℕ) (runs slots : List ℕ) → 1 ≤ k → k ≤ max_jobs → length runs ≡ max_jobs → get_or runs (k - 1) 0 + length slots ≤ max_count
    → get_or (runs_from before runs slots) (k - 1) 0 ≡ get_or runs (k - 1) 0 + starts k (before =? k) slots
unfolding runs_from starts
from_at k before runs [] one few n room = omega arith
from_at k before runs (s ∷ ss) one few n room =
    let e = with_at k before s runs one few n (omega arith) in
    let b = single ((s =? k) && not (before =? k)) in
    let r = from_at k s (runs_with runs before s) ss one few (with_length runs before s ∙ n) (omega arith) in
    omega arith

-- the counts keep their number
pub runs_length : (before : ℕ) (runs slots : List ℕ) → length (runs_from before runs slots) ≡ length runs
unfolding runs_from
runs_length before runs [] = refl
runs_length before runs (s ∷ ss) = runs_length s (runs_with runs before s) ss ∙ with_length runs before s

-- one pass from counts of 0, no slot being before the first: the count of job k is its runs
pub runs_counted : (k : ℕ) (slots : List ℕ) → 1 ≤ k → k ≤ max_jobs → length slots ≤ max_count → get_or (runs_from 0 no_runs slots) (k - 1) 0 ≡ runs_of k slots
runs_counted k slots one few h =
    let z : get_or no_runs (k - 1) 0 ≡ 0 = get_or-replicate max_jobs (k - 1) 0 0 (omega arith) in
    let none : starts k (0 =? k) slots ≡ starts k false slots = rw (ne_eqb 0 k (λ e. omega arith)) in
    omega (arith, from_at k 0 no_runs slots one few refl (omega arith), runs_starts k slots)

-- ---- the pass by places, for a loop

module _ (slots : List ℕ) (n i before : ℕ) (runs : List ℕ) (le : n ≤ length slots) where
  -- the slot at i is counted: what is left to count is from the next on
  pub runs_on : i < n → runs_from (get_or slots i 0) (runs_with runs before (get_or slots i 0)) (drop (i + 1) (take n slots)) ≡ runs_from before runs (drop i (take n slots))
  unfolding runs_from
  runs_on h = rw (taken_from slots n i 0 le h, add-one i)

  -- no slot is left
  pub runs_end : n ≤ i → runs ≡ runs_from before runs (drop i (take n slots))
  unfolding runs_from
  runs_end h = let l : length (take n slots) ≤ i = rw (length-take-le n slots le) h in rw (drop_of_length-le (take n slots) l)
