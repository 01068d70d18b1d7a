-- Laws of the counts: one slot brings them to the next border, and none is above the border.
use Rattle.std.specs.Prelude.{ℕ, zero, suc, ◌+◌, ◌-◌, ◌≤◌, ◌<◌, Bool, true, false, ◌≡◌, refl, List, [], ◌∷◌, ◌++◌, map, length, take, set, replicate, if◌then◌else◌}
use Rattle.std.proofs.Common.{not-suc-le-zero, le_of_suc-le-suc, add-zero, add-suc, suc-add, add-one, arith, ap, sym, ◌∙◌, length-set, ext_get_or, get_or-set_same, get_or-set_other, take-suc, take_all}
use Rattle.std.proofs.Math.ListN.{get_or}
use Rattle.std.proofs.lemmas.List.{length-map}
use borrow.Author.Tests.{eq-eqb, ne_eqb, lt-ltb, le-ltb, le-leb, lt-leb}
use Rattle.words.specs.Words.{◌=?◌, count_up}
use Rattle.words.specs.Cases.{by_less, by_equal}
use Rattle.plan.specs.declared.Plan.{Plan}
use Rattle.plan.specs.Limits.{max_slots, max_jobs}
use Rattle.plan.specs.Plan.{naming, table_at, table_slots, counts_at}
use Rattle.plan.specs.Counts.{max_count, counted_with}

-- ---- one count

pub naming_append : (k : ℕ) (xs ys : List ℕ) → naming k (xs ++ ys) ≡ naming k xs + naming k ys
unfolding naming
naming_append k [] ys = omega arith
naming_append k (x ∷ xs) ys = omega (arith, naming_append k xs ys)

one_at_most : (b : Bool) → (if b then 1 else 0) ≤ 1
one_at_most true = omega arith
one_at_most false = omega arith

-- a job has at most t slots before border t
pub naming_take : (k t : ℕ) (xs : List ℕ) → naming k (take t xs) ≤ t
unfolding naming
naming_take k zero xs = omega arith
naming_take k (suc t) [] = omega arith
naming_take k (suc t) (x ∷ xs) = omega (arith, naming_take k t xs, one_at_most (x =? k))

-- one slot more
pub naming_next : (k t : ℕ) (xs : List ℕ) → t < length xs → naming k (take (t + 1) xs) ≡ naming k (take t xs) + (if get_or xs t 0 =? k then 1 else 0)
unfolding naming
naming_next k t xs h = rw (add-one t, take-suc xs t 0 h, naming_append k (take t xs) (get_or xs t 0 ∷ [])) (omega arith)

-- ---- the counts of all jobs

pub count_up_length : (k n : ℕ) → length (count_up k n) ≡ n
unfolding count_up
count_up_length k zero = refl
count_up_length k (suc n) = ap suc (count_up_length (suc k) n)

pub count_up_at : {A : Type 0} (f : ℕ → A) (d : A) (k n i : ℕ) → i < n → get_or (map f (count_up k n)) i d ≡ f (k + i)
unfolding count_up
count_up_at f d k zero i h = absurd (not-suc-le-zero h)
count_up_at f d k (suc n) zero h = ap f (sym (add-zero k))
count_up_at f d k (suc n) (suc i) h = count_up_at f d (suc k) n i (le_of_suc-le-suc h) ∙ ap f (suc-add k i ∙ sym (add-suc k i))

pub counts_length : (p : Plan) (t : ℕ) → length (counts_at p t) ≡ max_jobs
unfolding counts_at
counts_length p t = length-map (count_up 1 max_jobs) (table_slots p t) ∙ count_up_length 1 max_jobs

-- the count at place i is that of job i + 1
pub counts_at_lem : (p : Plan) (t i : ℕ) → i < max_jobs → get_or (counts_at p t) i 0 ≡ table_slots p t (1 + i)
unfolding counts_at
counts_at_lem p t i h = count_up_at (table_slots p t) 0 1 max_jobs i h

-- no count is above the border
pub counts_le : (p : Plan) (t i : ℕ) → i < max_jobs → get_or (counts_at p t) i 0 ≤ t
counts_le p t i h = rw (counts_at_lem p t i h) (naming_take (1 + i) t p.table)

-- ---- counted, by its ways out

pub counted_none : (counts : List ℕ) (k : ℕ) → k < 1 → counts ≡ counted_with counts k
unfolding counted_with
counted_none counts k h = rw (lt-leb 1 k h)

pub counted_above : (counts : List ℕ) (k : ℕ) → max_jobs < k → counts ≡ counted_with counts k
unfolding counted_with
counted_above counts k h = rw (le-leb 1 k (omega arith), lt-leb k max_jobs h)

pub counted_full : (counts : List ℕ) (k : ℕ) → 1 ≤ k → k ≤ max_jobs → max_count ≤ get_or counts (k - 1) 0 → counts ≡ counted_with counts k
unfolding counted_with
counted_full counts k one few h = rw (le-leb 1 k one, le-leb k max_jobs few, le-ltb (get_or counts (k - 1) 0) max_count h)

pub counted_more : (counts : List ℕ) (k : ℕ) → 1 ≤ k → k ≤ max_jobs → get_or counts (k - 1) 0 < max_count → set counts (k - 1) (get_or counts (k - 1) 0 + 1) ≡ counted_with counts k
unfolding counted_with
counted_more counts k one few h = rw (le-leb 1 k one, le-leb k max_jobs few, lt-ltb (get_or counts (k - 1) 0) max_count h)

-- ---- one slot of the table

-- a slot raises the count of the job that it names, and no other
pub counts_next_at : (p : Plan) (t i : ℕ) → t < length p.table → i < max_jobs
    → get_or (counts_at p (t + 1)) i 0 ≡ get_or (counts_at p t) i 0 + (if table_at p t =? 1 + i then 1 else 0)
counts_next_at p t i l h = rw (counts_at_lem p (t + 1) i h, counts_at_lem p t i h, naming_next (1 + i) t p.table l)

counts_next_none : (p : Plan) (t : ℕ) → t < length p.table → ((i : ℕ) → i < max_jobs → table_at p t ≡ 1 + i → ⊥) → counts_at p t ≡ counts_at p (t + 1)
counts_next_none p t l none =
    ext_get_or 0 _ _ (counts_length p t ∙ sym (counts_length p (t + 1)))
    (λ i h.
    let b : i < max_jobs = rw (counts_length p t) at h in
    rw (counts_next_at p t i l b, ne_eqb (table_at p t) (1 + i) (none i b)) (sym (add-zero _)))

counts_next_job : (p : Plan) (t k : ℕ) → t < length p.table → k < max_jobs → table_at p t ≡ 1 + k → set (counts_at p t) k (get_or (counts_at p t) k 0 + 1) ≡ counts_at p (t + 1)
counts_next_job p t k l few e =
    ext_get_or 0 _ _ (rw (length-set, counts_length p t, counts_length p (t + 1)))
    (λ i h.
    let b : i < max_jobs = rw (length-set, counts_length p t) at h in
    by_equal i k
    (λ q. rw (q, get_or-set_same (counts_at p t) k _ 0 (rw (counts_length p t) few), counts_next_at p t k l few, eq-eqb (table_at p t) (1 + k) e))
    (λ q.
    rw (get_or-set_other (counts_at p t) k i _ 0 q, counts_next_at p t i l b, ne_eqb (table_at p t) (1 + i) (λ z. q (omega arith)))
    (sym (add-zero _))))

-- the counts of border t and slot t give those of border t + 1
pub counts_step : (p : Plan) (t : ℕ) → t < length p.table → t < max_count → counted_with (counts_at p t) (table_at p t) ≡ counts_at p (t + 1)
counts_step p t l small =
    by_less (table_at p t) 1
    (λ none. sym (counted_none _ _ none) ∙ counts_next_none p t l (λ i h e. omega arith))
    (λ one.
    by_less max_jobs (table_at p t)
    (λ above. sym (counted_above _ _ above) ∙ counts_next_none p t l (λ i h e. omega arith))
    (λ few.
    let place : table_at p t - 1 < max_jobs = omega arith in
    sym (counted_more _ _ one few (omega (arith, counts_le p t (table_at p t - 1) place)))
    ∙ counts_next_job p t (table_at p t - 1) l place (omega arith)))

-- the same of counts that are those of border t
pub counts_on : (p : Plan) (t : ℕ) (counts : List ℕ) → counts ≡ counts_at p t → t < length p.table → t < max_count → counted_with counts (table_at p t) ≡ counts_at p (t + 1)
counts_on p t counts e l small = rw e (counts_step p t l small)

-- at border 0 no count is above 0
pub counts_start : (p : Plan) → replicate max_jobs 0 ≡ counts_at p 0
unfolding counts_at count_up naming
counts_start p = refl

-- past the table's end the counts stay
pub counts_end : (p : Plan) (t : ℕ) → length p.table ≡ max_slots → max_slots ≤ t → counts_at p max_slots ≡ counts_at p t
unfolding counts_at count_up
counts_end p t l h = rw (take_all max_slots p.table (omega arith), take_all t p.table (omega arith))
