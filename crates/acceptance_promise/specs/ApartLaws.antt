-- The rows of a table are its longest ones; check 17 by slots: a job has at most m runs exactly when no m + 1 slots of its own are set apart.
use Prim.Native.Nat.{ℕ, zero, suc, ◌+◌, ◌-◌, ◌≤◌, ◌<◌}
use Rattle.std.proofs.Common.{arith, sym, ap, ◌∙◌, length-take-le}
use Rattle.std.specs.Prelude.{◌≡◌, refl, ◌↔◌, Bool, false, ◌&&◌, length, get_or, replicate, if◌then◌else◌}
use Rattle.std.proofs.Math.Bool.{true, not}
use mathlib.Core.List.{List, [], ◌∷◌, map, flat_map}
use borrow.Author.Tests.{eq-eqb, ne_eqb, eqb-true, lt-ltb, le-ltb, le-leb, leb-true, leb-false}
use Rattle.words.specs.Words.{◌≤?◌, ◌=?◌, ◌<?◌}
use Rattle.words.specs.Cases.{never, both_hold, by_test, by_less, by_equal}
use Rattle.answers.specs.Answer.{Answer, Chopped, accepted, ◌unless◌, ◌and_then◌, first_refusal}
use Rattle.answers.specs.RefusalLaws.{each_accepted, some_refused, unless_holds, unless_fails, both_accept}
use Rattle.plan.specs.declared.Job.{Job}
use Rattle.plan.specs.declared.Plan.{Plan}
use Rattle.plan.specs.Limits.{max_jobs}
use Rattle.plan.specs.Plan.{jobs_of, slots_of, blank_job}
use Rattle.windows.specs.Sums.{total}
use Rattle.windows.specs.SumLaws.{total_same, total_last, total_up}
use Rattle.well_formed.specs.InOrder.{Sized, JobOf}
use Rattle.well_formed.specs.Runs.{max_runs, Row, slot_before, rows_of, runs_of, runs_hold}
use Rattle.well_formed.specs.WellFormed.{check17, well_formed}
use Rattle.well_formed.specs.InOrderLaws.{job_limit, runs_passed}
use Rattle.window_sums.specs.WindowSums.{check8}
use Rattle.acceptance.specs.Acceptance.{check9, acceptance}
use Rattle.well_formed.specs.RunLaws.{bit, single, starts, runs_starts}
use Rattle.acceptance_promise.specs.Apart.{Apart}

-- a bit is 1 only where its test holds
bit_true : (b : Bool) → bit b ≡ 1 → b ≡ true
bit_true true e = refl
bit_true false e = absurd (omega arith)

-- ---- where a total of bits reaches c

-- the last place below n up to which the total is c, and where it grows
unfoldable place_of : (ℕ → ℕ) → ℕ → ℕ → ℕ
place_of f c zero = 0
place_of f c (suc n) =
    let earlier = place_of f c n in
    if c <? total n f then earlier else n

-- of numbers that are 1 at most: one of them is 1, with c of them before it
place_of_lem : (f : ℕ → ℕ) → ((j : ℕ) → f j ≤ 1) → (c n : ℕ) → c < total n f → (place_of f c n < n) × (f (place_of f c n) ≡ 1) × (total (place_of f c n) f ≡ c)
unfolding place_of total
place_of_lem f small c zero h = absurd (omega arith)
place_of_lem f small c (suc n) h =
    by_less c (total n f)
    (λ l. let r = place_of_lem f small c n l in rw (lt-ltb c (total n f) l) (omega (arith, r.0), r.1, r.2))
    (λ l.
    let e : total (suc n) f ≡ total n f + f n = total_last n f in
    let b = small n in
    rw (le-ltb c (total n f) l) (omega arith, omega arith, omega arith))

-- ---- first slots by their places

-- 1 where a run of job k begins at place j
unfoldable start_at : ℕ → Bool → List ℕ → ℕ → ℕ
start_at k was slots zero = bit ((get_or slots 0 0 =? k) && not was)
start_at k was slots (suc j) = bit ((get_or slots (suc j) 0 =? k) && not (get_or slots j 0 =? k))

-- the first slots are the total over the places
starts_total : (k : ℕ) (was : Bool) (slots : List ℕ) → starts k was slots ≡ total (length slots) (start_at k was slots)
unfolding starts start_at total
starts_total k was [] = refl
starts_total k was (s ∷ ss) =
    let e : total (length ss) (λ j. start_at k was (s ∷ ss) (suc j)) ≡ total (length ss) (start_at k (s =? k) ss) = total_same (length ss) (λ j. start_at k was (s ∷ ss) (suc j)) (start_at k (s =? k) ss) same in
    rw (e, starts_total k (s =? k) ss)
  where
    same : (j : ℕ) → j < length ss → start_at k was (s ∷ ss) (suc j) ≡ start_at k (s =? k) ss j
    same zero l = refl
    same (suc j) l = refl

module _ (k : ℕ) (slots : List ℕ) where
  -- where runs begin, and how many have begun before place j
  abbrev begins : ℕ → ℕ
  begins = start_at k false slots

  abbrev begun : ℕ → ℕ
  begun j = total j begins

  runs_begun : runs_of k slots ≡ begun (length slots)
  runs_begun = runs_starts k slots ∙ starts_total k false slots

  begins_one : (j : ℕ) → begins j ≤ 1
  unfolding start_at
  begins_one zero = single ((get_or slots 0 0 =? k) && true)
  begins_one (suc j) = single ((get_or slots (suc j) 0 =? k) && not (get_or slots j 0 =? k))

  -- where one begins the slot is k's,
  begins_own : (j : ℕ) → begins j ≡ 1 → get_or slots j 0 ≡ k
  unfolding start_at
  begins_own zero e = eqb-true (get_or slots 0 0) k (both_hold (get_or slots 0 0 =? k) true (bit_true _ e)).0
  begins_own (suc j) e = eqb-true (get_or slots (suc j) 0) k (both_hold (get_or slots (suc j) 0 =? k) (not (get_or slots j 0 =? k)) (bit_true _ e)).0

  -- and the slot before is not;
  begins_after : (j : ℕ) → begins (suc j) ≡ 1 → get_or slots j 0 ≡ k → ⊥
  unfolding start_at
  begins_after j e q = never (both_hold (get_or slots (suc j) 0 =? k) (not (get_or slots j 0 =? k)) (bit_true _ e)).1 (ap not (eq-eqb (get_or slots j 0) k q))

  -- and conversely, behind a slot that is not k's one begins
  begins_here : (j : ℕ) → get_or slots (suc j) 0 ≡ k → (get_or slots j 0 ≡ k → ⊥) → begins (suc j) ≡ 1
  unfolding start_at
  begins_here j e n = rw (eq-eqb (get_or slots (suc j) 0) k e, ne_eqb (get_or slots j 0) k n)

  -- a slot of k at j: a run has begun by then,
  begun_by : (j : ℕ) → get_or slots j 0 ≡ k → 1 ≤ begun (suc j)
  unfolding start_at
  begun_by zero e = omega (arith, total_last 0 begins, first)
    where
      first : begins 0 ≡ 1
      first = rw (eq-eqb (get_or slots 0 0) k e)
  begun_by (suc j) e =
      by_equal (get_or slots j 0) k
      (λ q. omega (arith, begun_by j q, total_up begins (suc j) (suc (suc j)) (omega arith)))
      (λ q. omega (arith, begins_here j e q, total_last (suc j) begins))

  -- and one more than by an earlier slot that is not k's
  begun_after : (b j : ℕ) → (get_or slots b 0 ≡ k → ⊥) → b < j → get_or slots j 0 ≡ k → begun (suc b) + 1 ≤ begun (suc j)
  begun_after b zero n l e = absurd (omega arith)
  begun_after b (suc j) n l e =
      by_equal (get_or slots j 0) k
      (λ q. by_less b j
      (λ m. omega (arith, begun_after b j n m q, total_up begins (suc j) (suc (suc j)) (omega arith)))
      (λ m. absurd (n (let f : b ≡ j = omega arith in rw f q))))
      (λ q. omega (arith, begins_here j e q, total_last (suc j) begins, total_up begins (suc b) (suc j) l))

  module _ (m : ℕ) where
    -- slots of k set apart lie in runs of their own
    apart_begun : (a : Apart k slots (suc m)) (c : ℕ) → c < suc m → suc c ≤ begun (suc (a.pick c))
    apart_begun a zero h = omega (arith, begun_by (a.pick 0) (a.own 0 h).1)
    apart_begun a (suc c) h =
        let b = a.cut c h in
        let r = apart_begun a c (omega arith) in
        let up = total_up begins (suc (a.pick c)) (suc b.0) (omega (arith, b.1)) in
        omega (arith, begun_after b.0 (a.pick (suc c)) b.3 b.2 (a.own (suc c) h).1)

    -- more than m runs: their first slots are set apart
    apart_of : m < runs_of k slots → Apart k slots (suc m)
    apart_of h =
        record {
          pick = pick;
          own = λ c l. (let r = at c l in (r.0, begins_own (pick c) r.1));
          cut = λ c l. between c l (pick (suc c) - 1) (omega (arith, rising c l));
        }
      where
        pick : ℕ → ℕ
        pick c = place_of begins c (length slots)

        at : (c : ℕ) → c < suc m → (pick c < length slots) × (begins (pick c) ≡ 1) × (begun (pick c) ≡ c)
        at c l = place_of_lem begins begins_one c (length slots) (omega (arith, runs_begun))

        rising : (c : ℕ) → suc c < suc m → pick c < pick (suc c)
        rising c l =
            by_less (pick c) (pick (suc c))
            (λ q. q)
            (λ q. absurd (omega (arith, (at c (omega arith)).2, (at (suc c) l).2, total_up begins (pick (suc c)) (pick c) q)))

        between : (c : ℕ) → suc c < suc m → (b : ℕ) → pick (suc c) ≡ suc b → (b : ℕ) × (pick c < b) × (b < pick (suc c)) × (get_or slots b 0 ≡ k → ⊥)
        between c l b e =
            let out = begins_after b (rw e at (at (suc c) l).1) in
            by_less (pick c) b
            (λ q. (b, q, omega arith, out))
            (λ q. absurd (out (let f : pick c ≡ b = omega (arith, rising c l) in rw f at (begins_own (pick c) (at c (omega arith)).1))))

    -- the runs of job k are at most m exactly when no m + 1 slots of k are set apart
    pub runs_at_most : (runs_of k slots ≤ m) ↔ (Apart k slots (suc m) → ⊥)
    runs_at_most = (
      λ h a. omega (arith, runs_begun, apart_begun a m (omega arith), total_up begins (suc (a.pick m)) (length slots) (a.own m (omega arith)).0),
      λ none. by_less m (runs_of k slots) (λ h. absurd (none (apart_of h))) (λ h. h),
    )

-- ---- the rows are the longest ones

-- they spell the table,
pub rows_spell : (slots : List ℕ) → flat_map (λ (x : Row). replicate x.long x.job) (rows_of slots) ≡ slots
unfolding rows_of flat_map
rows_spell [] = refl
rows_spell (s ∷ ss) = before (rows_of ss) ∙ ap (s ∷◌) (rows_spell ss)
  where
    before : (rows : List Row) → flat_map (λ (x : Row). replicate x.long x.job) (slot_before s rows) ≡ s ∷ flat_map (λ (x : Row). replicate x.long x.job) rows
    before [] = refl
    before (x ∷ xs) = by_equal x.job s (λ e. rw (eq-eqb x.job s e, e)) (λ e. rw (ne_eqb x.job s e))

-- and two that adjoin name different jobs
pub rows_differ : (slots : List ℕ) (i : ℕ) → suc i < length (rows_of slots) → get_or (map (λ (x : Row). x.job) (rows_of slots)) i 0 ≡ get_or (map (λ (x : Row). x.job) (rows_of slots)) (suc i) 0 → ⊥
unfolding rows_of
rows_differ [] i l e = omega arith
rows_differ (s ∷ ss) i l e = before (rows_of ss) (rows_differ ss) i l e
  where
    named : List Row → ℕ → ℕ
    named rows i = get_or (map (λ (x : Row). x.job) rows) i 0

    before : (rows : List Row) → ((i : ℕ) → suc i < length rows → named rows i ≡ named rows (suc i) → ⊥) → (i : ℕ) → suc i < length (slot_before s rows) → named (slot_before s rows) i ≡ named (slot_before s rows) (suc i) → ⊥
    before [] r i l e = omega arith
    before (x ∷ xs) r i l e =
        by_equal x.job s
        (λ q. joined q i (rw (eq-eqb x.job s q) at l) (rw (eq-eqb x.job s q) at e))
        (λ q. apart q i (rw (ne_eqb x.job s q) at l) (rw (ne_eqb x.job s q) at e))
      where
        grown : List Row
        grown = record { job = s; long = suc x.long } ∷ xs

        joined : x.job ≡ s → (i : ℕ) → suc i < length grown → named grown i ≡ named grown (suc i) → ⊥
        joined q zero l e = r 0 l (q ∙ e)
        joined q (suc i) l e = r (suc i) l e

        longer : List Row
        longer = record { job = s; long = 1 } ∷ x ∷ xs

        apart : (x.job ≡ s → ⊥) → (i : ℕ) → suc i < length longer → named longer i ≡ named longer (suc i) → ⊥
        apart q zero l e = q (sym e)
        apart q (suc i) l e = r i (omega arith) e

-- ---- check 17

-- check 17 passes exactly when no job has five slots of its own set apart
pub check17_apart : (p : Plan) → Sized p → p.jobs ≤ max_jobs → (accepted (check17 p) ≡ true) ↔ ((k : ℕ) → JobOf p k → Apart k (slots_of p) 5 → ⊥)
unfolding check17 runs_hold accepted
check17_apart p sized few = (passes, holds)
  where
    judge : ℕ → Job → Answer
    judge k j = Chopped k unless (runs_of k (slots_of p) ≤? max_runs)

    size : length (jobs_of p) ≡ p.jobs
    size = length-take-le p.jobs p.job (omega (arith, sized.0))

    passes : accepted (first_refusal judge 1 (jobs_of p)) ≡ true → (k : ℕ) → JobOf p k → Apart k (slots_of p) 5 → ⊥
    passes h k l a =
        let one = l.0 in
        let w = each_accepted judge blank_job 1 (jobs_of p) h (k - 1) (omega (arith, size, l.1)) k (omega arith) in
        (runs_at_most k (slots_of p) max_runs).0 (leb-true (runs_of k (slots_of p)) max_runs (unless_holds (Chopped k) (runs_of k (slots_of p) ≤? max_runs) refl w)) a

    holds : ((k : ℕ) → JobOf p k → Apart k (slots_of p) 5 → ⊥) → accepted (first_refusal judge 1 (jobs_of p)) ≡ true
    holds none = by_test (accepted (first_refusal judge 1 (jobs_of p))) (λ h. h) (λ h. absurd (fails (some_refused judge blank_job 1 (jobs_of p) h)))
      where
        fails : (i : ℕ) × (m : ℕ) × (i < length (jobs_of p)) × (m ≡ 1 + i) × (accepted (judge m (get_or (jobs_of p) i blank_job)) ≡ false) → ⊥
        fails w =
            let m = w.1 in
            let small = w.2 in
            let number = w.3 in
            let broken : (runs_of m (slots_of p) ≤? max_runs) ≡ false = unless_fails (Chopped m) (runs_of m (slots_of p) ≤? max_runs) w.4 in
            let fits : runs_of m (slots_of p) ≤ max_runs = (runs_at_most m (slots_of p) max_runs).1 (none m (omega arith, omega (arith, size))) in
            never (le-leb (runs_of m (slots_of p)) max_runs fits) broken

-- the first refusal along a list is its member's, and those before it are accepted
first_is : {A : Type 0} (judge : ℕ → A → Answer) (d : A) (k : ℕ) (xs : List A) → accepted (first_refusal judge k xs) ≡ false
    → (i : ℕ) × (i < length xs) × (first_refusal judge k xs ≡ judge (k + i) (get_or xs i d)) × ((m : ℕ) → m < i → accepted (judge (k + m) (get_or xs m d)) ≡ true)
unfolding first_refusal accepted
first_is judge d k [] h = absurd (never refl h)
first_is {A} judge d k (x ∷ xs) h = by_test (accepted (judge k x)) (λ e. later e (first_is judge d (suc k) xs (rw e at h))) here
  where
    number : (n : ℕ) → k + 0 ≡ k
    number n = omega arith

    next : (n : ℕ) → suc k + n ≡ k + suc n
    next n = omega arith

    here : accepted (judge k x) ≡ false
        → (i : ℕ) × (i < length (x ∷ xs)) × (first_refusal judge k (x ∷ xs) ≡ judge (k + i) (get_or (x ∷ xs) i d)) × ((m : ℕ) → m < i → accepted (judge (k + m) (get_or (x ∷ xs) m d)) ≡ true)
    here e = (0, omega arith, rw (e, number 0), λ m l. absurd (omega arith))

    Later : Type 0
    Later = (i : ℕ) × (i < length xs) × (first_refusal judge (suc k) xs ≡ judge (suc k + i) (get_or xs i d)) × ((m : ℕ) → m < i → accepted (judge (suc k + m) (get_or xs m d)) ≡ true)

    before : accepted (judge k x) ≡ true → (w : Later) (m : ℕ) → m < suc w.0 → accepted (judge (k + m) (get_or (x ∷ xs) m d)) ≡ true
    before e w zero l = rw (number 0) e
    before e w (suc m) l = rw (← next m) (w.3 m (omega arith))

    later : accepted (judge k x) ≡ true → Later
        → (i : ℕ) × (i < length (x ∷ xs)) × (first_refusal judge k (x ∷ xs) ≡ judge (k + i) (get_or (x ∷ xs) i d)) × ((m : ℕ) → m < i → accepted (judge (k + m) (get_or (x ∷ xs) m d)) ≡ true)
    later e w = (suc w.0, omega (arith, w.1), rw e (w.2 ∙ rw (next w.0)), before e w)

-- where 17 is given, its place is the first job with five such slots
pub check17_names : (p : Plan) → Sized p → p.jobs ≤ max_jobs → (k : ℕ) → check17 p ≡ Chopped k
    → JobOf p k × Apart k (slots_of p) 5 × ((j : ℕ) → 1 ≤ j → j < k → Apart j (slots_of p) 5 → ⊥)
unfolding check17 runs_hold accepted
check17_names p sized few k e = named (first_is judge blank_job 1 (jobs_of p) (rw e))
  where
    judge : ℕ → Job → Answer
    judge k j = Chopped k unless (runs_of k (slots_of p) ≤? max_runs)

    size : length (jobs_of p) ≡ p.jobs
    size = length-take-le p.jobs p.job (omega (arith, sized.0))

    named : (i : ℕ) × (i < length (jobs_of p)) × (first_refusal judge 1 (jobs_of p) ≡ judge (1 + i) (get_or (jobs_of p) i blank_job)) × ((m : ℕ) → m < i → accepted (judge (1 + m) (get_or (jobs_of p) m blank_job)) ≡ true)
        → JobOf p k × Apart k (slots_of p) 5 × ((j : ℕ) → 1 ≤ j → j < k → Apart j (slots_of p) 5 → ⊥)
    named w =
        let small = w.1 in
        let place = placed (runs_of (1 + w.0) (slots_of p) ≤? max_runs) refl (sym w.2 ∙ e) in
        let number : k ≡ 1 + w.0 = place.0 in (
          (omega arith, omega (arith, size)),
          rw number (apart_of (1 + w.0) (slots_of p) max_runs (leb-false (runs_of (1 + w.0) (slots_of p)) max_runs place.1)),
          λ j one l. below j one (w.3 (j - 1) (omega arith)),
        )
      where
        placed : (b : Bool) → (runs_of (1 + w.0) (slots_of p) ≤? max_runs) ≡ b → (Chopped (1 + w.0) unless b) ≡ Chopped k → (k ≡ 1 + w.0) × ((runs_of (1 + w.0) (slots_of p) ≤? max_runs) ≡ false)
        placed true q h = absurd (let z : ◌≡◌ {A = ℕ} 0 1 = cc in omega arith)
        placed false q h = (cc, q)

        below : (j : ℕ) → 1 ≤ j → accepted (judge (1 + (j - 1)) (get_or (jobs_of p) (j - 1) blank_job)) ≡ true → Apart j (slots_of p) 5 → ⊥
        below j one h a =
            let n : 1 + (j - 1) ≡ j = omega arith in
            let passes : accepted (judge j (get_or (jobs_of p) (j - 1) blank_job)) ≡ true = rw n at h in
            (runs_at_most j (slots_of p) max_runs).0 (leb-true (runs_of j (slots_of p)) max_runs (unless_holds (Chopped j) (runs_of j (slots_of p) ≤? max_runs) refl passes)) a

-- so no job of an accepted plan has five slots of its own set apart
pub accepted_unchopped : (p : Plan) → Sized p → accepted (acceptance p) ≡ true → (k : ℕ) → JobOf p k → Apart k (slots_of p) 5 → ⊥
unfolding acceptance
accepted_unchopped p sized h =
    let formed = (both_accept (well_formed p) (check8 p and_then check9 p) h).0 in
    (check17_apart p sized (job_limit p formed).1).0 (runs_passed p formed)
