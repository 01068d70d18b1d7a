-- Laws of a plan's intervals, its windows holding: they cover 0 to N, every deadline is an end, none lies inside an interval,
-- they are at most max_intervals, and at border t < N the current one holds slot t. How deadlines rise is in DeadlineLaws.
use Rattle.std.specs.Prelude.{ℕ, zero, suc, ◌+◌, ◌*◌, ◌≤◌, ◌<◌, max, min, ◌≡◌, refl, ◌⊎◌, Bool, true, false, length, drop, take_while, cond, if◌then◌else◌}
use Rattle.std.proofs.lemmas.List.Sums.{take_while-cons}
use Rattle.std.proofs.Common.{ap, inl, inr, ⊎_elim, not-suc-le-zero, le_of_suc-le-suc, arith, length-append, lt-ltb, le-ltb, le-leb, eq-eqb, ne_eqb}
use mathlib.Core.List.Memᴰ
use mathlib.Core.List.{List, [], ◌∷◌, ◌++◌, Memᴰ}
use Rattle.std.proofs.lemmas.Bool.{lt-leb}
use Rattle.words.specs.Words.{◌≤?◌, ◌<?◌, ◌=?◌}
use Rattle.words.specs.Cases.{by_less, by_equal}
use Rattle.plan.specs.declared.Job.{Job}
use Rattle.plan.specs.declared.Plan.{Plan}
use Rattle.plan.specs.Plan.{jobs_of}
use Rattle.plan.specs.Rules.{windows_hold}
use Rattle.intervals.specs.declared.Interval.{Interval}
use Rattle.intervals.specs.Intervals.{max_intervals, insert, rising, least_release, gap, intervals_from, deadlines, intervals, past}
use Rattle.intervals.specs.Covers.{Covers, ends, interval_at, Holding}
use Rattle.intervals.specs.Deadlines.{rising_deadlines, Windowed, Rises}
use Rattle.intervals.specs.DeadlineLaws.{within_limits, deadlines_rise, few_deadlines}

-- ---- they cover

-- each number has a job due then, so the least release is below it
abbrev Started : List Job → List ℕ → Type 0
Started js [] = Unit
Started js (e ∷ es) = (least_release e js < e) × Started js es

insert_started : (js : List Job) (e : ℕ) (es : List ℕ) → least_release e js < e → Started js es → Started js (insert e es)
unfolding insert
insert_started js e [] h s = (h, s)
insert_started js e (y ∷ es) h s =
    by_less e y
    (λ p. rw (lt-ltb e y p) (h, s))
    (λ p. by_equal e y
    (λ q. rw (le-ltb e y p, eq-eqb e y q) s)
    (λ q. rw (le-ltb e y p, ne_eqb e y q) (s.0, insert_started js e es h s.1)))

least_of_job : (j : Job) (js : List Job) → Memᴰ j js → least_release j.deadline js ≤ j.release
unfolding least_release
least_of_job j [] m = absurd (Memᴰ.not-nil m)
least_of_job j (k ∷ js) m = go (Memᴰ.cases_cons m) (least_of_job j js)
  where
    go : (j ≡ k) ⊎ Memᴰ j js → (Memᴰ j js → least_release j.deadline js ≤ j.release)
        → (if k.deadline =? j.deadline then min k.release (least_release j.deadline js) else least_release j.deadline js) ≤ j.release
    go (inl e) later = rw (← e, eq-eqb j.deadline j.deadline refl) (omega arith)
    go (inr n) later =
        by_equal k.deadline j.deadline
        (λ q. rw (eq-eqb k.deadline j.deadline q) (omega (arith, later n)))
        (λ q. rw (ne_eqb k.deadline j.deadline q) (later n))

deadlines_started : (N : ℕ) (all js : List Job) → ((j : Job) → Memᴰ j js → Memᴰ j all) → Windowed N js → Started all (rising_deadlines js)
unfolding rising
deadlines_started N all [] sub w = tt
deadlines_started N all (j ∷ js) sub w =
    insert_started all j.deadline (rising_deadlines js)
    (omega (arith, least_of_job j all (sub j (Memᴰ.head refl)), w.0))
    (deadlines_started N all js (λ k m. sub k (Memᴰ.tail m)) w.2)

-- so a deadline has a window that ends there
pub among_due : (N : ℕ) (js : List Job) → Windowed N js → (e : ℕ) → Memᴰ e (rising_deadlines js) → least_release e js < e
among_due N js w e m = started_at js (rising_deadlines js) e (deadlines_started N js js (λ j n. n) w) m
  where
    started_at : (js : List Job) (es : List ℕ) (e : ℕ) → Started js es → Memᴰ e es → least_release e js < e
    started_at js [] e s m = absurd (Memᴰ.not-nil m)
    started_at js (y ∷ es) e s m = ⊎_elim (λ q. rw q s.0) (λ n. started_at js es e s.1 n) (Memᴰ.cases_cons m)

gap_covers : (a b : ℕ) (xs : List Interval) (c : ℕ) → a ≤ b → Covers b xs c → Covers a (gap a b ++ xs) c
gap_covers a b xs c h rest =
    by_less a b
    (λ l. rw (lt-ltb a b l) (refl, l, rest))
    (λ l. let e : a ≡ b = omega arith in rw (le-ltb a b l, e) rest)

covers_from : (js : List Job) (N prev : ℕ) (es : List ℕ) → Rises prev es N → Started js es → Covers prev (intervals_from js N prev es) N
unfolding intervals_from
covers_from js N prev [] r s =
    by_less prev N
    (λ l. rw (lt-ltb prev N l) (refl, l, refl))
    (λ l. rw (le-ltb prev N l) (omega arith))
covers_from js N prev (e ∷ es) r s =
    let start = max prev (least_release e js) in
    gap_covers prev start _ N (omega arith) (refl, omega (arith, r.0, s.0), covers_from js N e es r.1 s.1)

-- ---- at most max_intervals

length_gap : (a b : ℕ) → length (gap a b) ≤ 1
length_gap a b = go (a <? b)
  where
    go : (t : Bool) → length {A = Interval} (if t then record { start = a; end = b } ∷ [] else []) ≤ 1
    go true = omega arith
    go false = omega arith

pub length_from : (js : List Job) (N prev : ℕ) (es : List ℕ) → length (intervals_from js N prev es) ≤ 2 * length es + 1
unfolding intervals_from
length_from js N prev [] = omega (arith, length_gap prev N)
length_from js N prev (e ∷ es) =
    let start = max prev (least_release e js) in
    omega (
      arith,
      length-append (gap prev start) (record { start = start; end = e } ∷ intervals_from js N e es),
      length_gap prev start,
      length_from js N e es,
    )

-- ---- every deadline is an end

insert_here : (x : ℕ) (ys : List ℕ) → Memᴰ x (insert x ys)
unfolding insert
insert_here x [] = Memᴰ.head refl
insert_here x (y ∷ ys) =
    by_less x y
    (λ p. rw (lt-ltb x y p) (Memᴰ.head refl))
    (λ p. by_equal x y
    (λ q. rw (le-ltb x y p, eq-eqb x y q) (Memᴰ.head q))
    (λ q. rw (le-ltb x y p, ne_eqb x y q) (Memᴰ.tail (insert_here x ys))))

insert_kept : (z x : ℕ) (ys : List ℕ) → Memᴰ z ys → Memᴰ z (insert x ys)
unfolding insert
insert_kept z x [] m = absurd (Memᴰ.not-nil m)
insert_kept z x (y ∷ ys) m =
    by_less x y
    (λ p. rw (lt-ltb x y p) (Memᴰ.tail m))
    (λ p. by_equal x y
    (λ q. rw (le-ltb x y p, eq-eqb x y q) m)
    (λ q. rw (le-ltb x y p, ne_eqb x y q)
    (⊎_elim (λ e. Memᴰ.head e) (λ n. Memᴰ.tail (insert_kept z x ys n)) (Memᴰ.cases_cons m))))

deadline_among : (j : Job) (js : List Job) → Memᴰ j js → Memᴰ j.deadline (rising_deadlines js)
unfolding rising
deadline_among j [] m = absurd (Memᴰ.not-nil m)
deadline_among j (k ∷ js) m =
    let later = rising_deadlines js in
    ⊎_elim
    (λ e. rw e (insert_here k.deadline later))
    (λ n. insert_kept j.deadline k.deadline later (deadline_among j js n))
    (Memᴰ.cases_cons m)

-- where a window ends there is a deadline
pub due_among : (e : ℕ) (js : List Job) → least_release e js < e → Memᴰ e (rising_deadlines js)
unfolding rising least_release
due_among e [] h = absurd (omega arith)
due_among e (j ∷ js) h =
    by_equal j.deadline e
    (λ q. rw (← q) (insert_here j.deadline (rising_deadlines js)))
    (λ q. insert_kept e j.deadline (rising_deadlines js) (due_among e js (rw (ne_eqb j.deadline e q) at h)))

ends_gap : (e a b : ℕ) (xs : List Interval) → Memᴰ e (ends xs) → Memᴰ e (ends (gap a b ++ xs))
ends_gap e a b xs m =
    by_less a b
    (λ l. rw (lt-ltb a b l) (Memᴰ.tail m))
    (λ l. rw (le-ltb a b l) m)

ends_from : (js : List Job) (N prev e : ℕ) (es : List ℕ) → Memᴰ e es → Memᴰ e (ends (intervals_from js N prev es))
unfolding intervals_from
ends_from js N prev e [] m = absurd (Memᴰ.not-nil m)
ends_from js N prev e (y ∷ es) m =
    let start = max prev (least_release y js) in
    ends_gap e prev start (record { start = start; end = y } ∷ intervals_from js N y es)
    (⊎_elim (λ q. Memᴰ.head q) (λ n. Memᴰ.tail (ends_from js N y e es n)) (Memᴰ.cases_cons m))

-- ---- of any intervals that cover a to b

-- every end is above a
pub end_over : (a : ℕ) (xs : List Interval) (b e : ℕ) → Covers a xs b → Memᴰ e (ends xs) → a < e
end_over a [] b e c m = absurd (Memᴰ.not-nil m)
end_over a (x ∷ xs) b e c m =
    ⊎_elim (λ q. omega (arith, q, c.1)) (λ n. omega (arith, c.1, end_over x.end xs b e c.2 n)) (Memᴰ.cases_cons m)

-- so is the i-th end, and its start is at least a
pub start_end_at : (a : ℕ) (xs : List Interval) (b i : ℕ) → Covers a xs b → i < length xs → (a ≤ (interval_at xs i).start) × ((interval_at xs i).start < (interval_at xs i).end)
start_end_at a [] b i c h = absurd (not-suc-le-zero h)
start_end_at a (x ∷ xs) b zero c h = (omega (arith, c.0), omega (arith, c.0, c.1))
start_end_at a (x ∷ xs) b (suc i) c h =
    let later = start_end_at x.end xs b i c.2 (le_of_suc-le-suc h) in
    (omega (arith, later.0, c.1), later.1)

-- the ends rise
pub ends_rise : (a : ℕ) (xs : List Interval) (b : ℕ) → Covers a xs b → Rises a (ends xs) b
ends_rise a [] b c = omega arith
ends_rise a (x ∷ xs) b c = (c.1, ends_rise x.end xs b c.2)

-- no end lies inside an interval
pub none_inside : (a : ℕ) (xs : List Interval) (b e i : ℕ) → Covers a xs b → Memᴰ e (ends xs) → i < length xs → (interval_at xs i).start < e → (interval_at xs i).end ≤ e
none_inside a [] b e i c m h l = absurd (not-suc-le-zero h)
none_inside a (x ∷ xs) b e zero c m h l =
    ⊎_elim (λ q. omega (arith, q)) (λ n. omega (arith, end_over x.end xs b e c.2 n)) (Memᴰ.cases_cons m)
none_inside a (x ∷ xs) b e (suc i) c m h l =
    ⊎_elim
    (λ q. absurd (omega (arith, q, (start_end_at x.end xs b i c.2 (le_of_suc-le-suc h)).0)))
    (λ n. none_inside x.end xs b e i c.2 n (le_of_suc-le-suc h) l)
    (Memᴰ.cases_cons m)

-- an interval that has ended is past, and the count goes on behind it
pub past_more : (t : ℕ) (x : Interval) (xs : List Interval) → x.end ≤ t → past t (x ∷ xs) ≡ suc (past t xs)
unfolding past
past_more t x xs h = rw (le-leb x.end t h)

-- one that has not ends the count
-- those past are the first ones that have ended
pub past_first : (t : ℕ) (xs : List Interval) → length (take_while (λ (x : Interval). x.end ≤? t) xs) ≡ past t xs
unfolding past
past_first t [] = refl
past_first t (x ∷ xs) = rw (take_while-cons (λ (x : Interval). x.end ≤? t) x xs) (go (x.end ≤? t) (past_first t xs))
  where
    ended : List Interval
    ended = take_while (λ (x : Interval). x.end ≤? t) xs

    go : (b : Bool) → length ended ≡ past t xs → length (cond b (x ∷ ended) []) ≡ (if b then suc (past t xs) else 0)
    go true h = ap suc h
    go false h = refl

pub past_stop : (t : ℕ) (x : Interval) (xs : List Interval) → t < x.end → past t (x ∷ xs) ≡ 0
unfolding past
past_stop t x xs h = rw (lt-leb x.end t h)

pub holding : (t a : ℕ) (xs : List Interval) (b : ℕ) → Covers a xs b → a ≤ t → t < b → Holding t xs b
holding t a [] b c l h = absurd (omega arith)
holding t a (x ∷ xs) b c l h =
    by_less t x.end
    (λ p.
    let z = past_stop t x xs p in
    record { now = x; later = xs; from = rw z; within = rw z (omega arith); at = rw z; begun = omega (arith, c.0); still = p; covers = c.2 })
    (λ p.
    let r = holding t x.end xs b c.2 p h in
    let z = past_more t x xs p in
    record {
      now = r.now;
      later = r.later;
      from = rw z r.from;
      within = rw z (omega (arith, r.within));
      at = rw z r.at;
      begun = r.begun;
      still = r.still;
      covers = r.covers;
    })

-- an end above t is that of the current interval or of a later one
pub ends_later : (t e : ℕ) (xs : List Interval) → Memᴰ e (ends xs) → t < e → Memᴰ e (ends (drop (past t xs) xs))
unfolding past
ends_later t e [] m h = m
ends_later t e (x ∷ xs) m h =
    by_less t x.end
    (λ p. rw (lt-leb x.end t p) m)
    (λ p. rw (le-leb x.end t p) (⊎_elim (λ q. absurd (omega (arith, q))) (λ n. ends_later t e xs n h) (Memᴰ.cases_cons m)))

-- ---- of a plan whose windows hold

pub intervals_are : (p : Plan) → windows_hold p ≡ true → intervals_from (jobs_of p) p.slots 0 (deadlines p) ≡ intervals p
unfolding intervals
intervals_are p h = rw h

pub no_intervals : (p : Plan) → windows_hold p ≡ false → intervals p ≡ []
unfolding intervals
no_intervals p h = rw h

module _ (p : Plan) (h : windows_hold p ≡ true) where
  pub intervals_cover : Covers 0 (intervals p) p.slots
  intervals_cover =
      let w = (within_limits p h).windows in
      rw (← intervals_are p h)
      (covers_from (jobs_of p) p.slots 0 (deadlines p) (deadlines_rise p.slots (jobs_of p) w) (deadlines_started p.slots (jobs_of p) (jobs_of p) (λ j m. m) w))

  pub few_intervals : length (intervals p) ≤ max_intervals
  few_intervals =
      rw (← intervals_are p h)
      (omega (arith, length_from (jobs_of p) p.slots 0 (deadlines p), few_deadlines p, (within_limits p h).few_jobs))

  pub deadline_is_end : (j : Job) → Memᴰ j (jobs_of p) → Memᴰ j.deadline (ends (intervals p))
  deadline_is_end j m = rw (← intervals_are p h) (ends_from (jobs_of p) p.slots 0 j.deadline (deadlines p) (deadline_among j (jobs_of p) m))

  pub no_deadline_inside : (j : Job) (i : ℕ) → Memᴰ j (jobs_of p) → i < length (intervals p) → (interval_at (intervals p) i).start < j.deadline
      → (interval_at (intervals p) i).end ≤ j.deadline
  no_deadline_inside j i m l s = none_inside 0 (intervals p) p.slots j.deadline i intervals_cover (deadline_is_end j m) l s

  -- the current interval holds slot t
  pub current_interval : (t : ℕ) → t < p.slots → Holding t (intervals p) p.slots
  current_interval t l = holding t 0 (intervals p) p.slots intervals_cover (omega arith) l

  -- a deadline after t is the end of the current interval or of a later one
  pub deadline_to_come : (t : ℕ) (j : Job) → Memᴰ j (jobs_of p) → t < j.deadline → Memᴰ j.deadline (ends (drop (past t (intervals p)) (intervals p)))
  deadline_to_come t j m l = ends_later t j.deadline (intervals p) (deadline_is_end j m) l
