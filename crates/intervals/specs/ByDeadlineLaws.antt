-- Laws of the tables with an entry for each border: filled job by job and interval by interval, and what they tell of the deadlines.
use Rattle.std.specs.Prelude.{ℕ, zero, suc, ◌+◌, ◌-◌, ◌≤◌, ◌<◌, Bool, true, false, max, min, ◌≡◌, refl, length, take, drop, get_or, set, replicate, if◌then◌else◌}
use Rattle.std.proofs.Common.{sym, ap, ◌∙◌, arith, add-one, take-suc, drop-cons, drop_of_length-le, not-suc-le-zero, le_of_suc-le-suc, get_or-set_same, get_or-set_other, lt-ltb, le-ltb, eq-eqb, ne_eqb}
use mathlib.Core.List.{List, [], ◌∷◌, ◌++◌, map, Memᴰ}
use Rattle.std.proofs.lemmas.List.{get_or-replicate}
use Rattle.words.specs.Words.{◌=?◌}
use Rattle.words.specs.Cases.{by_less, by_equal}
use Rattle.plan.specs.declared.Job.{Job}
use Rattle.plan.specs.Limits.{max_slots}
use Rattle.intervals.specs.declared.Interval.{Interval}
use Rattle.intervals.specs.Intervals.{least_release}
use Rattle.intervals.specs.Layout.{place_of}
use Rattle.intervals.specs.Deadlines.{rising_deadlines, Windowed, above}
use Rattle.intervals.specs.DeadlineLaws.{deadlines_rise, rises_most, above_first, above_none}
use Rattle.intervals.specs.IntervalLaws.{due_among, among_due}
use Rattle.intervals.specs.LayoutLaws.{place_here, place_on}
use Rattle.intervals.specs.ByDeadline.{borders, DueInTime, LongestWindows, NextWindow, PlacesFrom, entry_for}

-- ---- windows by their deadline

pub due_in_time : (N : ℕ) (js : List Job) → N ≤ max_slots → Windowed N js → DueInTime js
due_in_time N [] h w = tt
due_in_time N (j ∷ js) h w = (omega (arith, w.1), due_in_time N js h w.2)

-- the deadline at a place is a border of the table
pub due_at : (js : List Job) (i : ℕ) (d : Job) → DueInTime js → i < length js → (get_or js i d).deadline ≤ max_slots
due_at [] i d due h = absurd (not-suc-le-zero h)
due_at (j ∷ js) zero d due h = due.0
due_at (j ∷ js) (suc i) d due h = due_at js i d due.1 (le_of_suc-le-suc h)

-- one job more, behind the others
least_release_snoc : (e : ℕ) (js : List Job) (j : Job) → least_release e (js ++ j ∷ []) ≡ (if j.deadline =? e then min j.release (least_release e js) else least_release e js)
unfolding least_release
least_release_snoc e [] j = refl
least_release_snoc e (k ∷ js) j = rw (least_release_snoc e js j) (swapped (j.deadline =? e) (k.deadline =? e) j.release k.release (least_release e js))
  where
    swapped : (a b : Bool) (x y least : ℕ) → (if b then min y (if a then min x least else least) else (if a then min x least else least)) ≡ (if a then min x (if b then min y least else least) else (if b then min y least else least))
    swapped true true x y least = omega arith
    swapped true false x y least = refl
    swapped false true x y least = refl
    swapped false false x y least = refl

least_release_most : (e : ℕ) (js : List Job) → least_release e js ≤ e
unfolding least_release
least_release_most e [] = omega arith
least_release_most e (j ∷ js) =
    by_equal j.deadline e
    (λ q. rw (eq-eqb j.deadline e q) (omega (arith, least_release_most e js)))
    (λ q. rw (ne_eqb j.deadline e q) (least_release_most e js))

-- so the longest window that ends at e goes back to the least release of its jobs
pub window_back : (e : ℕ) (js : List Job) (longest : List ℕ) → e ≤ max_slots → LongestWindows js longest → (get_or longest e 0 ≤ e) × (e - get_or longest e 0 ≡ least_release e js)
window_back e js longest h table = (omega (arith, table e h), omega (arith, table e h, least_release_most e js))

pub no_windows : LongestWindows [] (replicate borders 0)
unfolding least_release
no_windows e h = get_or-replicate borders e 0 0 (omega arith) ∙ (let z : 0 ≡ e - e = omega arith in z)

-- the window of the job at place i, of this length, counted at its deadline
pub window_counted : (js : List Job) (i : ℕ) (d : Job) (longest : List ℕ) (at own n : ℕ) → i < length js → DueInTime js → length longest ≡ borders → LongestWindows (take i js) longest
    → at ≡ (get_or js i d).deadline → own ≡ (get_or js i d).deadline - (get_or js i d).release → n ≡ max (get_or longest at 0) own → LongestWindows (take (i + 1) js) (set longest at n)
window_counted js i d longest at own n h due size table there long q e l =
    let j : Job = get_or js i d in
    let in_time = due_at js i d due h in
    rw (add-one i, take-suc js i d h, least_release_snoc e (take i js) j)
    (by_equal j.deadline e
    (λ same.
    let before : get_or longest at 0 ≡ e - least_release e (take i js) = ap (λ k. get_or longest k 0) (there ∙ same) ∙ table e l in
    let now : n ≡ e - min j.release (least_release e (take i js)) = omega (arith, before, same, long, q, least_release_most e (take i js)) in
    rw (eq-eqb j.deadline e same) (ap (λ k. get_or (set longest at n) k 0) (sym (there ∙ same)) ∙ get_or-set_same longest at n 0 (omega arith) ∙ now))
    (λ other. rw (ne_eqb j.deadline e other) (get_or-set_other longest at e n 0 (λ s. other (sym there ∙ sym s)) ∙ table e l)))

-- ---- the next deadline

module _ (js : List Job) (N : ℕ) (w : Windowed N js) (few : N ≤ max_slots) (longest : List ℕ) (table : LongestWindows js longest) (m e : ℕ) (next : NextWindow longest m N e) where
  -- at a deadline a window ends
  window_at : (x : ℕ) → x ≤ N → Memᴰ x (rising_deadlines js) → 0 < get_or longest x 0
  window_at x h d = omega (arith, table x (omega arith), among_due N js w x d)

  no_deadline_before : (x : ℕ) → Memᴰ x (rising_deadlines js) → m < x → e ≤ x
  no_deadline_before x d l =
      let h = rises_most 0 (rising_deadlines js) N x (deadlines_rise N js w) d in
      by_less x e (λ b. absurd (omega (arith, window_at x h d, next.none_before x l b))) (λ b. b)

  -- e is the next deadline, or there is none
  pub deadline_next : e ≤ N → above m (rising_deadlines js) ≡ e ∷ above e (rising_deadlines js)
  deadline_next h =
      above_first m e 0 (rising_deadlines js) N (deadlines_rise N js w) next.after
      (due_among e js (omega (arith, table e (omega arith), next.ends h)))
      no_deadline_before

  pub deadlines_over : N < e → above m (rising_deadlines js) ≡ []
  deadlines_over h =
      above_none m (rising_deadlines js) (λ x d. by_less m x
      (λ l. absurd (omega (arith, no_deadline_before x d l, rises_most 0 (rising_deadlines js) N x (deadlines_rise N js w) d)))
      (λ l. l))

-- ---- intervals by their end

pub no_places : (xs : List Interval) → PlacesFrom (length xs) (drop (length xs) xs) (replicate borders (length xs))
unfolding place_of
no_places xs e h = rw (drop_of_length-le xs {i = length xs} (omega arith)) (get_or-replicate borders e (length xs) 0 (omega arith) ∙ (let z : length xs ≡ length xs + 0 = omega arith in z))

-- one interval more, from the last to the first
module _ (xs : List Interval) (i : ℕ) (d : Interval) (place : List ℕ) (some : 0 < i) (within : i ≤ length xs) (table : PlacesFrom i (drop i xs) place) where
  one_more : drop (i - 1) xs ≡ get_or xs (i - 1) d ∷ drop i xs
  one_more = let e : suc (i - 1) ≡ i = omega arith in rw e at (drop-cons xs (i - 1) d (omega arith))

  -- where it does not end
  place_kept : (e : ℕ) → e ≤ max_slots → ((get_or xs (i - 1) d).end ≡ e → ⊥) → get_or place e 0 ≡ i - 1 + place_of e (drop (i - 1) xs)
  place_kept e h q = rw one_more (omega (arith, table e h, place_on e (get_or xs (i - 1) d) (drop i xs) q))

  pub place_counted : length place ≡ borders → (get_or xs (i - 1) d).end < borders → PlacesFrom (i - 1) (drop (i - 1) xs) (set place (get_or xs (i - 1) d).end (i - 1))
  place_counted size l e h =
      let x : Interval = get_or xs (i - 1) d in
      by_equal x.end e
      (λ q.
      let now : i - 1 ≡ i - 1 + place_of e (drop (i - 1) xs) = rw one_more (omega (arith, place_here e x (drop i xs) q)) in
      ap (λ k. get_or (set place x.end (i - 1)) k 0) (sym q) ∙ get_or-set_same place x.end (i - 1) 0 (omega arith) ∙ now)
      (λ q. get_or-set_other place x.end e (i - 1) 0 (λ s. q (sym s)) ∙ place_kept e h q)

  pub place_beyond : borders ≤ (get_or xs (i - 1) d).end → PlacesFrom (i - 1) (drop (i - 1) xs) place
  place_beyond l e h = place_kept e h (λ q. omega arith)

-- ---- the homes of jobs due in time; with no intervals every job's place is 0

pub homes_in_time : (js : List Job) (xs : List Interval) (place : List ℕ) → PlacesFrom 0 xs place → DueInTime js
    → map (λ j. entry_for place j.deadline) js ≡ map (λ j. place_of j.deadline xs) js
unfolding entry_for
homes_in_time [] xs place table d = refl
homes_in_time (j ∷ js) xs place table d =
    let here : get_or place j.deadline 0 ≡ place_of j.deadline xs = omega (arith, table j.deadline d.0) in
    rw (lt-ltb j.deadline borders (omega (arith, d.0)), here, homes_in_time js xs place table d.1)

pub homes_of_none : (js : List Job) (place : List ℕ) → PlacesFrom 0 [] place → map (λ j. entry_for place j.deadline) js ≡ map (λ j. place_of j.deadline []) js
unfolding entry_for place_of
homes_of_none [] place table = refl
homes_of_none (j ∷ js) place table =
    by_less j.deadline borders
    (λ l.
    let here : get_or place j.deadline 0 ≡ 0 = table j.deadline (omega arith) in
    rw (lt-ltb j.deadline borders l, here, homes_of_none js place table))
    (λ l. rw (le-ltb j.deadline borders l, homes_of_none js place table))
