-- Laws of the distinct deadlines, least first: they rise, and those above a border begin with the least of them.
-- Nothing here is of jobs but their windows; the intervals made of the deadlines are in IntervalLaws.
use Rattle.std.specs.Prelude.{ℕ, suc, ◌≤◌, ◌<◌, ◌≡◌, refl, Bool, true, false, ◌&&◌, length, if◌then◌else◌}
use Rattle.std.proofs.Common.{⊎_elim, arith, length-take, lt-ltb, le-ltb, eq-eqb, ne_eqb, ltb-true, leb-true}
use mathlib.Core.List.{List, [], ◌∷◌, map, Memᴰ}
use Rattle.std.proofs.lemmas.List.{length-map}
use Rattle.words.specs.Words.{◌≤?◌, ◌<?◌, ◌=?◌, every}
use Rattle.words.specs.Cases.{by_less, by_equal}
use Rattle.plan.specs.declared.Job.{Job}
use Rattle.plan.specs.declared.Plan.{Plan}
use Rattle.plan.specs.Limits.{max_slots, max_jobs, one_to}
use Rattle.plan.specs.Plan.{jobs_of}
use Rattle.plan.specs.Rules.{window_holds, windows_hold}
use Rattle.intervals.specs.Deadlines.{rising_deadlines, Windowed, WithinLimits, Rises, above}
use Rattle.intervals.specs.Intervals.{insert, rising, deadlines}

-- ---- what windows that hold give

both : (a b : Bool) → (a && b) ≡ true → (a ≡ true) × (b ≡ true)
both true b h = (refl, h)
both false b h = absurd (let z : ◌≡◌ {A = ℕ} 0 1 = cc in omega arith)

windowed : (N : ℕ) (js : List Job) → every (map (window_holds N) js) ≡ true → Windowed N js
unfolding every window_holds
windowed N [] h = tt
windowed N (j ∷ js) h =
    let here = both _ _ h in
    let window = both _ _ here.0 in
    (ltb-true _ _ window.0, leb-true _ _ window.1, windowed N js here.1)

pub within_limits : (p : Plan) → windows_hold p ≡ true → WithinLimits p
unfolding windows_hold
within_limits p h =
    let limits = both (one_to max_slots p.slots && one_to max_jobs p.jobs) _ h in
    let both-limits = both (one_to max_slots p.slots) _ limits.0 in
    let slots = both (1 ≤? p.slots) _ both-limits.0 in
    let jobs = both (1 ≤? p.jobs) _ both-limits.1 in
    record {
      some_slots = leb-true _ _ slots.0;
      few_slots = leb-true _ _ slots.1;
      some_jobs = leb-true _ _ jobs.0;
      few_jobs = leb-true _ _ jobs.1;
      windows = windowed p.slots (jobs_of p) limits.1;
    }

-- ---- rising numbers

pub rises_top : (b : ℕ) (xs : List ℕ) (top : ℕ) → Rises b xs top → b ≤ top
rises_top b [] top r = r
rises_top b (x ∷ xs) top r = omega (arith, r.0, rises_top x xs top r.1)

-- each of them is above b, none above top
pub rises_over : (b : ℕ) (xs : List ℕ) (top x : ℕ) → Rises b xs top → Memᴰ x xs → b < x
rises_over b [] top x r m = absurd (mathlib.Core.List.Memᴰ.not-nil m)
rises_over b (y ∷ xs) top x r m =
    ⊎_elim (λ q. omega (arith, q, r.0)) (λ n. omega (arith, r.0, rises_over y xs top x r.1 n)) (mathlib.Core.List.Memᴰ.cases_cons m)

pub rises_most : (b : ℕ) (xs : List ℕ) (top x : ℕ) → Rises b xs top → Memᴰ x xs → x ≤ top
rises_most b [] top x r m = absurd (mathlib.Core.List.Memᴰ.not-nil m)
rises_most b (y ∷ xs) top x r m =
    ⊎_elim (λ q. omega (arith, q, rises_top y xs top r.1)) (λ n. rises_most y xs top x r.1 n) (mathlib.Core.List.Memᴰ.cases_cons m)

insert_rises : (b x : ℕ) (ys : List ℕ) (top : ℕ) → b < x → x ≤ top → Rises b ys top → Rises b (insert x ys) top
unfolding insert
insert_rises b x [] top l h r = (l, h)
insert_rises b x (y ∷ ys) top l h r =
    by_less x y
    (λ p. rw (lt-ltb x y p) (l, (p, r.1)))
    (λ p. by_equal x y
    (λ q. rw (le-ltb x y p, eq-eqb x y q) r)
    (λ q. rw (le-ltb x y p, ne_eqb x y q) (r.0, insert_rises y x ys top (omega (arith, q)) h r.1)))

pub deadlines_rise : (N : ℕ) (js : List Job) → Windowed N js → Rises 0 (rising_deadlines js) N
unfolding rising
deadlines_rise N [] w = omega arith
deadlines_rise N (j ∷ js) w = insert_rises 0 j.deadline (rising_deadlines js) N (omega (arith, w.0)) w.1 (deadlines_rise N js w.2)

-- ---- there are no more of them than jobs

length_insert : (x : ℕ) (ys : List ℕ) → length (insert x ys) ≤ suc (length ys)
unfolding insert
length_insert x [] = omega arith
length_insert x (y ∷ ys) = go (x <? y) (x =? y) (length_insert x ys)
  where
    go : (b c : Bool) → length (insert x ys) ≤ suc (length ys) → length (if b then x ∷ y ∷ ys else if c then y ∷ ys else y ∷ insert x ys) ≤ suc (suc (length ys))
    go true c h = omega arith
    go false true h = omega arith
    go false false h = omega arith

pub length_rising : (xs : List ℕ) → length (rising xs) ≤ length xs
unfolding rising
length_rising [] = omega arith
length_rising (x ∷ xs) = omega (arith, length_insert x (rising xs), length_rising xs)

pub few_deadlines : (p : Plan) → length (deadlines p) ≤ p.jobs
few_deadlines p =
    omega (arith, length_rising (map (λ j. j.deadline) (jobs_of p)), length-map (jobs_of p) (λ j. j.deadline), length-take p.jobs p.job)

-- ---- of rising numbers, those above a border

above_all : (m b : ℕ) (ys : List ℕ) (top : ℕ) → m ≤ b → Rises b ys top → above m ys ≡ ys
unfolding above
above_all m b [] top h r = refl
above_all m b (y ∷ ys) top h r = rw (lt-ltb m y (omega (arith, r.0)), above_all m y ys top (omega (arith, r.0)) r.1)

-- the least number above m comes first
pub above_first : (m e b : ℕ) (ys : List ℕ) (top : ℕ) → Rises b ys top → m < e → Memᴰ e ys → ((x : ℕ) → Memᴰ x ys → m < x → e ≤ x)
    → above m ys ≡ e ∷ above e ys
unfolding above
above_first m e b [] top r l d least = absurd (mathlib.Core.List.Memᴰ.not-nil d)
above_first m e b (y ∷ ys) top r l d least =
    by_less m y
    (λ h.
    let q : e ≡ y = ⊎_elim (λ s. s) (λ n. absurd (omega (arith, least y (mathlib.Core.List.Memᴰ.head refl) h, rises_over y ys top e r.1 n))) (mathlib.Core.List.Memᴰ.cases_cons d) in
    rw (lt-ltb m y h, le-ltb e y (omega arith), above_all m y ys top (omega arith) r.1, above_all e y ys top (omega arith) r.1, q))
    (λ h.
    let later : Memᴰ e ys = ⊎_elim (λ s. absurd (omega arith)) (λ n. n) (mathlib.Core.List.Memᴰ.cases_cons d) in
    rw (le-ltb m y h, le-ltb e y (omega arith)) (above_first m e y ys top r.1 l later (λ x n. least x (mathlib.Core.List.Memᴰ.tail n))))

pub above_none : (m : ℕ) (ys : List ℕ) → ((x : ℕ) → Memᴰ x ys → x ≤ m) → above m ys ≡ []
unfolding above
above_none m [] low = refl
above_none m (y ∷ ys) low = rw (le-ltb m y (low y (mathlib.Core.List.Memᴰ.head refl))) (above_none m ys (λ x n. low x (mathlib.Core.List.Memᴰ.tail n)))

pub above_zero : (ys : List ℕ) (top : ℕ) → Rises 0 ys top → above 0 ys ≡ ys
above_zero ys top r = above_all 0 0 ys top (omega arith) r
