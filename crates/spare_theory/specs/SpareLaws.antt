-- Spares are due sums in disguise: the closed form of the current spare (S1), and its sign (S2).
use Rattle.std.specs.Prelude.{ℕ, zero, suc, ◌+◌, ◌-◌, ◌≤◌, ◌<◌, max, ◌≡◌, refl, ◌↔◌, true, false, ℤ, pos, negsuc, get_or, replicate, if◌then◌else◌}
use Rattle.std.proofs.Math.Decide.{dec_le, ℕ_discrete}
use native.Mathlib.Omega.{arith}
use Rattle.std.proofs.Common.{sym, ◌∙◌, le-leb, eq-eqb, ne_eqb, ltb-true, lt-ltb}
use Rattle.std.proofs.Math.Logic.{⊎_elim}
use mathlib.Core.List.Memᴰ
use mathlib.Core.List.{List, [], ◌∷◌, ◌++◌}
use Rattle.std.proofs.Math.ListN.{length}
use Rattle.std.proofs.lemmas.Bool.{lt-leb}
use Rattle.words.specs.Words.{◌=?◌, below0, above0}
use Rattle.words.specs.Difference.{Is, is_pos, is_sub, is_add, is_as}
use Rattle.windows.specs.Sums.{total, gate}
use Rattle.windows.specs.SumLaws.{total_same, total_none, total_add, total_mono, gate_open, gate_shut, gate_case}
use Rattle.windows.specs.Windows.{due_at, due_by, InTime}
use Rattle.plan.specs.declared.Job.{Job}
use Rattle.plan.specs.declared.Plan.{Plan}
use Rattle.plan.specs.Plan.{jobs_of, blank_job}
use Rattle.intervals.specs.declared.Interval.{Interval}
use Rattle.intervals.specs.Intervals.{max_intervals, intervals, past}
use Rattle.intervals.specs.Covers.{interval_at}
use Rattle.spares.specs.Spares.{remaining, at_most0, next_spare, spare, spares, row, current}
use Rattle.well_formed.specs.InOrder.{job_at, InOrder}
use Rattle.spare_theory.specs.Promise.{windows_of}
use Rattle.well_formed.specs.InOrderLaws.{among_jobs, jobs_length}
use Rattle.spare_theory.specs.Chain.{Quiet, Chain, done, link}
use Rattle.spare_theory.specs.ChainLaws.{intervals_chain}
use Rattle.spare_theory.specs.Spares.{due, Least, current_end}

-- ---- signs of differences
-- not below 0
pub is_not_below : {z : ℤ} {p m : ℕ} → Is z p m → below0 z ≡ false → m ≤ p
is_not_below {z = pos n} h t = omega arith
is_not_below {z = negsuc n} h t = absurd (let z : ◌≡◌ {A = ℕ} 0 1 = cc in omega arith)

-- below 0
pub is_below : {z : ℤ} {p m : ℕ} → Is z p m → below0 z ≡ true → p < m
is_below {z = pos n} h t = absurd (let z : ◌≡◌ {A = ℕ} 0 1 = cc in omega arith)
is_below {z = negsuc n} h t = omega arith

-- and a difference that is not below 0
pub not_below_is : {z : ℤ} {p m : ℕ} → Is z p m → m ≤ p → below0 z ≡ false
not_below_is {z = pos n} h l = refl
not_below_is {z = negsuc n} h l = absurd (omega arith)

-- above 0
pub is_above : {z : ℤ} {p m : ℕ} → Is z p m → above0 z ≡ true → m < p
is_above {z = pos n} h t = let l = ltb-true 0 n t in omega arith
is_above {z = negsuc n} h t = absurd (let z : ◌≡◌ {A = ℕ} 0 1 = cc in omega arith)

-- and a difference that is above 0
pub above_is : {z : ℤ} {p m : ℕ} → Is z p m → m < p → above0 z ≡ true
above_is {z = pos n} h l = lt-ltb 0 n (omega arith)
above_is {z = negsuc n} h l = absurd (omega arith)

-- ---- rows
-- beyond its list an array of fillers has the filler too
pub get_d_filled : {A : Type 0} (z : A) (xs : List A) (n i : ℕ) → get_or (xs ++ replicate n z) i z ≡ get_or xs i z
get_d_filled z [] zero i = refl
get_d_filled z [] (suc n) zero = refl
get_d_filled z [] (suc n) (suc i) = get_d_filled z [] n i
get_d_filled z (x ∷ xs) n zero = refl
get_d_filled z (x ∷ xs) n (suc i) = get_d_filled z xs n i

-- ---- the remaining work of an interval
-- n where d is e, else 0
unfoldable at : ℕ → ℕ → ℕ → ℕ
at d e n = if d =? e then n else 0

-- it is n
at_yes : (d e n : ℕ) → d ≡ e → at d e n ≡ n
unfolding at
at_yes d e n q = rw (eq-eqb d e q)

-- it is 0
at_no : (d e n : ℕ) → (d ≡ e → ⊥) → at d e n ≡ 0
unfolding at
at_no d e n q = rw (ne_eqb d e q)

-- of nothing it is nothing
at_none : (d e n : ℕ) → n ≡ 0 → at d e n ≡ 0
at_none d e n z = go (ℕ_discrete d e)
  where
    go : Dec (d ≡ e) → at d e n ≡ 0
    go (yes q) = at_yes d e n q ∙ z
    go (no q) = at_no d e n q

-- the remaining work is the total over the jobs' places
remaining_total : (e : ℕ) (js : List Job) (ws : List ℕ) → remaining e js ws ≡ total (length js) (λ k. at (get_or js k blank_job).deadline e (get_or ws k 0))
unfolding remaining total at
remaining_total e [] ws = refl
remaining_total e (j ∷ js) [] =
    sym (total_none (length (j ∷ js)) (λ k. at (get_or (j ∷ js) k blank_job).deadline e (get_or [] k 0)) (λ k l. at_none (get_or (j ∷ js) k blank_job).deadline e (get_or [] k 0) refl))
remaining_total e (j ∷ js) (w ∷ ws) = let r = remaining_total e js ws in omega arith

-- ---- one job's work, due at d, from border to border
-- no less by a later border
gate_later : (d a b n : ℕ) → a ≤ b → gate d a n ≤ gate d b n
gate_later d a b n h = ⊎_elim (λ w. omega (arith, w.1, gate_open {a = d} {b = b} n (omega (arith, w.0)))) (λ w. omega arith) (gate_case d a n)

-- no more by a later border, where d is not after a and by that
gate_quiet : (d a c n : ℕ) → a ≤ c → (a < d → c < d) → gate d c n ≡ gate d a n
gate_quiet d a c n h quiet = go (dec_le d a)
  where
    go : Dec (d ≤ a) → gate d c n ≡ gate d a n
    go (yes q) = gate_open {a = d} {b = c} n (omega arith) ∙ sym (gate_open n q)
    go (no q) = gate_shut {a = d} {b = c} n (quiet (omega arith)) ∙ sym (gate_shut {a = d} {b = a} n (omega arith))

-- at b it is more, where d is b
gate_step : (d a b n : ℕ) → a < b → (a < d → b ≤ d) → gate d b n ≡ gate d a n + at d b n
gate_step d a b n h quiet = go (dec_le d a) (ℕ_discrete d b)
  where
    go : Dec (d ≤ a) → Dec (d ≡ b) → gate d b n ≡ gate d a n + at d b n
    go (yes q) e = omega (arith, gate_open {a = d} {b = b} n (omega arith), gate_open n q, at_no d b n (λ f. omega arith))
    go (no q) (yes e) = omega (arith, gate_open {a = d} {b = b} n (omega arith), gate_shut {a = d} {b = a} n (omega arith), at_yes d b n e)
    go (no q) (no e) = let l = quiet (omega arith) in omega (arith, gate_shut {a = d} {b = b} n (omega arith), gate_shut {a = d} {b = a} n (omega arith), at_no d b n e)

module _ (p : Plan) (ok : InOrder p) (ws : List ℕ) where
  -- the remaining work of the interval that ends at e, over the plan's jobs
  remaining_jobs : (e : ℕ) → remaining e (jobs_of p) ws ≡ total p.jobs (λ k. at (job_at p k).deadline e (get_or ws k 0))
  remaining_jobs e =
      remaining_total e (jobs_of p) ws
      ∙ rw (jobs_length p ok)
      (total_same p.jobs (λ k. at (get_or (jobs_of p) k blank_job).deadline e (get_or ws k 0)) (λ k. at (job_at p k).deadline e (get_or ws k 0)) (λ k l. rw (among_jobs p k l)))

  -- ---- the work due, from border to border
  -- what the job at place k adds to the work due by e
  abbrev due_of : ℕ → ℕ → ℕ
  due_of = due_at (windows_of p) (λ k. get_or ws k 0)

  -- no less by a later border
  due_later : (a b : ℕ) → a ≤ b → due p ws a ≤ due p ws b
  unfolding due_by
  due_later a b h = total_mono p.jobs (due_of a) (due_of b) (λ k l. gate_later (job_at p k).deadline a b (get_or ws k 0) h)

  -- no more inside an interval
  due_quiet : (a b c : ℕ) → Quiet p a b → a ≤ c → c < b → due p ws c ≡ due p ws a
  unfolding due_by
  due_quiet a b c quiet h l = total_same p.jobs (due_of c) (due_of a) (λ k m. gate_quiet (job_at p k).deadline a c (get_or ws k 0) h (λ d. omega (arith, quiet k m d)))

  -- no more after N
  due_end : (e : ℕ) → due p ws e ≤ due p ws p.slots
  due_end e = go (dec_le e p.slots)
    where
      go : Dec (e ≤ p.slots) → due p ws e ≤ due p ws p.slots
      go (yes q) = due_later e p.slots q
      go (no q) = omega (arith, due_quiet p.slots (suc e) e (λ k l d. absurd (omega (arith, ok.ends k l))) (omega arith) (omega arith))

  -- at the end of an interval, its remaining work more
  due_step : (a b : ℕ) → Quiet p a b → a < b → due p ws b ≡ due p ws a + remaining b (jobs_of p) ws
  unfolding due_by
  due_step a b quiet h =
      total_same p.jobs (due_of b) (λ k. due_of a k + at (job_at p k).deadline b (get_or ws k 0)) (λ k m. gate_step (job_at p k).deadline a b (get_or ws k 0) h (quiet k m))
      ∙ omega (arith, total_add p.jobs (due_of a) (λ k. at (job_at p k).deadline b (get_or ws k 0)), remaining_jobs b)

  -- ---- S1: the closed form
  module _ (t : ℕ) where
    -- the spare of an interval that is not past, by the next one's
    spare_is : (x : Interval) (a : ℕ) → max x.start t ≡ a → a < x.end → Quiet p a x.end → (next : ℤ) (pn mn : ℕ) → Is (at_most0 next) pn mn
        → Is (spare t x (remaining x.end (jobs_of p) ws) next) (x.end + due p ws a + pn) (a + due p ws x.end + mn)
    unfolding spare
    spare_is x a e l quiet next pn mn n =
        rw (lt-leb x.end t (omega arith), e)
        (is_as (is_add (is_sub (x.end - a) (remaining x.end (jobs_of p) ws)) n) (omega (arith, due_step a x.end quiet l)))

    -- an interval x before y: the least from x on, by the least from y on
    least_more : (x y : Interval) (ys : List Interval) (a : ℕ) → max x.start t ≡ a → a < x.end → Quiet p a x.end → x.end < y.end → Quiet p x.end y.end
        → (z : ℤ) → Least p ws x.end y.end (y ∷ ys) z → Least p ws a x.end (x ∷ y ∷ ys) (spare t x (remaining x.end (jobs_of p) ws) z)
    least_more x y ys a e l quiet room inside (pos n) r =
        record {
          reached = x.end;
          is = is_as (spare_is x a e l quiet (pos n) 0 0 (is_pos 0)) (omega arith);
          least = λ b h. go b h (dec_le y.end b);
          from = omega arith;
          an_end = Memᴰ.head refl;
        }
      where
        go : (b : ℕ) → x.end ≤ b → Dec (y.end ≤ b) → x.end + due p ws b ≤ b + due p ws x.end
        go b h (yes q) = omega (arith, r.least b q, r.is)
        go b h (no q) = omega (arith, due_quiet x.end y.end b inside h (omega arith))
    least_more x y ys a e l quiet room inside (negsuc n) r =
        record {
          reached = r.reached;
          is = is_as (spare_is x a e l quiet (negsuc n) (r.reached + due p ws x.end) (x.end + due p ws r.reached) r.is) (omega arith);
          least = λ b h. go b h (dec_le y.end b);
          from = omega (arith, r.from);
          an_end = Memᴰ.tail r.an_end;
        }
      where
        go : (b : ℕ) → x.end ≤ b → Dec (y.end ≤ b) → r.reached + due p ws b ≤ b + due p ws r.reached
        go b h (yes q) = r.least b q
        go b h (no q) = omega (arith, due_quiet x.end y.end b inside h (omega arith), r.is)

    -- the first spare of intervals end to end is the least
    first_least : (x : Interval) (xs : List Interval) (a : ℕ) → max x.start t ≡ a → a < x.end → Quiet p a x.end → Chain p x.end xs
        → Least p ws a x.end (x ∷ xs) (next_spare (spares t (jobs_of p) ws (x ∷ xs)))
    unfolding spares
    first_least x [] a e l quiet (done over) =
        record {
          reached = x.end;
          is = is_as (spare_is x a e l quiet (pos 0) 0 0 (is_pos 0)) (omega arith);
          least = λ b h. (let d : due p ws b ≤ due p ws x.end = rw (sym over) at (due_end b) in omega arith);
          from = omega arith;
          an_end = Memᴰ.head refl;
        }
    first_least x (y ∷ ys) a e l quiet (link start room inside rest) =
        least_more x y ys a e l quiet room inside (next_spare (spares t (jobs_of p) ws (y ∷ ys))) (first_least y ys x.end (omega arith) room inside rest)

    -- of a list of intervals: the end of the current one is after t, no deadline lies before it, and the current spare is the least from there on
    abbrev FromItsEnd : List Interval → Type 0
    FromItsEnd xs =
        let b = (interval_at xs (past t xs)).end in
        (t < b) × Quiet p t b × Least p ws t b xs (get_or (spares t (jobs_of p) ws xs) (past t xs) (pos 0))

    -- the current spare of intervals end to end from a to N
    current_least : (a : ℕ) (xs : List Interval) → Chain p a xs → a ≤ t → t < p.slots
        → FromItsEnd xs
    unfolding spares past
    current_least a [] (done over) h l = absurd (omega arith)
    current_least a (x ∷ xs) (link start room quiet rest) h l = go (dec_le x.end t) (current_least x.end xs rest)
      where
        go : Dec (x.end ≤ t) → (x.end ≤ t → t < p.slots → FromItsEnd xs) → FromItsEnd (x ∷ xs)
        go (yes q) r =
            let c = r q l in
            rw (le-leb x.end t q) (c.0, c.1, record { reached = c.2.reached; is = c.2.is; least = c.2.least; from = c.2.from; an_end = Memᴰ.tail c.2.an_end })
        go (no q) r =
            rw (lt-leb x.end t (omega arith))
            (omega arith, λ k m d. quiet k m (omega arith), first_least x xs t (omega arith) (omega arith) (λ k m d. quiet k m (omega arith)) rest)

    module _ (before : t < p.slots) where
      -- the spare of the interval which holds slot t, in the plan's row
      current_row : current p t (row p t ws) ≡ get_or (spares t (jobs_of p) ws (intervals p)) (past t (intervals p)) (pos 0)
      unfolding current row
      current_row = get_d_filled (pos 0) (spares t (jobs_of p) ws (intervals p)) (max_intervals - length (spares t (jobs_of p) ws (intervals p))) (past t (intervals p))

      -- S1: the current spare is the least, over the borders from the end of the current interval on, of the room up to there less the work due there
      pub spare_least : (t < current_end p t) × Quiet p t (current_end p t) × Least p ws t (current_end p t) (intervals p) (current p t (row p t ws))
      spare_least = rw current_row (current_least 0 (intervals p) (intervals_chain p ok) (omega arith) before)

      -- S2, where no work is due at or before t
      module _ (ahead : (k : ℕ) → k < p.jobs → (job_at p k).deadline ≤ t → get_or ws k 0 ≡ 0) where
        -- nothing is due by t
        due_past : due p ws t ≡ 0
        unfolding due_by
        due_past = total_none p.jobs (due_of t) (λ k m. ⊎_elim (λ w. omega (arith, w.1, ahead k m w.0)) (λ w. w.1) (gate_case (job_at p k).deadline t (get_or ws k 0)))

        -- nor before the end of the current interval
        due_none : (b c : ℕ) → Quiet p t b → c < b → due p ws c ≡ 0
        due_none b c quiet l = go (dec_le c t)
          where
            go : Dec (c ≤ t) → due p ws c ≡ 0
            go (yes q) = omega (arith, due_later c t q, due_past)
            go (no q) = omega (arith, due_quiet t b c quiet (omega arith) l, due_past)

        -- what the current spare says, k slots from t on
        module _ (b : ℕ) (s : (t < b) × Quiet p t b × Least p ws t b (intervals p) (current p t (row p t ws))) where
          -- room for the work due by where the least is reached is room for all
          room_all : (k : ℕ) → k ≤ 1 → t + k + due p ws s.2.reached ≤ s.2.reached → InTime (windows_of p) (t + k) (λ k. get_or ws k 0)
          room_all k small h e = go (dec_le b e)
            where
              go : Dec (b ≤ e) → due p ws e ≤ e - (t + k)
              go (yes q) = omega (arith, s.2.least e q)
              go (no q) = omega (arith, due_none b e s.1 (omega arith))

          -- and conversely
          all_room : (k : ℕ) → k ≤ 1 → InTime (windows_of p) (t + k) (λ k. get_or ws k 0) → t + k + due p ws s.2.reached ≤ s.2.reached
          all_room k small h = omega (arith, h s.2.reached, s.2.from, s.0)

        -- the current spare is not below 0 exactly when for all e the work due by e is e - t at most
        pub not_below_exactly : (below0 (current p t (row p t ws)) ≡ false) ↔ InTime (windows_of p) t (λ k. get_or ws k 0)
        not_below_exactly = (
          λ h e. (let i = is_not_below spare_least.2.is h in omega (arith, room_all (current_end p t) spare_least 0 (omega arith) (omega (arith, due_past)) e)),
          λ h. not_below_is spare_least.2.is (omega (arith, all_room (current_end p t) spare_least 0 (omega arith) (λ e. omega (arith, h e)), due_past)),
        )

        -- it is above 0 exactly when for all e the work due by e is e - (t + 1) at most
        pub above_exactly : (above0 (current p t (row p t ws)) ≡ true) ↔ InTime (windows_of p) (t + 1) (λ k. get_or ws k 0)
        above_exactly = (
          λ h. (let i = is_above spare_least.2.is h in room_all (current_end p t) spare_least 1 (omega arith) (omega (arith, due_past))),
          λ h. above_is spare_least.2.is (omega (arith, all_room (current_end p t) spare_least 1 (omega arith) h, due_past)),
        )

        -- a current spare below 0 shows a border e by which more than e - t is due
        pub below_shows : below0 (current p t (row p t ws)) ≡ true → (e : ℕ) × (e - t < due p ws e)
        below_shows h = let i = is_below spare_least.2.is h in (spare_least.2.reached, omega (arith, due_past, spare_least.2.from, spare_least.0))
