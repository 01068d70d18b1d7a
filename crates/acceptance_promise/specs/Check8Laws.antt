-- Check 8 passes exactly when A1 holds; a refusal shows an overfull window.
use Prim.Native.Nat.{ℕ, ◌-◌, ◌≤◌, ◌<◌}
use Rattle.std.proofs.Math.Decide.{dec_le}
use Rattle.std.proofs.Common.{arith, ◌∙◌}
use Rattle.std.specs.Prelude.{◌≡◌, refl, ◌↔◌, Bool, false, ◌&&◌, ◌||◌, length, if◌then◌else◌}
use Rattle.std.proofs.Math.Logic.{⊎_elim}
use Rattle.std.proofs.Math.Bool.{true}
use mathlib.Core.List.{List, [], ◌∷◌, map, Memᴰ}
use Rattle.std.proofs.Math.ListN.{get_or}
use borrow.Author.Tests.{leb-true, leb-false, le-leb, lt-leb}
use Rattle.words.specs.Words.{◌≤?◌, sum}
use Rattle.words.specs.Cases.{by_test}
use Rattle.answers.specs.Answer.{Overfull, accepted, ◌unless◌}
use Rattle.windows.specs.Sums.{total, gate}
use Rattle.windows.specs.SumLaws.{total_same, gate_open, gate_shut, gate_none}
use Rattle.windows.specs.Windows.{inside_at, within}
use Rattle.windows.specs.TriedLaws.{tried_enough}
use Rattle.plan.specs.declared.Job.{Job}
use Rattle.plan.specs.declared.Plan.{Plan}
use Rattle.plan.specs.Plan.{jobs_of, blank_job, is_hi}
use Rattle.intervals.specs.Intervals.{rising}
use Rattle.spares.specs.Spares.{hi_left}
use Rattle.window_sums.specs.WindowSums.{hi_within, hi_jobs, hi_releases, hi_deadlines, check8_at, check8}
use Rattle.well_formed.specs.InOrder.{job_at, InOrder}
use Rattle.spare_theory.specs.Promise.{windows_of, hi_of, A1}
use Rattle.answers.specs.RefusalLaws.{either_true, neither_true, unless_holds, unless_fails, some_refused}
use Rattle.well_formed.specs.InOrderLaws.{among_jobs, jobs_length, job_in}
use Rattle.words.specs.MemberLaws.{member_map}
use Rattle.acceptance_promise.specs.MemberLaws.{rising_has, member_accepted}
use Rattle.spare_theory.specs.TableLaws.{hi_left_case}

-- a sum over a list is the total over its places
sum_total : {A : Type 0} (f : A → ℕ) (d : A) (xs : List A) → sum (map f xs) ≡ total (length xs) (λ k. f (get_or xs k d))
unfolding sum total
sum_total f d [] = refl
sum_total f d (x ∷ xs) = let r = sum_total f d xs in omega arith

-- a HI job is among the HI jobs
hi_member : {j : Job} (js : List Job) → Memᴰ j js → is_hi j ≡ true → Memᴰ j (hi_jobs js)
unfolding hi_jobs
hi_member {j = j} [] m h = elim m [ ]
hi_member (i ∷ js) (Memᴰ.head e) h =
    let here : is_hi i ≡ true = rw e at h in
    rw here (Memᴰ.head e)
hi_member {j} (i ∷ js) (Memᴰ.tail m) h = go (is_hi i) (hi_member js m h)
  where
    go : (b : Bool) → Memᴰ j (hi_jobs js) → Memᴰ j (if b then i ∷ hi_jobs js else hi_jobs js)
    go true r = Memᴰ.tail r
    go false r = r

-- what one job adds to the sum of a window: its hi, if it is HI and its window lies there
abbrev hi_inside : ℕ → ℕ → Job → ℕ
hi_inside a b j = if is_hi j && (a ≤? j.release) && (j.deadline ≤? b) then j.hi else 0

-- the same as work behind gates
hi_inside_lem : (j : Job) (a b : ℕ) → hi_inside a b j ≡ gate a j.release (gate j.deadline b (hi_left j true 0))
unfolding hi_left
hi_inside_lem j a b = go (is_hi j) refl (dec_le a j.release) (dec_le j.deadline b)
  where
    work : ℕ
    work = j.hi - 0

    go : (h : Bool) → is_hi j ≡ h → Dec (a ≤ j.release) → Dec (j.deadline ≤ b) → hi_inside a b j ≡ gate a j.release (gate j.deadline b (if is_hi j then work else 0))
    go true e (yes p) (yes q) = rw (e, le-leb a j.release p, le-leb j.deadline b q) (omega (arith, gate_open {a = a} {b = j.release} (gate j.deadline b work) p, gate_open {b = b} work q))
    go true e (yes p) (no q) =
        rw (e, le-leb a j.release p, lt-leb j.deadline b (omega arith))
        (omega (arith, gate_open {a = a} {b = j.release} (gate j.deadline b work) p, gate_shut {a = j.deadline} {b = b} work (omega arith)))
    go true e (no p) q = rw (e, lt-leb a j.release (omega arith)) (omega (arith, gate_shut {a = a} {b = j.release} (gate j.deadline b work) (omega arith)))
    go false e p q = rw e (omega (arith, gate_none a j.release (gate j.deadline b 0) (gate_none j.deadline b 0 refl)))

module _ (p : Plan) (ok : InOrder p) where
  -- the sum of check 8 is the HI work within the window
  hi_within_lem : (a b : ℕ) → hi_within (jobs_of p) a b ≡ within (windows_of p) (hi_of p) a b
  unfolding hi_within within hi_of
  hi_within_lem a b =
      sum_total (hi_inside a b) blank_job (jobs_of p)
      ∙ rw (jobs_length p ok)
      (total_same p.jobs (λ k. hi_inside a b (get_or (jobs_of p) k blank_job)) (inside_at (windows_of p) (hi_of p) a b) (λ k l. rw (among_jobs p k l) (hi_inside_lem (job_at p k) a b)))

  -- a job with HI work is a HI job
  is_hi_lem : (k : ℕ) → 0 < hi_of p k → is_hi (job_at p k) ≡ true
  unfolding hi_of
  is_hi_lem k h = ⊎_elim (λ w. w.1) (λ w. absurd (omega arith)) (hi_left_case (job_at p k) true 0)

  -- the release, or deadline, of a HI job is among those tried
  hi_rising : (f : Job → ℕ) (k : ℕ) → k < p.jobs → is_hi (job_at p k) ≡ true → Memᴰ (f (job_at p k)) (rising (map f (hi_jobs (jobs_of p))))
  hi_rising f k l h = rising_has (map f (hi_jobs (jobs_of p))) (member_map f (hi_member (jobs_of p) (job_in p ok k l) h))

  -- the test of check 8 at a and b
  abbrev fits : ℕ → ℕ → Bool
  fits a b = (b ≤? a) || (hi_within (jobs_of p) a b ≤? b - a)

  -- check 8 passes: A1 holds
  pub a1_holds : accepted (check8 p) ≡ true → A1 p
  unfolding check8 check8_at accepted
  a1_holds passes = tried_enough (windows_of p) (hi_of p) ok.window tried
    where
      tried : (i k : ℕ) → i < p.jobs → k < p.jobs → 0 < hi_of p i → 0 < hi_of p k → (job_at p i).release < (job_at p k).deadline
          → within (windows_of p) (hi_of p) (job_at p i).release (job_at p k).deadline ≤ (job_at p k).deadline - (job_at p i).release
      tried i k l m u v h =
          ⊎_elim
          (λ w. absurd (omega (arith, leb-true b a w)))
          (λ w. omega (arith, leb-true (hi_within (jobs_of p) a b) (b - a) w, hi_within_lem a b))
          (either_true (b ≤? a) (hi_within (jobs_of p) a b ≤? b - a) test)
        where
          a : ℕ
          a = (job_at p i).release

          b : ℕ
          b = (job_at p k).deadline

          at_a : accepted (check8_at p a) ≡ true
          at_a = member_accepted (check8_at p) 0 (hi_releases p) passes (hi_rising (λ j. j.release) i l (is_hi_lem i u))

          at_b : accepted (Overfull a b unless fits a b) ≡ true
          at_b = member_accepted (λ b. Overfull a b unless fits a b) 0 (hi_deadlines p) at_a (hi_rising (λ j. j.deadline) k m (is_hi_lem k v))

          test : fits a b ≡ true
          test = unless_holds (Overfull a b) (fits a b) refl at_b

  -- check 8 refuses: some window is overfull
  pub a1_broken : accepted (check8 p) ≡ false → (a b : ℕ) × (b - a < within (windows_of p) (hi_of p) a b)
  unfolding check8 check8_at
  a1_broken refused =
      let x = some_refused (λ _ a. check8_at p a) 0 0 (hi_releases p) refused in
      let a = get_or (hi_releases p) x.0 0 in
      let y = some_refused (λ _ b. Overfull a b unless fits a b) 0 0 (hi_deadlines p) x.4 in
      let b = get_or (hi_deadlines p) y.0 0 in
      let f = neither_true (b ≤? a) (hi_within (jobs_of p) a b ≤? b - a) (unless_fails (Overfull a b) (fits a b) y.4) in
      (a, b, omega (arith, leb-false (hi_within (jobs_of p) a b) (b - a) f.1, hi_within_lem a b))

  -- A1: check 8 passes exactly when no window from a to b is overfull with the hi of the HI jobs
  pub a1_exactly : (accepted (check8 p) ≡ true) ↔ A1 p
  a1_exactly = (a1_holds, λ a1. by_test (accepted (check8 p)) (λ h. h) (λ h. absurd (let x = a1_broken h in let m = a1 x.0 x.1 in omega (arith, x.2))))
