-- A plan record that passes 2 to 7 and 17 is in order: here alone the checks are opened, and whoever stands above cites in_order.
use Prim.Native.Nat.{ℕ, suc, ◌+◌, ◌-◌, ◌≤◌, ◌<◌, suc-le-suc, zero-le}
use Rattle.std.proofs.Common.{arith, ◌∙◌, ⊎_elim, length-take-le}
use Rattle.std.specs.Prelude.{◌≡◌, Bool, false, ◌&&◌, ◌||◌}
use Rattle.std.proofs.Math.Path.{refl}
use Rattle.std.proofs.Math.Bool.{true}
use mathlib.Core.List.{List, [], ◌∷◌, map, Memᴰ}
use Rattle.std.proofs.Math.ListN.{length, get_or}
use Rattle.std.proofs.Math.Seq.{get_or-take}
use borrow.Author.Tests.{leb-true, ltb-true, eqb-true, le-leb, lt-ltb}
use Rattle.words.specs.Words.{every, ◌≤?◌, ◌<?◌, ◌=?◌}
use Rattle.answers.specs.Answer.{SlotLimit, JobLimit, Window, Budget, TableSlot, TableCount, accepted, ◌unless◌, ◌and_then◌}
use Rattle.plan.specs.declared.Job.{Job}
use Rattle.plan.specs.declared.Plan.{Plan}
use Rattle.plan.specs.Limits.{max_slots, max_jobs, one_to}
use Rattle.plan.specs.Plan.{jobs_of, slots_of, blank_job, job_no, is_hi, table_at, naming}
use Rattle.plan.specs.Rules.{check2, check3, window_holds, budget_holds, windows_hold}
use Rattle.well_formed.specs.WellFormed.{check4, check5, check6, check7, check17, slot_holds, well_formed}
use Rattle.well_formed.specs.InOrder.{job_at, InOrder, JobOf}
use Rattle.words.specs.MemberLaws.{member_at}
use Rattle.words.specs.Cases.{never, both_hold}
use Rattle.answers.specs.RefusalLaws.{either_true, unless_holds, both_accept, each_accepted}

-- 1 to the limit
within_limit : (limit n : ℕ) → one_to limit n ≡ true → (1 ≤ n) × (n ≤ limit)
within_limit limit n h = let b = both_hold (1 ≤? n) (n ≤? limit) h in (leb-true 1 n b.0, leb-true n limit b.1)

-- what a window that holds says
window_says : (N : ℕ) (j : Job) → window_holds N j ≡ true → (j.release < j.deadline) × (j.deadline ≤ N)
unfolding window_holds
window_says N j h = let b = both_hold (j.release <? j.deadline) (j.deadline ≤? N) h in (ltb-true j.release j.deadline b.0, leb-true j.deadline N b.1)

-- and holds where that is so
window_holds_lem : (N : ℕ) (j : Job) → j.release < j.deadline → j.deadline ≤ N → window_holds N j ≡ true
unfolding window_holds
window_holds_lem N j a b = rw (lt-ltb j.release j.deadline a, le-leb j.deadline N b)

-- a test that each member of a list passes
every_true : {A : Type 0} (test : A → Bool) (d : A) (xs : List A) → ((i : ℕ) → i < length xs → test (get_or xs i d) ≡ true) → every (map test xs) ≡ true
unfolding every
every_true test d [] h = refl
every_true test d (x ∷ xs) h =
    let first : test x ≡ true = h 0 (suc-le-suc zero-le) in
    rw first (every_true test d xs (λ i l. h (suc i) (suc-le-suc l)))

-- what budgets that hold say
budget_says : (N : ℕ) (j : Job) → budget_holds N j ≡ true → (1 ≤ j.lo) × (j.lo ≤ j.hi) × (j.hi ≤ N) × (is_hi j ≡ false → j.lo ≡ j.hi)
unfolding budget_holds
budget_says N j h = (
  leb-true 1 j.lo c.0,
  leb-true j.lo j.hi c.1,
  leb-true j.hi N b.1,
  λ low. ⊎_elim (λ w. absurd (never w low)) (eqb-true j.lo j.hi) (either_true (is_hi j) (j.lo =? j.hi) a.1),
)
  where
    a : (((1 ≤? j.lo) && (j.lo ≤? j.hi) && (j.hi ≤? N)) ≡ true) × ((is_hi j || (j.lo =? j.hi)) ≡ true)
    a = both_hold ((1 ≤? j.lo) && (j.lo ≤? j.hi) && (j.hi ≤? N)) (is_hi j || (j.lo =? j.hi)) h

    b : (((1 ≤? j.lo) && (j.lo ≤? j.hi)) ≡ true) × ((j.hi ≤? N) ≡ true)
    b = both_hold ((1 ≤? j.lo) && (j.lo ≤? j.hi)) (j.hi ≤? N) a.0

    c : ((1 ≤? j.lo) ≡ true) × ((j.lo ≤? j.hi) ≡ true)
    c = both_hold (1 ≤? j.lo) (j.lo ≤? j.hi) b.0

-- the job of number suc k is the one at place k
pub job_no_lem : (p : Plan) (k : ℕ) → job_no p (suc k) ≡ job_at p k
job_no_lem p k = let e : suc k - 1 ≡ k = omega arith in rw e

-- the number of a job of the plan is one more than its place
pub place_of_lem : (p : Plan) (k : ℕ) → JobOf p k → (k ≡ suc (k - 1)) × (k - 1 < p.jobs)
place_of_lem p k h = let a = h.0 in let b = h.1 in (omega arith, omega arith)

-- what a table slot that holds says of the job it names
slot_says : (p : Plan) (s k : ℕ) → slot_holds p s (suc k) ≡ true → (k < p.jobs) × ((job_at p k).release ≤ s) × (s < (job_at p k).deadline)
unfolding slot_holds
slot_says p s k h =
    ⊎_elim
    (λ z. absurd (let e = eqb-true (suc k) 0 z in omega arith))
    go
    (either_true (suc k =? 0) ((suc k ≤? p.jobs) && ((job_at p k).release ≤? s) && (s <? (job_at p k).deadline)) (rw (job_no_lem p k) at h))
  where
    go : ((suc k ≤? p.jobs) && ((job_at p k).release ≤? s) && (s <? (job_at p k).deadline)) ≡ true → (k < p.jobs) × ((job_at p k).release ≤ s) × (s < (job_at p k).deadline)
    go w =
        let a = both_hold ((suc k ≤? p.jobs) && ((job_at p k).release ≤? s)) (s <? (job_at p k).deadline) w in
        let b = both_hold (suc k ≤? p.jobs) ((job_at p k).release ≤? s) a.0 in
        (leb-true (suc k) p.jobs b.0, leb-true (job_at p k).release s b.1, ltb-true s (job_at p k).deadline a.1)

-- the job at place k, among the first n
pub among_jobs : (p : Plan) (k : ℕ) → k < p.jobs → get_or (jobs_of p) k blank_job ≡ job_at p k
among_jobs p k l = get_or-take p.jobs p.job k blank_job l

module _ (p : Plan) (passes : accepted (well_formed p) ≡ true) where
  -- each check passes
  record Passed : Type 0 where
    two : accepted (check2 p) ≡ true
    three : accepted (check3 p) ≡ true
    four : accepted (check4 p) ≡ true
    five : accepted (check5 p) ≡ true
    six : accepted (check6 p) ≡ true
    seven : accepted (check7 p) ≡ true
    seventeen : accepted (check17 p) ≡ true

  -- so all pass
  all_passed : Passed
  unfolding well_formed
  all_passed =
      let a = both_accept (check2 p) (check3 p and_then check4 p and_then check5 p and_then check6 p and_then check7 p and_then check17 p) passes in
      let b = both_accept (check3 p) (check4 p and_then check5 p and_then check6 p and_then check7 p and_then check17 p) a.1 in
      let c = both_accept (check4 p) (check5 p and_then check6 p and_then check7 p and_then check17 p) b.1 in
      let d = both_accept (check5 p) (check6 p and_then check7 p and_then check17 p) c.1 in
      let e = both_accept (check6 p) (check7 p and_then check17 p) d.1 in
      let f = both_accept (check7 p) (check17 p) e.1 in
      record { two = a.0; three = b.0; four = c.0; five = d.0; six = e.0; seven = f.0; seventeen = f.1 }

  -- check 17 is among them
  pub runs_passed : accepted (check17 p) ≡ true
  runs_passed = all_passed.seventeen

  -- check 2: N is within its limits
  pub slot_limit : (1 ≤ p.slots) × (p.slots ≤ max_slots)
  unfolding check2 accepted
  slot_limit = within_limit max_slots p.slots (unless_holds SlotLimit (one_to max_slots p.slots) refl all_passed.two)

  -- check 3: n is within its limits
  pub job_limit : (1 ≤ p.jobs) × (p.jobs ≤ max_jobs)
  unfolding check3 accepted
  job_limit = within_limit max_jobs p.jobs (unless_holds JobLimit (one_to max_jobs p.jobs) refl all_passed.three)

module _ (p : Plan) (longJob : length p.job ≡ max_jobs) (longTable : length p.table ≡ max_slots) (passes : accepted (well_formed p) ≡ true) where
  -- so the list of the first n jobs has n
  long_jobs : length (jobs_of p) ≡ p.jobs
  long_jobs = length-take-le p.jobs p.job (omega (arith, job_limit p passes))

  -- check 4
  windows : (k : ℕ) → k < p.jobs → ((job_at p k).release < (job_at p k).deadline) × ((job_at p k).deadline ≤ p.slots)
  unfolding check4 accepted
  windows k l =
      let h = each_accepted (λ k j. Window k unless window_holds p.slots j) blank_job 1 (jobs_of p) (all_passed p passes).four k (rw long_jobs l) (1 + k) refl in
      let w = unless_holds (Window (1 + k)) (window_holds p.slots (get_or (jobs_of p) k blank_job)) refl h in
      window_says p.slots (job_at p k) (rw (among_jobs p k l) at w)

  -- check 5
  budgets : (k : ℕ) → k < p.jobs → (1 ≤ (job_at p k).lo) × ((job_at p k).lo ≤ (job_at p k).hi) × ((job_at p k).hi ≤ p.slots) × (is_hi (job_at p k) ≡ false → (job_at p k).lo ≡ (job_at p k).hi)
  unfolding check5 accepted
  budgets k l =
      let h = each_accepted (λ k j. Budget k unless budget_holds p.slots j) blank_job 1 (jobs_of p) (all_passed p passes).five k (rw long_jobs l) (1 + k) refl in
      let w = unless_holds (Budget (1 + k)) (budget_holds p.slots (get_or (jobs_of p) k blank_job)) refl h in
      budget_says p.slots (job_at p k) (rw (among_jobs p k l) at w)

  -- check 6
  names : (s : ℕ) → s < p.slots → (k : ℕ) → table_at p s ≡ suc k → (k < p.jobs) × ((job_at p k).release ≤ s) × (s < (job_at p k).deadline)
  unfolding check6 accepted
  names s l k e =
      let long : s < length (slots_of p) = rw (length-take-le p.slots p.table (omega (arith, slot_limit p passes))) l in
      let h = each_accepted (λ t k. TableSlot t unless slot_holds p t k) 0 0 (slots_of p) (all_passed p passes).six s long s (omega arith) in
      let w = unless_holds (TableSlot s) (slot_holds p s (get_or (slots_of p) s 0)) refl h in
      let q : get_or (slots_of p) s 0 ≡ suc k = get_or-take p.slots p.table s 0 l ∙ e in
      slot_says p s k (rw q at w)

  -- check 7
  full : (k : ℕ) → k < p.jobs → naming (suc k) (slots_of p) ≡ (job_at p k).lo
  unfolding check7 accepted
  full k l =
      let h = each_accepted (λ k j. TableCount k unless (naming k (slots_of p) =? j.lo)) blank_job 1 (jobs_of p) (all_passed p passes).seven k (rw long_jobs l) (suc k) (omega arith) in
      let w = unless_holds (TableCount (suc k)) (naming (suc k) (slots_of p) =? (get_or (jobs_of p) k blank_job).lo) refl h in
      eqb-true (naming (suc k) (slots_of p)) (job_at p k).lo (rw (among_jobs p k l) at w)

  -- a plan that passes 2 to 7 and 17 is in order; of 17 nothing is needed for that
  pub in_order : InOrder p
  in_order =
      record {
        job_array = longJob;
        table_array = longTable;
        slots = slot_limit p passes;
        jobs = job_limit p passes;
        window = λ k l. (windows k l).0;
        ends = λ k l. (windows k l).1;
        some = λ k l. (budgets k l).0;
        budget = λ k l. (budgets k l).1;
        most = λ k l. (budgets k l).2;
        low = λ k l. (budgets k l).3;
        names = names;
        full = full;
      }

module _ (p : Plan) (ok : InOrder p) where
  -- the list of the first n jobs has n
  pub jobs_length : length (jobs_of p) ≡ p.jobs
  jobs_length = length-take-le p.jobs p.job (omega (arith, ok.job_array, ok.jobs))

  -- the job at place k is one of the list
  pub job_in : (k : ℕ) → k < p.jobs → Memᴰ (job_at p k) (jobs_of p)
  job_in k l = rw (among_jobs p k l) at (member_at blank_job (jobs_of p) k (rw jobs_length l))

  -- the list of the first N slots has N
  pub slots_length : length (slots_of p) ≡ p.slots
  slots_length = length-take-le p.slots p.table (omega (arith, ok.table_array, ok.slots))

  -- so such a plan has intervals
  pub windows_hold_lem : windows_hold p ≡ true
  unfolding windows_hold
  windows_hold_lem =
      rw (le-leb 1 p.slots ok.slots.0, le-leb p.slots max_slots ok.slots.1, le-leb 1 p.jobs ok.jobs.0, le-leb p.jobs max_jobs ok.jobs.1)
      (every_true (window_holds p.slots) blank_job (jobs_of p) each)
    where
      each : (k : ℕ) → k < length (jobs_of p) → window_holds p.slots (get_or (jobs_of p) k blank_job) ≡ true
      each k l =
          let m : k < p.jobs = rw jobs_length at l in
          rw (among_jobs p k m) (window_holds_lem p.slots (job_at p k) (ok.window k m) (ok.ends k m))
