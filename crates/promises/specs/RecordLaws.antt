-- Laws of the record: what acceptance of a step means, and that the start has a whole record and every accepted step keeps it.
use Prim.Native.Nat.{ℕ, zero, suc, ◌+◌, ◌-◌, ◌≤◌, ◌<◌, zero-le}
use Rattle.std.proofs.Common.{not-suc-le-zero, le_of_suc-le-suc, ap, ◌∙◌, get_or-take, length-take-le}
use native.Mathlib.Omega.{arith}
use Rattle.std.specs.Prelude.{◌≡◌, refl, Bool, false, ℤ, pos, negsuc, get_or, replicate}
use Rattle.std.proofs.Math.Bool.{true}
use Rattle.std.proofs.lemmas.Bool.{false≢true}
use mathlib.Core.List.{List, [], ◌∷◌, map, zip_with}
use Rattle.std.proofs.Math.ListN.{length, length-replicate}
use Rattle.std.proofs.lemmas.List.{get_or-replicate}
use borrow.Author.Tests.{eq-eqb, eqb-true, ltb-true, lt-ltb, le-leb}
use Rattle.words.specs.Words.{◌=?◌, ◌<?◌, every}
use Rattle.answers.specs.Answer.{Accepted, Incoherent, Over, OtherSlot, WrongKind, accepted, ◌unless◌, ◌and_then◌}
use Rattle.plan.specs.declared.Plan.{Plan}
use Rattle.plan.specs.Limits.{max_jobs}
use Rattle.plan.specs.Plan.{jobs_of, job_no, blank_job}
use Rattle.spares.specs.Spares.{hi_left, lo_left, same_spare, same_row}
use Rattle.acceptance.specs.Acceptance.{acceptance, check9}
use Rattle.answers.specs.RefusalLaws.{unless_holds, both_accept}
use Rattle.acceptance_promise.specs.Laws.{passes_in_order}
use Rattle.acceptance_promise.specs.AnswerLaws.{is_accepted}
use Rattle.well_formed.specs.WellFormed.{well_formed}
use Rattle.window_sums.specs.WindowSums.{check8}
use Rattle.well_formed.specs.InOrder.{InOrder, JobOf, Sized}
use Rattle.executive.specs.declared.Run.{Run}
use Rattle.ready.specs.declared.Slot.{Slot}
use Rattle.executive.specs.declared.Report.{Report}
use Rattle.entries.specs.Entry.{live, fresh_entry, standing_holds}
use Rattle.spares.specs.Work.{work_each, work_left}
use Rattle.executive.specs.Run.{entry_no, fresh_hi, hi_work, new_run, fresh_lo, lo_work, start}
use Rattle.executive.specs.Coherent.{entries_hold, coherent}
use Rattle.executive.specs.Choice.{chosen, choose, can_go_on, made_choice}
use Rattle.executive.specs.Step.{next_run, kind_fits, report_answer, step}
use Rattle.promises.specs.Told.{job_run}
use Rattle.entries.specs.declared.Kind.{Kind}
use Rattle.entries.specs.declared.Kind.TheVariants.{None}
use Rattle.promises.specs.Runs.{entry_after, Taken, Recorded}
use Rattle.promises.specs.Chosen.{Ready}
use Rattle.promises.specs.General.{joined, zip_every}
use Rattle.promises.specs.ChosenLaws.{chosen_ready}
use Rattle.promises.specs.NextLaws.{next_plan_lem, next_t, next_length, next_hi, next_lo, entry_next, holds_after}

-- ---- an accepted step

-- the answer of a step is that of its report
accepted_report : (r : Run) (report : Report) → (step r report).answer ≡ Accepted → accepted (report_answer r report) ≡ true
unfolding step
accepted_report r report = go (accepted (report_answer r report)) refl
  where
    go : (b : Bool) → accepted (report_answer r report) ≡ b → (step r report).answer ≡ Accepted → accepted (report_answer r report) ≡ true
    go true e h = e
    go false e h = is_accepted (report_answer r report) (rw e at h)

-- an accepted step hands back the next run
pub next_run_lem : (r : Run) (report : Report) → (step r report).answer ≡ Accepted → (step r report).run ≡ next_run r (chosen r) report.kind
unfolding step
next_run_lem r report h = rw (accepted_report r report h)

pub taken : (r : Run) (report : Report) → (step r report).answer ≡ Accepted → Taken r report
unfolding report_answer can_go_on accepted
taken r report h =
    let a = both_accept (can_go_on r) _ (accepted_report r report h) in
    let b = both_accept (Incoherent unless coherent r) (Over r.t unless (r.t <? r.plan.slots)) a.0 in
    let c = both_accept (OtherSlot r.t unless (report.slot =? r.t)) (WrongKind r.t unless kind_fits (chosen r) report.kind) a.1 in
    record {
      whole = unless_holds Incoherent (coherent r) refl b.0;
      more = ltb-true r.t r.plan.slots (unless_holds (Over r.t) (r.t <? r.plan.slots) refl b.1);
      slot = eqb-true report.slot r.t (unless_holds (OtherSlot r.t) (report.slot =? r.t) refl c.0);
      fits = unless_holds (WrongKind r.t) (kind_fits (chosen r) report.kind) refl c.1;
    }

-- and the other way: exactly these reports are accepted
pub taken_accepted : (r : Run) (report : Report) → Taken r report → (step r report).answer ≡ Accepted
unfolding step report_answer can_go_on accepted
taken_accepted r report w = rw (w.whole, lt-ltb r.t r.plan.slots w.more, eq-eqb report.slot r.t w.slot, w.fits)

-- the choice of a coherent run that is not over is accepted
pub choose_accepted : (r : Run) → coherent r ≡ true → r.t < r.plan.slots → choose r ≡ made_choice r
unfolding choose can_go_on accepted
choose_accepted r whole more = rw (whole, lt-ltb r.t r.plan.slots more)

-- ---- the record of a run that comes from a start

-- every row is the same as itself
same_spare_lem : (z : ℤ) → same_spare z z ≡ true
same_spare_lem (pos n) = eq-eqb n n refl
same_spare_lem (negsuc n) = eq-eqb n n refl

same_row_lem : (zs : List ℤ) → same_row zs zs ≡ true
unfolding same_row zip_with every
same_row_lem [] = refl
same_row_lem (z ∷ zs) = joined (same_spare z z) (same_row zs zs) (same_spare_lem z) (same_row_lem zs)

module _ (r : Run) (w : Recorded r) where
  -- the plan's jobs are in its array, and their entries in the run's
  pub js_fit : r.plan.jobs ≤ length r.plan.job
  js_fit = let a = w.order.jobs.1 in let b = w.sized.0 in omega arith

  pub es_fit : r.plan.jobs ≤ length r.entry
  es_fit = let a = w.order.jobs.1 in let b = w.long in omega arith

  entries_hold_lem : entries_hold r ≡ true
  unfolding entries_hold
  entries_hold_lem = zip_every (λ j e. standing_holds r.t j.hi e.given e.standing) blank_job fresh_entry (jobs_of r.plan) r.entry each
    where
      each : (i : ℕ) → i < length (jobs_of r.plan) → i < length r.entry
          → standing_holds r.t (get_or (jobs_of r.plan) i blank_job).hi (get_or r.entry i fresh_entry).given (get_or r.entry i fresh_entry).standing ≡ true
      each i l m =
          let h : i < r.plan.jobs = rw (length-take-le r.plan.jobs r.plan.job js_fit) at l in
          let e : suc i - 1 ≡ i = omega arith in
          rw (get_or-take r.plan.jobs r.plan.job i blank_job h) (rw e at (w.holds (suc i) (omega arith, h)))

  -- so it is coherent
  pub recorded_coherent : coherent r ≡ true
  unfolding coherent
  recorded_coherent =
      let hi : same_row r.hi (fresh_hi r) ≡ true = rw (← w.hi) (same_row_lem r.hi) in
      let lo : same_row r.lo (fresh_lo r) ≡ true = rw (← w.lo) (same_row_lem r.lo) in
      rw (w.well, le-leb r.t r.plan.slots w.time, entries_hold_lem, hi, lo)

  -- what is chosen is a ready job of the plan
  pub chosen_is_ready : r.t < r.plan.slots → (m : ℕ) → chosen r ≡ Slot.Job m → JobOf r.plan m × Ready r m
  chosen_is_ready more = chosen_ready r js_fit es_fit w.order more

-- a slot is job k's own where it went to job k
pub own_slot_lem : (slot : Slot) (k : ℕ) → 1 ≤ k → (job_run slot =? k) ≡ true → slot ≡ Slot.Job k
own_slot_lem Slot.Idle k l e = absurd (let z = eqb-true 0 k e in omega arith)
own_slot_lem (Slot.Job m) k l e = ap {B = Slot} Slot.Job (eqb-true m k e)

-- `none` fits no slot with a job
pub none_fits_idle : (slot : Slot) (k : ℕ) (kind : Kind) → slot ≡ Slot.Job k → kind_fits slot kind ≡ true → kind ≡ None → ⊥
unfolding kind_fits
none_fits_idle slot k kind e h q = false≢true (rw (e, q) at h)

module _ (r : Run) (w : Recorded r) (report : Report) (ok : Taken r report) where
  -- only a live job has the slot
  pub own_live : (k : ℕ) → 1 ≤ k → (job_run (chosen r) =? k) ≡ true → live (entry_no r k) ≡ true
  own_live k l e = (chosen_is_ready r w ok.more k (own_slot_lem (chosen r) k l e)).1.0

  pub own_named : (m : ℕ) → chosen r ≡ Slot.Job m → 1 ≤ m
  own_named m e = (chosen_is_ready r w ok.more m e).0.0

  -- the entry of job k in the next run
  pub next_entry : (k : ℕ) → JobOf r.plan k
      → entry_no (next_run r (chosen r) report.kind) k ≡ entry_after (r.t + 1) (job_no r.plan k) (job_run (chosen r) =? k) report.kind (entry_no r k)
  next_entry k l = entry_next r report.kind k l (es_fit r w) (chosen r) own_named (js_fit r w)

  next_holds : (k : ℕ) → JobOf r.plan k
      → standing_holds (r.t + 1) (job_no r.plan k).hi (entry_no (next_run r (chosen r) report.kind) k).given (entry_no (next_run r (chosen r) report.kind) k).standing ≡ true
  next_holds k l =
      rw (next_entry k l)
      (holds_after r.t (job_no r.plan k) (job_run (chosen r) =? k) report.kind (entry_no r k) (own_live k l.0)
      (λ e. none_fits_idle (chosen r) k report.kind (own_slot_lem (chosen r) k l.0 e) ok.fits)
      (w.holds k l))

  -- an accepted step keeps the record
  pub next_recorded : Recorded (next_run r (chosen r) report.kind)
  next_recorded =
      let plan = next_plan_lem r (chosen r) report.kind in
      let t = next_t r (chosen r) report.kind in
      record {
        well = rw plan w.well;
        sized = rw plan w.sized;
        order = rw plan w.order;
        long = next_length r (chosen r) report.kind ∙ w.long;
        time = rw (plan, t) (let m = ok.more in omega arith);
        holds = rw (plan, t) next_holds;
        hi = next_hi r (chosen r) report.kind;
        lo = next_lo r (chosen r) report.kind;
      }

-- ---- the start

-- a list joined with n copies of one thing
zip_replicate : {A B C : Type 0} (f : A → B → C) (y : B) (n : ℕ) (xs : List A) → length xs ≤ n → zip_with f xs (replicate n y) ≡ map (λ x. f x y) xs
unfolding zip_with
zip_replicate f y n [] l = refl
zip_replicate f y zero (x ∷ xs) l = absurd (not-suc-le-zero l)
zip_replicate {C = C} f y (suc n) (x ∷ xs) l = ap {B = List C} (λ t. f x y ∷ t) (zip_replicate f y n xs (le_of_suc-le-suc l))

-- an accepted start: the plan is accepted, and its run is the new one
pub start_accepted : (p : Plan) → (start p).answer ≡ Accepted → accepted (acceptance p) ≡ true
unfolding start
start_accepted p = go (accepted (acceptance p)) refl
  where
    go : (b : Bool) → accepted (acceptance p) ≡ b → (start p).answer ≡ Accepted → accepted (acceptance p) ≡ true
    go true e h = e
    go false e h = is_accepted (acceptance p) (rw e at h)

pub start_run : (p : Plan) → (start p).answer ≡ Accepted → (start p).run ≡ new_run p
unfolding start
start_run p h = rw (start_accepted p h)

pub accepted_well_formed : (p : Plan) → accepted (acceptance p) ≡ true → accepted (well_formed p) ≡ true
unfolding acceptance
accepted_well_formed p h = (both_accept (well_formed p) (check8 p and_then check9 p) h).0

module _ (p : Plan) (sz : Sized p) (well : accepted (well_formed p) ≡ true) where
  ok : InOrder p
  ok = passes_in_order p sz well

  few : length (jobs_of p) ≤ max_jobs
  few =
      let a = ok.jobs.1 in
      let b : p.jobs ≤ length p.job = (let c = sz.0 in omega arith) in
      rw (length-take-le p.jobs p.job b) a

  pub fresh_at : (k : ℕ) → JobOf p k → entry_no (new_run p) k ≡ fresh_entry
  fresh_at k l =
      let a = l.0 in
      let b = l.1 in
      let c = ok.jobs.1 in
      get_or-replicate max_jobs (k - 1) fresh_entry fresh_entry (omega arith)

  start_holds : (k : ℕ) → JobOf p k → standing_holds 0 (job_no p k).hi (entry_no (new_run p) k).given (entry_no (new_run p) k).standing ≡ true
  unfolding standing_holds
  start_holds k l = rw (fresh_at k l) (let m : k - 1 < p.jobs = (let x = l.0 in let y = l.1 in omega arith) in let a = ok.some (k - 1) m in let b = ok.budget (k - 1) m in lt-ltb 0 (job_no p k).hi (omega arith))

  pub start_recorded : Recorded (new_run p)
  unfolding fresh_hi fresh_lo hi_work work_each work_left lo_work
  start_recorded = record {
    well = well;
    sized = sz;
    order = ok;
    long = length-replicate max_jobs fresh_entry;
    time = zero-le;
    holds = start_holds;
    hi = rw (zip_replicate (λ j e. hi_left j (live e) e.given) fresh_entry max_jobs (jobs_of p) few);
    lo = rw (zip_replicate (λ j e. lo_left j (live e) e.given) fresh_entry max_jobs (jobs_of p) few);
  }
