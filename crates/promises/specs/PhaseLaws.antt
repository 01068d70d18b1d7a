-- Laws of the phase, by places: overruns, and the return test.
use Rattle.std.specs.Prelude.{ℕ, zero, suc, ◌+◌, ◌-◌, ◌≤◌, ◌<◌, ◌≡◌, refl, true, false, not, ◌&&◌, List, [], ◌∷◌, length, get_or}
use Rattle.std.proofs.Common.{not-suc-le-zero, le_of_suc-le-suc, arith, ap, ◌∙◌, get_or-take, length-take-le, leb-true, leb-false}
use Rattle.std.proofs.lemmas.Bool.{false≢true, not-true}
use Rattle.words.specs.Words.{◌≤?◌}
use Rattle.plan.specs.declared.Job.{Job}
use Rattle.plan.specs.declared.Plan.{Plan}
use Rattle.plan.specs.Limits.{max_jobs}
use Rattle.plan.specs.CountLaws.{counts_length, counts_at_lem}
use Rattle.plan.specs.Plan.{jobs_of, job_no, is_hi, blank_job, counts_at}
use Rattle.well_formed.specs.InOrder.{job_at, tab, JobOf}
use Rattle.words.specs.Cases.{both_hold}
use Rattle.acceptance_promise.specs.OneSlot.{OnTable}
use Rattle.entries.specs.declared.Entry.{Entry}
use Rattle.executive.specs.declared.Phase.TheVariants.{T, H}
use Rattle.executive.specs.declared.Run.{Run}
use Rattle.executive.specs.Run.{entry_no}
use Rattle.executive.specs.Step.{overrun, every_settled, can_return}
use Rattle.ready.specs.declared.Slot.{Slot}
use Rattle.entries.specs.Entry.{live, fresh_entry, past_lo, settled}
use Rattle.promises.specs.Runs.{entry_at, given_at, live_at}

-- ---- places and numbers

pub number_place : (k : ℕ) → suc k - 1 ≡ k
number_place k = omega arith

pub job_of_place : (p : Plan) (k : ℕ) → k < p.jobs → JobOf p (suc k)
job_of_place p k l = (omega arith, l)

-- ---- overruns and the return test

pub phases_differ : H ≡ T → ⊥
phases_differ e = let z : ◌≡◌ {A = ℕ} 0 1 = cc in omega arith

-- a live HI job that is not past its lo
pub past_lo_no : (j : Job) (e : Entry) → past_lo j e ≡ false → live e ≡ true → is_hi j ≡ true → e.given < j.lo
unfolding past_lo
past_lo_no j e h alive high = leb-false j.lo e.given (rw (alive, high) at h)

-- an overrun is of a HI job
past_lo_high : (j : Job) (e : Entry) → past_lo j e ≡ true → is_hi j ≡ true
unfolding past_lo
past_lo_high j e h = (both_hold (live e) (is_hi j) (both_hold (live e && is_hi j) (j.lo ≤? e.given) h).0).1

pub overrun_of : (s : Run) (slot : Slot) (k : ℕ) → slot ≡ Slot.Job (suc k) → overrun s slot ≡ past_lo (job_at s.plan k) (entry_at s k)
unfolding overrun
overrun_of s slot k e = ap (overrun s) e ∙ (rw (number_place k))

pub overrun_job : (s : Run) (slot : Slot) → overrun s slot ≡ true → (m : ℕ) × (slot ≡ Slot.Job m) × (is_hi (job_no s.plan m) ≡ true)
unfolding overrun
overrun_job s Slot.Idle h = absurd (false≢true h)
overrun_job s (Slot.Job m) h = (m, refl, past_lo_high (job_no s.plan m) (entry_no s m) h)

-- the return test says it job by job
every_settled_lem : (js : List Job) (es : List Entry) (cs : List ℕ) → every_settled js es cs ≡ true
    → (i : ℕ) → i < length js → i < length es → i < length cs → settled (get_or js i blank_job) (get_or es i fresh_entry) (get_or cs i 0) ≡ true
unfolding every_settled
every_settled_lem [] es cs h i a b c = absurd (not-suc-le-zero a)
every_settled_lem (j ∷ js) [] cs h i a b c = absurd (not-suc-le-zero b)
every_settled_lem (j ∷ js) (e ∷ es) [] h i a b c = absurd (not-suc-le-zero c)
every_settled_lem (j ∷ js) (e ∷ es) (x ∷ cs) h zero a b c = (both_hold (settled j e x) (every_settled js es cs) h).0
every_settled_lem (j ∷ js) (e ∷ es) (x ∷ cs) h (suc i) a b c =
    every_settled_lem js es cs (both_hold (settled j e x) (every_settled js es cs) h).1 i (le_of_suc-le-suc a) (le_of_suc-le-suc b) (le_of_suc-le-suc c)

settled_says : (j : Job) (e : Entry) (count : ℕ) → settled j e count ≡ true → live e ≡ true → (count ≤ e.given) × (is_hi j ≡ true → e.given < j.lo)
unfolding settled
settled_says j e count h alive =
    let w = both_hold (count ≤? e.given) (not (past_lo j e)) (rw alive at h) in
    (leb-true count e.given w.0, λ high. past_lo_no j e (not-true (past_lo j e) w.1) alive high)

-- a run that can return is on the table
pub return_on_table : (s : Run) → s.plan.jobs ≤ length s.plan.job → s.plan.jobs ≤ length s.entry → s.plan.jobs ≤ max_jobs
    → can_return s ≡ true → OnTable s.plan s.t (given_at s) (live_at s)
unfolding can_return
return_on_table s a b c h = record { ahead = λ k l alive. (says k l alive).0; early = λ k l alive high. (says k l alive).1 high }
  where
    says : (k : ℕ) → k < s.plan.jobs → live_at s k ≡ true → (tab s.plan k s.t ≤ given_at s k) × (is_hi (job_at s.plan k) ≡ true → given_at s k < (job_at s.plan k).lo)
    says k l alive =
        let x : k < length (jobs_of s.plan) = rw (length-take-le s.plan.jobs s.plan.job a) l in
        let y : k < length (counts_at s.plan s.t) = rw (counts_length s.plan s.t) (omega arith) in
        let e : 1 + k ≡ suc k = omega arith in
        let q = every_settled_lem (jobs_of s.plan) s.entry (counts_at s.plan s.t) h k x (omega arith) y in
        settled_says (job_at s.plan k) (entry_at s k) (tab s.plan k s.t) (rw (get_or-take s.plan.jobs s.plan.job k blank_job l, counts_at_lem s.plan s.t k (omega arith), e) at q) alive
