-- `check6` meets its contract: the answer from slot t on is the whole answer, and the counts are those of border t.
use Rattle.std.proofs.Common.{arith, ℕ, ◌≡◌, ◌≤◌, ◌<◌, ◌-◌, ◌+◌, List, length, drop, get_or, refl, sym, ap, ◌∙◌, length-take-le, get_or-take}
use Rattle.std.specs.Prelude.{Bool, ◌&&◌, ◌||◌}
use borrow.Author.Rules.{rules}
use borrow.Author.Tests.{lt-leb, eq-eqb}
use Rattle.words.specs.Words.{◌≤?◌, ◌<?◌, ◌=?◌}
use Rattle.words.specs.Cases.{by_less}
use Rattle.words.specs.ListLaws.{long}
use Rattle.answers.specs.declared.Refusal.{Refusal}
use Rattle.answers.specs.SliceLaws.{slice_keeps, slice_breaks, slice_ends}
use Rattle.plan.specs.declared.Job.{Job}
use Rattle.plan.specs.declared.Plan.{Plan}
use Rattle.plan.specs.Limits.{max_slots, max_jobs}
use Rattle.plan.specs.Plan.{blank_job, jobs_of, slots_of, counts_at}
use Rattle.plan.specs.Counts.{counted_with}
use Rattle.plan.specs.CountLaws.{counts_start, counts_on}
use Rattle.well_formed.specs.WellFormed.{slot_holds, check6}
use Rattle.well_formed.specs.RunWords.{runs_with, runs_from}
use Rattle.well_formed.specs.RunLaws.{runs_on, runs_end}
use Rattle.well_formed.proofs.check6.Invariants.{judge}
use Rattle.well_formed.proofs.check6.Goals as goal

-- the entry of slot t judged by the plan's jobs is the rule of slot t
holds : (p : Plan) (t k : ℕ) → p.jobs ≤ length p.job
    → ((k =? 0) || ((k ≤? length (jobs_of p)) && ((get_or (jobs_of p) (k - 1) blank_job).release ≤? t) && (t <? (get_or (jobs_of p) (k - 1) blank_job).deadline))) ≡ slot_holds p t k
unfolding slot_holds
holds p t k few =
    let size : length (jobs_of p) ≡ p.jobs = length-take-le p.jobs p.job few in
    by_less p.jobs k
    (λ above. rw (size, lt-leb k p.jobs above))
    (λ among. by_less k 1
    (λ none. rw (eq-eqb k 0 (omega arith)))
    (λ one. rw (size, get_or-take p.jobs p.job (k - 1) blank_job (omega arith))))

-- slot t of a plan within its limits, with i its place in the table and js the plan's jobs
record Turn (p : Plan) (t i : ℕ) (js : List Job) : Type 0 where
  place : i ≡ t
  jobs : js ≡ jobs_of p
  all_jobs : length p.job ≡ max_jobs
  all_slots : length p.table ≡ max_slots
  limits : (p.slots ≤ max_slots) × (p.jobs ≤ max_jobs)
  one_left : t < p.slots

module _ (p : Plan) (t i : ℕ) (js : List Job) (h : Turn p t i js) where
  within : t < length (slots_of p)
  within = let m : length (slots_of p) ≡ p.slots = length-take-le p.slots p.table (omega arith) in omega arith

  entry : get_or p.table i 0 ≡ get_or (slots_of p) t 0
  entry = rw h.place (sym (get_or-take p.slots p.table t 0 h.one_left))

  tested : (b : Bool) → b ≡ ((get_or p.table i 0 =? 0) || ((get_or p.table i 0 ≤? length js) && ((get_or js (get_or p.table i 0 - 1) blank_job).release ≤? t) && (t <? (get_or js (get_or p.table i 0 - 1) blank_job).deadline))) → slot_holds p t (get_or (slots_of p) t 0) ≡ b
  tested b q = rw (← entry) (sym (q ∙ rw h.jobs (holds p t (get_or p.table i 0) (omega (arith, h.all_jobs, h.limits.1)))))

  counts_next : (counts : List ℕ) → counts ≡ counts_at p t → counted_with counts (get_or p.table i 0) ≡ counts_at p (t + 1)
  counts_next counts e = rw h.place (counts_on p t counts e (omega arith) (omega arith))

  runs_next : (before : ℕ) (runs : List ℕ) → runs_from (get_or p.table i 0) (runs_with runs before (get_or p.table i 0)) (drop (t + 1) (slots_of p)) ≡ runs_from before runs (drop t (slots_of p))
  runs_next before runs = rw h.place (runs_on p.table p.slots t before runs (omega arith) h.one_left)

pub loop-t-init : goal.loop-t-init
loop-t-init c = record { counted = counts_start _; judged = refl; runs_counted = refl }

pub returns-then-not-entry_holds : goal.returns-then-not-entry_holds
unfolding check6
returns-then-not-entry_holds c =
    let p = c.args.p.now in
    let t = c.loop-t.t in
    let h : Turn c.args.p.now c.loop-t.t c.from.result c.jobs_of-jobs.result.now =
    record { place = c.from.ensures; jobs = c.jobs_of-jobs.ensures.jobs; all_jobs = search (rules, long); all_slots = search rules; limits = c.requires; one_left = c.loop-t-test.true }
    in
    sym
    (slice_breaks (λ s k. Refusal.TableSlot s) (slot_holds p) (slots_of p) t t 0 (within _ _ _ _ h) (tested _ _ _ _ h _ c.entry_holds.ensures ∙ c.if-not-entry_holds.true)
    ∙ c.loop-t.invariant.judged)

pub loop-t-preserved : goal.loop-t-preserved
loop-t-preserved c =
    let p = c.args.p.now in
    let t = c.loop-t.t in
    let h : Turn c.args.p.now c.loop-t.t c.from.result c.jobs_of-jobs.result.now =
    record { place = c.from.ensures; jobs = c.jobs_of-jobs.ensures.jobs; all_jobs = search (rules, long); all_slots = search rules; limits = c.requires; one_left = c.loop-t-test.true }
    in
    record {
      counted = c.count_slot.ensures ∙ counts_next _ _ _ _ h _ c.loop-t.invariant.counted;
      judged = slice_keeps (λ s k. Refusal.TableSlot s) (slot_holds p) (slots_of p) t t 0 (within _ _ _ _ h) (tested _ _ _ _ h _ c.entry_holds.ensures ∙ c.if-not-entry_holds.false)
          ∙ c.loop-t.invariant.judged;
      runs_counted = rw c.count_run.ensures (runs_next _ _ _ _ h c.loop-t.before c.loop-t.runs ∙ c.loop-t.invariant.runs_counted);
    }

pub returns : goal.returns
unfolding check6
returns c =
    let p = c.args.p.now in
    let all : length c.args.p.now.table ≡ max_slots = search rules in
    let long_enough : c.args.p.now.slots ≤ length c.args.p.now.table = omega arith in
    let none_left : length (slots_of c.args.p.now) ≤ c.loop-t.t = (let n : length (slots_of c.args.p.now) ≡ c.args.p.now.slots = length-take-le p.slots p.table long_enough in omega arith) in (
      sym (slice_ends (judge p) (slots_of p) c.loop-t.t c.loop-t.t none_left ∙ c.loop-t.invariant.judged),
      c.loop-t.invariant.counted ∙ ap (counts_at p) (omega arith),
      runs_end p.table p.slots c.loop-t.t c.loop-t.before c.loop-t.runs long_enough c.loop-t-test.false ∙ c.loop-t.invariant.runs_counted,
    )
