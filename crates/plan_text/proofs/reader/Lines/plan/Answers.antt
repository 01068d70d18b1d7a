-- `Lines::plan`: the lines of a plan one after the other; the first that is refused is the answer.
use Rattle.std.specs.Prelude.{◌≡◌, ◌+◌, ◌*◌, is_ok, ◌≤◌, List, ℕ, ◌++◌, length, take, drop, replicate}
use Rattle.std.proofs.Common.{arith, sym, ap, ◌∙◌}
use Rattle.std.proofs.lemmas.Result.{err_from_is_err_and}
use Rattle.answers.specs.Answer.{accepted}
use Rattle.plan.specs.declared.Job.{Job}
use Rattle.plan.specs.declared.Plan.{Plan}
use Rattle.plan.specs.Limits.{max_slots, max_jobs}
use Rattle.plan.specs.Plan.{blank_job, blank_plan}
use Rattle.words.specs.Words.{filled}
use Rattle.lines.specs.Lines.{many, number, field}
use Rattle.plan_text.specs.Read.{next_job, next_plan}
use Rattle.plan_text.specs.Reader.{plan_lines, read_into}
use Rattle.plan_text.specs.RoundLaws.{one_to_lem, limit_slots, limit_jobs}
use Rattle.plan_text.specs.ReaderLaws.{wider, must_reads, goes_on, stops, given, reads_part, part_long, part_fills}
use Rattle.plan_text.proofs.reader.Lines.plan.Goals as goal
use Rattle.plan_text.proofs.reader.Lines.plan.Goals.{In_ok-slots, In_ok-slot_limit, In_ok-jobs, In_ok-job_limit}

-- the plan of arrays that are the same
plan_made : (slots jobs : ℕ) {job job' : List Job} {table table' : List ℕ} → job ≡ job' → table ≡ table'
    → ◌≡◌ {A = Plan} (record { slots = slots; jobs = jobs; job = job; table = table }) (record { slots = slots; jobs = jobs; job = job'; table = table' })
plan_made slots jobs e f = rw (e, f)

-- the arrays of a blank plan
job_blank : (p : Plan) → p ≡ blank_plan → p.job ≡ replicate max_jobs blank_job
job_blank p e = ap (λ (q : Plan). q.job) e

table_blank : (p : Plan) → p ≡ blank_plan → p.table ≡ replicate max_slots 0
table_blank p e = ap (λ (q : Plan). q.table) e

slots_few : (c : In_ok-slot_limit) → c.in_ok-slots.slots ≤ max_slots
unfolding accepted
slots_few c = (one_to_lem max_slots _ (limit_slots _ (ap accepted (sym c.slot_limit.ensures ∙ c.in_ok-slot_limit.was)))).1

jobs_few : (c : In_ok-job_limit) → c.in_ok-jobs.jobs ≤ max_jobs
unfolding accepted
jobs_few c = (one_to_lem max_jobs _ (limit_jobs _ (ap accepted (sym c.job_limit.ensures ∙ c.in_ok-job_limit.was)))).1

pub returns-in_err-slots : goal.returns-in_err-slots
unfolding next_plan field
returns-in_err-slots c =
    let p = err_from_is_err_and c.from_residual.result c.from_residual.ensures.1 in
    rw (p.1, p.2)
    (wider _ plan_lines (omega (arith))
    (stops _ _ 1 0 c.number.ensures c.in_err-slots.was))

pub returns-in_err-slot_limit : goal.returns-in_err-slot_limit
unfolding next_plan field
returns-in_err-slot_limit c =
    let p = err_from_is_err_and c.from_residual-in_err-slot_limit.result c.from_residual-in_err-slot_limit.ensures.1 in
    rw (p.1, p.2)
    (wider _ plan_lines (omega (arith))
    (goes_on _ _ 1 (0 + 0) c.number.ensures c.in_ok-slots.was
    (stops _ _ 0 0 (must_reads _ _ c.slot_limit.ensures (c.number.ensures.within (ap is_ok c.in_ok-slots.was))) c.in_err-slot_limit.was)))

pub returns-in_err-jobs : goal.returns-in_err-jobs
unfolding next_plan field
returns-in_err-jobs c =
    let p = err_from_is_err_and c.from_residual-in_err-jobs.result c.from_residual-in_err-jobs.ensures.1 in
    rw (p.1, p.2)
    (wider _ plan_lines (omega (arith))
    (goes_on _ _ 1 (0 + (1 + 0)) c.number.ensures c.in_ok-slots.was
    (goes_on _ _ 0 (1 + 0) (must_reads _ _ c.slot_limit.ensures (c.number.ensures.within (ap is_ok c.in_ok-slots.was))) c.in_ok-slot_limit.was
    (stops _ _ 1 0 c.number-2.ensures c.in_err-jobs.was))))

pub returns-in_err-job_limit : goal.returns-in_err-job_limit
unfolding next_plan field
returns-in_err-job_limit c =
    let p = err_from_is_err_and c.from_residual-in_err-job_limit.result c.from_residual-in_err-job_limit.ensures.1 in
    rw (p.1, p.2)
    (wider _ plan_lines (omega (arith))
    (goes_on _ _ 1 (0 + (1 + (0 + 0))) c.number.ensures c.in_ok-slots.was
    (goes_on _ _ 0 (1 + (0 + 0)) (must_reads _ _ c.slot_limit.ensures (c.number.ensures.within (ap is_ok c.in_ok-slots.was))) c.in_ok-slot_limit.was
    (goes_on _ _ 1 (0 + 0) c.number-2.ensures c.in_ok-jobs.was
    (stops _ _ 0 0 (must_reads _ _ c.job_limit.ensures (c.number-2.ensures.within (ap is_ok c.in_ok-jobs.was))) c.in_err-job_limit.was)))))

pub returns-in_err-jobs-2 : goal.returns-in_err-jobs-2
unfolding next_plan field
returns-in_err-jobs-2 c =
    let at = goal.at.returns-in_err-jobs-2 c in
    let few = jobs_few at.In_ok-job_limit in
    let part : length (take c.from.result c.args.plan.now.job) ≡ c.in_ok-jobs.jobs = rw (job_blank _ c.requires.blank) (part_long c.in_ok-jobs.jobs max_jobs c.from.result blank_job few c.from.ensures) in
    let p = err_from_is_err_and c.from_residual-in_err-jobs-2.result c.from_residual-in_err-jobs-2.ensures.1 in
    rw (p.1, p.2)
    (wider _ plan_lines (omega (arith, few))
    (goes_on _ _ 1 (0 + (1 + (0 + (5 * c.in_ok-jobs.jobs + 0)))) c.number.ensures c.in_ok-slots.was
    (goes_on _ _ 0 (1 + (0 + (5 * c.in_ok-jobs.jobs + 0))) (must_reads _ _ c.slot_limit.ensures (c.number.ensures.within (ap is_ok c.in_ok-slots.was))) c.in_ok-slot_limit.was
    (goes_on _ _ 1 (0 + (5 * c.in_ok-jobs.jobs + 0)) c.number-2.ensures c.in_ok-jobs.was
    (goes_on _ _ 0 (5 * c.in_ok-jobs.jobs + 0) (must_reads _ _ c.job_limit.ensures (c.number-2.ensures.within (ap is_ok c.in_ok-jobs.was))) c.in_ok-job_limit.was
    (stops _ _ _ 0 (reads_part (λ n. many n next_job) (λ n. 5 * n) c.in_ok-jobs.jobs _ part c.jobs.ensures) (ap (read_into c.jobs.new.jobs) c.in_err-jobs-2.was)))))))

pub returns-in_err-slots-2 : goal.returns-in_err-slots-2
unfolding next_plan field
returns-in_err-slots-2 c =
    let at = goal.at.returns-in_err-slots-2 c in
    let few_jobs = jobs_few at.In_ok-job_limit in
    let few_slots = slots_few at.In_ok-slot_limit in
    let jobs : length (take c.from.result c.args.plan.now.job) ≡ c.in_ok-jobs.jobs = rw (job_blank _ c.requires.blank) (part_long c.in_ok-jobs.jobs max_jobs c.from.result blank_job few_jobs c.from.ensures) in
    let slots : length (take c.from-2.result c.args.plan.now.table) ≡ c.in_ok-slots.slots = rw (table_blank _ c.requires.blank) (part_long {A = ℕ} c.in_ok-slots.slots max_slots c.from-2.result 0 few_slots c.from-2.ensures) in
    let p = err_from_is_err_and c.from_residual-in_err-slots-2.result c.from_residual-in_err-slots-2.ensures.1 in
    rw (p.1, p.2)
    (wider _ plan_lines (omega (arith, few_jobs, few_slots))
    (goes_on _ _ 1 (0 + (1 + (0 + (5 * c.in_ok-jobs.jobs + (c.in_ok-slots.slots + 0))))) c.number.ensures c.in_ok-slots.was
    (goes_on _ _ 0 (1 + (0 + (5 * c.in_ok-jobs.jobs + (c.in_ok-slots.slots + 0)))) (must_reads _ _ c.slot_limit.ensures (c.number.ensures.within (ap is_ok c.in_ok-slots.was))) c.in_ok-slot_limit.was
    (goes_on _ _ 1 (0 + (5 * c.in_ok-jobs.jobs + (c.in_ok-slots.slots + 0))) c.number-2.ensures c.in_ok-jobs.was
    (goes_on _ _ 0 (5 * c.in_ok-jobs.jobs + (c.in_ok-slots.slots + 0)) (must_reads _ _ c.job_limit.ensures (c.number-2.ensures.within (ap is_ok c.in_ok-jobs.was))) c.in_ok-job_limit.was
    (goes_on _ _ _ (c.in_ok-slots.slots + 0) (reads_part (λ n. many n next_job) (λ n. 5 * n) c.in_ok-jobs.jobs _ jobs c.jobs.ensures) (ap (read_into c.jobs.new.jobs) c.in_ok-jobs-2.was)
    (stops _ _ _ 0 (reads_part (λ n. many n (field number "slot=")) (λ n. n) c.in_ok-slots.slots _ slots c.slots.ensures) (ap (read_into c.slots.new.slots) c.in_err-slots-2.was))))))))

pub returns : goal.returns
unfolding next_plan field
returns c =
    let at = goal.at.returns c in
    let few_jobs = jobs_few at.In_ok-job_limit in
    let few_slots = slots_few at.In_ok-slot_limit in
    let jobs : length (take c.from.result c.args.plan.now.job) ≡ c.in_ok-jobs.jobs = rw (job_blank _ c.requires.blank) (part_long c.in_ok-jobs.jobs max_jobs c.from.result blank_job few_jobs c.from.ensures) in
    let slots : length (take c.from-2.result c.args.plan.now.table) ≡ c.in_ok-slots.slots = rw (table_blank _ c.requires.blank) (part_long {A = ℕ} c.in_ok-slots.slots max_slots c.from-2.result 0 few_slots c.from-2.ensures) in
    let job : c.jobs.new.jobs ++ drop c.from.result c.args.plan.now.job ≡ filled max_jobs blank_job c.jobs.new.jobs = rw (job_blank _ c.requires.blank) (part_fills c.in_ok-jobs.jobs max_jobs c.from.result blank_job few_jobs c.from.ensures c.jobs.new.jobs (rw (job_blank _ c.requires.blank) at c.jobs.auto.jobs)) in
    let table : c.slots.new.slots ++ drop c.from-2.result c.args.plan.now.table ≡ filled max_slots 0 c.slots.new.slots = rw (table_blank _ c.requires.blank) (part_fills c.in_ok-slots.slots max_slots c.from-2.result 0 few_slots c.from-2.ensures c.slots.new.slots (rw (table_blank _ c.requires.blank) at c.slots.auto.slots)) in
    let read_slots = reads_part (λ n. many n (field number "slot=")) (λ n. n) c.in_ok-slots.slots _ slots c.slots.ensures in
    wider _ plan_lines (omega (arith, few_jobs, few_slots))
    (goes_on _ _ 1 (0 + (1 + (0 + (5 * c.in_ok-jobs.jobs + (c.in_ok-slots.slots + 0))))) c.number.ensures c.in_ok-slots.was
    (goes_on _ _ 0 (1 + (0 + (5 * c.in_ok-jobs.jobs + (c.in_ok-slots.slots + 0)))) (must_reads _ _ c.slot_limit.ensures (c.number.ensures.within (ap is_ok c.in_ok-slots.was))) c.in_ok-slot_limit.was
    (goes_on _ _ 1 (0 + (5 * c.in_ok-jobs.jobs + (c.in_ok-slots.slots + 0))) c.number-2.ensures c.in_ok-jobs.was
    (goes_on _ _ 0 (5 * c.in_ok-jobs.jobs + (c.in_ok-slots.slots + 0)) (must_reads _ _ c.job_limit.ensures (c.number-2.ensures.within (ap is_ok c.in_ok-jobs.was))) c.in_ok-job_limit.was
    (goes_on _ _ _ (c.in_ok-slots.slots + 0) (reads_part (λ n. many n next_job) (λ n. 5 * n) c.in_ok-jobs.jobs _ jobs c.jobs.ensures) (ap (read_into c.jobs.new.jobs) c.in_ok-jobs-2.was)
    (goes_on _ _ _ 0 read_slots (ap (read_into c.slots.new.slots) c.in_ok-slots-2.was)
    (given _ (plan_made _ _ job table) (c.slots.ensures.within (ap (λ r. is_ok (read_into c.slots.new.slots r)) c.in_ok-slots-2.was)))))))))
