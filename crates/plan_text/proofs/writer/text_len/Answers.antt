-- `writer::text_len`: the lengths of the jobs' lines and of the slots' lines are summed up, and both sums are small.
use Rattle.std.proofs.Common.{◌+◌, ◌*◌, ◌<◌, length, arith, rules}
use Rattle.std.proofs.lemmas.Iterator.{YieldsList-from_slice, YieldsList-from_map}
use Rattle.std.proofs.lemmas.Iterator.Adapters.{fits_from_length, at_most_from_yields_List}
use Rattle.std.proofs.lemmas.Iterator.Consumers.{sum_by_from_yields_List}
use Rattle.lines.specs.Lines.{number_line}
use Rattle.plan.specs.Limits.{max_slots, max_jobs}
use Rattle.plan.specs.Plan.{jobs_of, slots_of}
use Rattle.plan_text.specs.Read.{job_text}
use Rattle.plan_text.specs.WriterLaws.{text_length}
use Rattle.plan_text.proofs.writer.text_len.Goals as goal

pub sum-jobs-requires-clause-fits : goal.sum-jobs-requires-clause-fits
sum-jobs-requires-clause-fits c =
    fits_from_length _ _ max_jobs _ (at_most_from_yields_List (YieldsList-from_slice c.iter.result.rest.now cc) (grind arith)) c.map.ensures.closure (omega arith) (λ x r q k. search rules)

pub sum-slots-requires-clause-fits : goal.sum-slots-requires-clause-fits
sum-slots-requires-clause-fits c =
    fits_from_length _ _ max_slots _ (at_most_from_yields_List (YieldsList-from_slice c.iter-2.result.rest.now cc) (grind arith)) c.map-2.ensures.closure (omega arith) (λ x r q k. search rules)

jobs_small : (c : goal.After-digit_count-2) → c.sum-jobs.result < 56 * max_jobs + 1
jobs_small c =
    let p = c.sum-jobs.ensures.runs tt in
    let h = fits_from_length _ _ max_jobs (56 * max_jobs + 1) (at_most_from_yields_List (YieldsList-from_slice c.iter.result.rest.now cc) (grind arith)) c.map.ensures.closure (omega arith) (λ x r q k. search rules) p.0 p.0.seen p.1 in
    rw p.3 h

slots_small : (c : goal.After-digit_count-2) → c.sum-slots.result < 11 * max_slots + 1
slots_small c =
    let p = c.sum-slots.ensures.runs tt in
    let h = fits_from_length _ _ max_slots (11 * max_slots + 1) (at_most_from_yields_List (YieldsList-from_slice c.iter-2.result.rest.now cc) (grind arith)) c.map-2.ensures.closure (omega arith) (λ x r q k. search rules) p.0 p.0.seen p.1 in
    rw p.3 h

pub overflow_add-result-3 : goal.overflow_add-result-3
overflow_add-result-3 c = omega (arith, jobs_small c)

pub overflow_add-result-4 : goal.overflow_add-result-4
overflow_add-result-4 c = omega (arith, jobs_small c, slots_small c)

pub returns : goal.returns
returns c =
    let s = sum_by_from_yields_List (λ j. length (job_text j)) (jobs_of c.args.p.now) _ c.sum-jobs.result c.sum-jobs.ensures.ran (YieldsList-from_map _ (λ j. length (job_text j)) (YieldsList-from_slice (jobs_of c.args.p.now) (grind arith)) c.map.ensures.closure (λ x r q k. search rules)) in
    let t = sum_by_from_yields_List (λ n. length (number_line "slot=" n)) (slots_of c.args.p.now) _ c.sum-slots.result c.sum-slots.ensures.ran (YieldsList-from_map _ (λ n. length (number_line "slot=" n)) (YieldsList-from_slice (slots_of c.args.p.now) (grind arith)) c.map-2.ensures.closure (λ x r q k. search rules)) in
    omega (arith, text_length c.args.p.now)
