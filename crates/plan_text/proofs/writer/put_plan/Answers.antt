-- `writer::put_plan`: the two first lines, the jobs and the slots, one after the other, each with room.
use Rattle.std.proofs.Common.{refl, ◌∙◌, arith}
use mathlib.Core.List.{◌++◌, flat_map}
use Rattle.plan.specs.Plan.{jobs_of, slots_of, blank_job}
use Rattle.lines.specs.Lines.{number_line}
use Rattle.plan_text.specs.Read.{job_text}
use Rattle.plan_text.specs.WriterLaws.{heads, jobs_room, slots_room, heads_written, many_none, many_all, many_room, many_more, plan_written}
use Rattle.plan_text.proofs.writer.put_plan.Goals as goal

pub loop-job-init : goal.loop-job-init
loop-job-init c =
    let p = c.args.p.now in
    let two = heads_written p c.args.out.now c.requires _ _ _ _ (c.line.ensures.place) (c.line.ensures.written)
    (c.line-2.ensures.place) (c.line-2.ensures.written) in
    let x = many_none job_text (jobs_of p) (heads p) c.args.out.now _ _ two.0 two.1 in
    record { place = x.0; written = x.1; same_output = refl }

pub job-requires : goal.job-requires
job-requires c =
    let p = c.args.p.now in
    rw c.first_jobs-job-items.ensures.all (many_room job_text (jobs_of p) (heads p) c.args.out.now blank_job (jobs_room p c.args.out.now c.requires)
    _ _ _ (rw c.first_jobs-job-items.ensures.all at c.loop-job-test.true) c.loop-job.invariant.place c.loop-job.invariant.written)

pub loop-job-preserved : goal.loop-job-preserved
loop-job-preserved c =
    let p = c.args.p.now in
    let x = many_more job_text (jobs_of p) (heads p) c.args.out.now blank_job (jobs_room p c.args.out.now c.requires)
    _ _ _ (rw c.first_jobs-job-items.ensures.all at c.loop-job-test.true) c.loop-job.invariant.place c.loop-job.invariant.written
    _ _ (rw c.first_jobs-job-items.ensures.all at c.job.ensures.place) (rw c.first_jobs-job-items.ensures.all at c.job.ensures.written) in
    record { place = x.0; written = x.1; same_output = c.job.ensures.same_output ∙ c.loop-job.invariant.same_output }

pub loop-name-init : goal.loop-name-init
loop-name-init c =
    let p = c.args.p.now in
    let out = c.args.out.now in
    let all = many_all job_text (jobs_of p) (heads p) out _ _ _ (rw c.first_jobs-job-items.ensures.all at c.loop-job-test.false) c.loop-job.invariant.place c.loop-job.invariant.written in
    let x = many_none (number_line "slot=") (slots_of p) (heads p ++ flat_map job_text (jobs_of p)) out _ _ all.0 all.1 in
    record { place = x.0; written = x.1; same_output = refl }

pub loop-name-preserved : goal.loop-name-preserved
loop-name-preserved c =
    let p = c.args.p.now in
    let out = c.args.out.now in
    let x = many_more (number_line "slot=") (slots_of p) (heads p ++ flat_map job_text (jobs_of p)) out 0 (slots_room p out c.requires)
    _ _ _ (rw c.slots_of-name-items.ensures.slots at c.loop-name-test.true) c.loop-name.invariant.place c.loop-name.invariant.written
    _ _ (rw c.slots_of-name-items.ensures.slots at c.line-in-loop-name.ensures.place) (rw c.slots_of-name-items.ensures.slots at c.line-in-loop-name.ensures.written) in
    record { place = x.0; written = x.1; same_output = c.line-in-loop-name.ensures.same_output ∙ c.loop-name.invariant.same_output }

pub returns-clause-value : goal.returns-clause-value
returns-clause-value c =
    let p = c.args.p.now in
    let out = c.args.out.now in
    let all = many_all (number_line "slot=") (slots_of p) (heads p ++ flat_map job_text (jobs_of p)) out
    _ _ _ (rw c.slots_of-name-items.ensures.slots at c.loop-name-test.false) c.loop-name.invariant.place c.loop-name.invariant.written in
    (plan_written p out c.requires _ _ all.0 all.1).0

pub returns-clause-out_after : goal.returns-clause-out_after
returns-clause-out_after c =
    let p = c.args.p.now in
    let out = c.args.out.now in
    let all = many_all (number_line "slot=") (slots_of p) (heads p ++ flat_map job_text (jobs_of p)) out
    _ _ _ (rw c.slots_of-name-items.ensures.slots at c.loop-name-test.false) c.loop-name.invariant.place c.loop-name.invariant.written in
    let x = (plan_written p out c.requires _ _ all.0 all.1).1 in
    let n = c.loop-name.invariant.same_output ∙ c.loop-job.invariant.same_output ∙ c.line-2.ensures.same_output ∙ c.line.ensures.same_output in
    grind (arith, x, n)
