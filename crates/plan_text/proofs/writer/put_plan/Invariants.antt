-- `writer::put_plan`: the lines of the first jobs are written, and then those of the first slots.
use Rattle.std.proofs.Common.{◌≡◌, take}
use mathlib.Core.List.{◌++◌, flat_map}
use Rattle.plan.specs.Plan.{jobs_of, slots_of}
use Rattle.lines.specs.Lines.{number_line}
use Rattle.lines.specs.Writing.{put_fit, place_after}
use Rattle.plan_text.specs.Read.{job_text}
use Rattle.plan_text.specs.WriterLaws.{heads}
use Rattle.plan_text.proofs.writer.put_plan.Given as goal

abbrev pub invariant-loop-job : goal.invariant-loop-job
invariant-loop-job l =
    let text = heads l.p ++ flat_map job_text (take l.job-index (jobs_of l.p)) in
    record { place : l.sheet.at ≡ place_after 0 text l.fn.out; written : l.sheet.out.now ≡ put_fit 0 text l.fn.out; same_output : l.sheet.out.ghost_name ≡ l.initial.sheet.out.ghost_name }

abbrev pub invariant-loop-name : goal.invariant-loop-name
invariant-loop-name l =
    let text = heads l.p ++ flat_map job_text (jobs_of l.p) ++ flat_map (number_line "slot=") (take l.name-index (slots_of l.p)) in
    record { place : l.sheet.at ≡ place_after 0 text l.fn.out; written : l.sheet.out.now ≡ put_fit 0 text l.fn.out; same_output : l.sheet.out.ghost_name ≡ l.initial.sheet.out.ghost_name }
