-- `writer::numbers_fit`: the answer from this job on, and then from this slot on, is the whole answer.
use Rattle.std.proofs.Common.{◌≡◌, ◌+◌, ◌*◌, length, drop}
use mathlib.Core.List.{flat_map}
use Rattle.answers.specs.Answer.{◌and_then◌, first_refusal}
use Rattle.plan.specs.Plan.{jobs_of, slots_of}
use Rattle.plan_text.specs.Write.{numbers_fit}
use Rattle.plan_text.specs.Parts.{numbers_in, four_digits}
use Rattle.plan_text.proofs.writer.numbers_fit.Given as goal

abbrev pub invariant-loop-job : goal.invariant-loop-job
invariant-loop-job l = record {
  at_line : l.line ≡ 3 + 5 * l.job-index;
  answer : numbers_fit l.p ≡ (first_refusal four_digits l.line (flat_map numbers_in (drop l.job-index (jobs_of l.p))) and_then first_refusal four_digits (3 + 5 * length (jobs_of l.p)) (slots_of l.p));
}

abbrev pub invariant-loop-name : goal.invariant-loop-name
invariant-loop-name l = record {
  at_line : l.line ≡ 3 + 5 * length (jobs_of l.p) + l.name-index;
  answer : numbers_fit l.p ≡ first_refusal four_digits l.line (drop l.name-index (slots_of l.p));
}
