-- `check6` meets its contract: the answer from slot t on is the whole answer, and the counts are those of border t.
use Rattle.std.proofs.Common.{ℕ, ◌≡◌, drop}
use Rattle.answers.specs.Answer.{Answer, TableSlot, first_refusal, ◌unless◌}
use Rattle.plan.specs.declared.Plan.{Plan}
use Rattle.plan.specs.Plan.{slots_of, counts_at}
use Rattle.well_formed.specs.WellFormed.{slot_holds}
use Rattle.well_formed.specs.RunWords.{no_runs, runs_from}
use Rattle.well_formed.proofs.check6.Given as goal

abbrev pub judge : Plan → ℕ → ℕ → Answer
judge p t k = TableSlot t unless slot_holds p t k

abbrev pub invariant-loop-t : goal.invariant-loop-t
invariant-loop-t l = record {
  counted : l.counts ≡ counts_at l.p l.t;
  judged : first_refusal (judge l.p) l.t (drop l.t (slots_of l.p)) ≡ first_refusal (judge l.p) 0 (slots_of l.p);
  runs_counted : runs_from l.before l.runs (drop l.t (slots_of l.p)) ≡ runs_from 0 no_runs (slots_of l.p);
}
