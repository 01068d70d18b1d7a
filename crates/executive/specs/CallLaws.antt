-- Laws of the calls on a run, one for each way out: a refusal hands back what its definition says, a run that goes on the rest.
use Rattle.std.specs.Prelude.{◌<◌, ◌≡◌, Err}
use Rattle.std.proofs.Math.Bool.{true, false}
use Rattle.std.proofs.Common.{ap, lt-ltb}
use Rattle.words.specs.Words.{◌<?◌, ◌=?◌}
use Rattle.answers.specs.declared.Refusal.{Refusal}
use Rattle.answers.specs.Answer.{Accepted, Incoherent, Over, OtherSlot, WrongKind, accepted}
use Rattle.executive.specs.declared.Run.{Run}
use Rattle.executive.specs.declared.Report.{Report}
use Rattle.executive.specs.declared.Choice.{Choice}
use Rattle.executive.specs.declared.Stepped.{Stepped}
use Rattle.executive.specs.Coherent.{coherent}
use Rattle.executive.specs.Choice.{chosen, can_go_on, made_choice, no_choice, choose}
use Rattle.executive.specs.Step.{next_run, refused_step, kind_fits, report_answer, step}

-- the slot of a choice is the chosen one
pub slot_chosen : (r : Run) (made : Choice) → made ≡ made_choice r → made.slot ≡ chosen r
unfolding made_choice
slot_chosen r made e = ap (λ (x : Choice). x.slot) e

module _ (r : Run) where
  -- ---- 10, then 11
  pub is_incoherent : coherent r ≡ false → Incoherent ≡ can_go_on r
  unfolding can_go_on accepted
  is_incoherent p = rw p

  pub is_over : coherent r ≡ true → (r.t <? r.plan.slots) ≡ false → Over r.t ≡ can_go_on r
  unfolding can_go_on accepted
  is_over p q = rw (p, q)

  -- ---- the run cannot go on
  module _ (e : Refusal) (no : Err e ≡ can_go_on r) where
    pub choice_refused : no_choice (Err e) ≡ choose r
    unfolding choose accepted
    choice_refused = rw (← no)

    pub step_refused : (report : Report) → refused_step r (Err e) ≡ step r report
    unfolding step report_answer accepted
    step_refused report = rw (← no)

  -- ---- it can
  module _ (ok : coherent r ≡ true) (before : r.t < r.plan.slots) where
    goes : can_go_on r ≡ Accepted
    unfolding can_go_on accepted
    goes = rw (ok, lt-ltb r.t r.plan.slots before)

    pub choice_made : made_choice r ≡ choose r
    unfolding choose accepted
    choice_made = rw goes

    module _ (report : Report) where
      pub other_refused : (report.slot =? r.t) ≡ false → refused_step r (OtherSlot r.t) ≡ step r report
      unfolding step report_answer accepted
      other_refused q = rw (goes, q)

      module _ (same : (report.slot =? r.t) ≡ true) (made : Choice) (em : made ≡ made_choice r) where
        pub kind_refused : kind_fits made.slot report.kind ≡ false → refused_step r (WrongKind r.t) ≡ step r report
        unfolding step report_answer accepted
        kind_refused q =
            let q' : kind_fits (chosen r) report.kind ≡ false = rw (slot_chosen r made em) at q in
            rw (goes, same, q')

        pub stepped : kind_fits made.slot report.kind ≡ true → (next : Run) → next ≡ next_run r made.slot report.kind → ◌≡◌ {A = Stepped} (record { answer = Accepted; run = next; choice = made }) (step r report)
        unfolding step report_answer accepted
        stepped q next en =
            let q' : kind_fits (chosen r) report.kind ≡ true = rw (slot_chosen r made em) at q in
            let n : next ≡ next_run r (chosen r) report.kind = rw (slot_chosen r made em) at en in
            rw (goes, same, q', n, em)
