-- `well_formed` meets its contract: a refusal is the whole answer, and past an acceptance the rest is.
use Prim.Native.Nat.{◌≤◌}
use mathlib.Core.Path.{◌≡◌, refl, sym, ap, ◌∙◌}
use Rattle.answers.specs.Answer.{Answer, Accepted, accepted, ◌and_then◌}
use Rattle.answers.specs.AnswerLaws.{goes_on, stops}
use Rattle.plan.specs.Limits.{max_slots, max_jobs}
use Rattle.plan.specs.Rules.{check2, check3}
use Rattle.well_formed.specs.WellFormed.{check4, check5, check6, check7, well_formed}
use Rattle.well_formed.proofs.Laws.{limit_holds}
use Rattle.std.proofs.lemmas.Result.{err_from_is_err_and}
use Rattle.well_formed.proofs.well_formed.Goals as goal
use Rattle.well_formed.proofs.well_formed.Goals.{In_ok-slot_limit, In_ok-job_limit, In_ok-check4, In_ok-check5, In_ok-scanned, In_ok-check7, After-check7}

-- past a check it has accepted
ok2 : (c : In_ok-slot_limit) → check2 c.args.p ≡ Accepted
unfolding check2
ok2 c = sym c.slot_limit.ensures ∙ c.in_ok-slot_limit.was

ok3 : (c : In_ok-job_limit) → check3 c.args.p ≡ Accepted
unfolding check3
ok3 c = sym c.job_limit.ensures ∙ c.in_ok-job_limit.was

ok4 : (c : In_ok-check4) → check4 c.args.p ≡ Accepted
ok4 c = sym c.check4.ensures ∙ c.in_ok-check4.was

ok5 : (c : In_ok-check5) → check5 c.args.p ≡ Accepted
ok5 c = sym c.check5.ensures ∙ c.in_ok-check5.was

ok6 : (c : In_ok-scanned) → check6 c.args.p ≡ Accepted
ok6 c = c.in_ok-scanned.ensures.0

-- past checks 2 and 3 the limits hold
slots_fit : (c : In_ok-slot_limit) → c.args.p.slots ≤ max_slots
unfolding accepted check2
slots_fit c = limit_holds _ _ _ refl (ap accepted (ok2 c))

jobs_fit : (c : In_ok-job_limit) → c.args.p.jobs ≤ max_jobs
unfolding accepted check3
jobs_fit c = limit_holds _ _ _ refl (ap accepted (ok3 c))

-- and the rest is the answer
past3 : (c : In_ok-job_limit) (rest : Answer) → rest ≡ (check2 c.args.p and_then check3 c.args.p and_then rest)
past3 c rest = goes_on _ _ (ok3 c) ∙ goes_on _ _ (ok2 (goal.at.In_ok-job_limit c).In_ok-slot_limit)

past5 : (c : In_ok-check5) (rest : Answer) → rest ≡ (check2 c.args.p and_then check3 c.args.p and_then check4 c.args.p and_then check5 c.args.p and_then rest)
past5 c rest = let at = goal.at.In_ok-check5 c in goes_on _ _ (ok5 c) ∙ goes_on _ _ (ok4 at.In_ok-check4) ∙ past3 at.In_ok-job_limit _

-- check 7 has the counts of the whole table
named : (c : After-check7) → c.check7.result ≡ check7 c.args.p
named c = c.check7.ensures c.in_ok-scanned.ensures.1

past7 : (c : In_ok-check7) (rest : Answer) →
    let p = c.args.p in
    rest ≡ (check2 p and_then check3 p and_then check4 p and_then check5 p and_then check6 p and_then check7 p and_then rest)
past7 c rest =
    let at = goal.at.In_ok-check7 c in
    goes_on _ _ (sym (named at.After-check7) ∙ c.in_ok-check7.was) ∙ goes_on _ _ (ok6 at.In_ok-scanned) ∙ past5 at.In_ok-check5 _

pub returns-in_err-slot_limit : goal.returns-in_err-slot_limit
unfolding well_formed check2
returns-in_err-slot_limit c =
    let p = err_from_is_err_and c.from_residual.result c.from_residual.ensures.1 in
    rw (p.1, p.2) (stops _ _ _ (sym c.slot_limit.ensures ∙ c.in_err-slot_limit.was))

pub returns-in_err-job_limit : goal.returns-in_err-job_limit
unfolding well_formed check3
returns-in_err-job_limit c =
    let p = err_from_is_err_and c.from_residual-in_err-job_limit.result c.from_residual-in_err-job_limit.ensures.1 in
    rw (p.1, p.2) (stops _ _ _ (sym c.job_limit.ensures ∙ c.in_err-job_limit.was) ∙ goes_on _ _ (ok2 (goal.at.returns-in_err-job_limit c).In_ok-slot_limit))

pub returns-in_err-check4 : goal.returns-in_err-check4
unfolding well_formed
returns-in_err-check4 c =
    let p = err_from_is_err_and c.from_residual-in_err-check4.result c.from_residual-in_err-check4.ensures.1 in
    rw (p.1, p.2) (stops _ _ _ (sym c.check4.ensures ∙ c.in_err-check4.was) ∙ past3 (goal.at.returns-in_err-check4 c).In_ok-job_limit _)

pub returns-in_err-check5 : goal.returns-in_err-check5
unfolding well_formed
returns-in_err-check5 c =
    let at = goal.at.returns-in_err-check5 c in
    let p = err_from_is_err_and c.from_residual-in_err-check5.result c.from_residual-in_err-check5.ensures.1 in
    rw (p.1, p.2) (stops _ _ _ (sym c.check5.ensures ∙ c.in_err-check5.was) ∙ goes_on _ _ (ok4 at.In_ok-check4) ∙ past3 at.In_ok-job_limit _)

pub returns-in_err-scanned : goal.returns-in_err-scanned
unfolding well_formed
returns-in_err-scanned c =
    let p = err_from_is_err_and c.from_residual-in_err-scanned.result c.from_residual-in_err-scanned.ensures.1 in
    rw (p.1, p.2) (stops _ _ _ (c.in_err-scanned.ensures) ∙ past5 (goal.at.returns-in_err-scanned c).In_ok-check5 _)

pub returns-in_err-check7 : goal.returns-in_err-check7
unfolding well_formed
returns-in_err-check7 c =
    let at = goal.at.returns-in_err-check7 c in
    let p = err_from_is_err_and c.from_residual-in_err-check7.result c.from_residual-in_err-check7.ensures.1 in
    rw (p.1, p.2) (stops _ _ _ (sym (named at.After-check7) ∙ c.in_err-check7.was) ∙ goes_on _ _ (ok6 at.In_ok-scanned) ∙ past5 at.In_ok-check5 _)

pub returns : goal.returns
unfolding well_formed
returns c = c.check17.ensures c.in_ok-scanned.ensures.2 ∙ past7 (goal.at.returns c).In_ok-check7 _
