-- `allowed` meets its contract: the refusals in their order, then what the slot goes by and the choice.
use Rattle.std.proofs.Common.{◌≡◌, ◌<◌, refl, sym, ap, ◌∙◌}
use Rattle.std.proofs.Math.Bool.{true}
use Rattle.std.proofs.lemmas.Result.{err_from_is_err_and}
use borrow.Author.Tests.{eq-eqb, ne_eqb}
use Rattle.executive.specs.Coherent.{coherent}
use Rattle.executive.specs.Choice.{chosen, made_choice}
use Rattle.executive.specs.CallLaws.{slot_chosen, step_refused, other_refused, kind_refused, stepped}
use Rattle.executive.proofs.Run.allowed.Goals as goal
use Rattle.executive.proofs.Run.allowed.Goals.{In_ok-going}

-- the run that goes on is this one
holds : (c : In_ok-going) → (coherent c.args.self.now ≡ true) × (c.args.self.now.t < c.args.self.now.plan.slots)
holds c = let e = c.in_ok-going.ensures.going in (rw e at c.in_ok-going.going.coherent, rw e at c.in_ok-going.going.before)

pub returns-in_err-going-clause-refused : goal.returns-in_err-going-clause-refused
returns-in_err-going-clause-refused c =
    let p = err_from_is_err_and c.from_residual.result c.from_residual.ensures.1 in
    rw (p.1, p.2) (step_refused c.args.self.now _ c.in_err-going.ensures.refused c.args.report)

pub returns-then-report-self-clause-refused : goal.returns-then-report-self-clause-refused
returns-then-report-self-clause-refused c =
    let h = holds (goal.at.returns-then-report-self-clause-refused c).In_ok-going in
    other_refused c.args.self.now h.0 h.1 c.args.report (ne_eqb _ _ c.if-report-self.true)

pub returns-then-not-kind_fits-clause-refused : goal.returns-then-not-kind_fits-clause-refused
returns-then-not-kind_fits-clause-refused c =
    let h = holds (goal.at.returns-then-not-kind_fits-clause-refused c).In_ok-going in
    kind_refused c.args.self.now h.0 h.1 c.args.report (eq-eqb _ _ c.if-report-self.false) _ (c.choice-choice.ensures ∙ ap made_choice c.in_ok-going.ensures.going) (sym c.kind_fits.ensures ∙ c.if-not-kind_fits.true)

pub returns-clause-going : goal.returns-clause-going
returns-clause-going c = c.in_ok-going.ensures.going

pub returns-clause-made : goal.returns-clause-made
returns-clause-made c = slot_chosen _ _ c.choice-choice.ensures ∙ ap chosen c.in_ok-going.ensures.going

pub returns-clause-stepped : goal.returns-clause-stepped
returns-clause-stepped c =
    let h = holds (goal.at.returns-clause-stepped c).In_ok-going in
    stepped c.args.self.now h.0 h.1 c.args.report (eq-eqb _ _ c.if-report-self.false) _ (c.choice-choice.ensures ∙ ap made_choice c.in_ok-going.ensures.going) (sym c.kind_fits.ensures ∙ c.if-not-kind_fits.false) _ refl

pub going-requires : goal.going-requires
going-requires c = c.requires
