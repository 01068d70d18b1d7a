-- `coherent_layout` meets its contract: the clauses in order, each early return the first that fails.
use Rattle.std.proofs.Common.{◌≡◌, ◌≤◌, sym, ap, ◌∙◌}
use Rattle.std.proofs.Math.Bool.{true}
use borrow.Author.Tests.{le-leb, lt-leb}
use Rattle.answers.specs.Answer.{accepted}
use Rattle.well_formed.specs.WellFormed.{well_formed}
use Rattle.well_formed.specs.InOrderLaws.{in_order}
use Rattle.plan.specs.Limits.{max_jobs}
use Rattle.executive.specs.Coherent.{entries_hold, coherent}
use Rattle.spares.specs.Spares.{same_row}
use Rattle.executive.proofs.Run.coherent_layout.Goals as goal
use Rattle.executive.proofs.Run.coherent_layout.Goals.{After-entries_hold, Else-not-entries_hold, In_ok-ok}

passes : (c : In_ok-ok) → accepted (well_formed c.args.self.now.plan) ≡ true
unfolding accepted
passes c = sym (ap accepted c.form.ensures) ∙ sym c.in_ok-ok.ensures.variant

few : (c : In_ok-ok) → c.args.self.now.plan.jobs ≤ max_jobs
few c = (in_order _ c.requires.jobs c.requires.table (passes c)).jobs.1

-- the entries' test is that of the run
held : (c : After-entries_hold) → c.entries_hold.result ≡ entries_hold c.args.self.now
unfolding entries_hold
held c = rw c.jobs.ensures at c.entries_hold.ensures

holds : (c : Else-not-entries_hold) → entries_hold c.args.self.now ≡ true
holds c = sym (held c.before) ∙ c.if-not-entries_hold.false

pub fresh_rows-fresh-requires : goal.fresh_rows-fresh-requires
fresh_rows-fresh-requires c =
    (record { few = few (goal.at.fresh_rows-fresh-requires c).In_ok-ok; jobs = c.requires.jobs; entries = c.requires.entries }, c.layout_of-layout.ensures)

pub returns-in_err-ok : goal.returns-in_err-ok
unfolding coherent accepted
returns-in_err-ok c = rw (c.from_residual.ensures, sym (ap accepted c.form.ensures) ∙ sym c.in_err-ok.ensures.variant)

pub returns-then-self : goal.returns-then-self
unfolding coherent
returns-then-self c = rw (passes (goal.at.returns-then-self c).In_ok-ok, lt-leb _ _ c.if-self.true)

pub returns-then-not-entries_hold : goal.returns-then-not-entries_hold
unfolding coherent
returns-then-not-entries_hold c =
    let at = goal.at.returns-then-not-entries_hold c in
    rw (passes at.In_ok-ok, le-leb _ _ c.if-self.false, sym (held at.After-entries_hold) ∙ c.if-not-entries_hold.true)

pub returns-then-not-same_row : goal.returns-then-not-same_row
unfolding coherent
returns-then-not-same_row c =
    let at = goal.at.returns-then-not-same_row c in
    rw (passes at.In_ok-ok, le-leb _ _ c.if-self.false, holds at.Else-not-entries_hold, ap (same_row _) (sym c.fresh_rows-fresh.ensures.0), sym c.same_row.ensures ∙ c.if-not-same_row.true)

pub returns-then-not-same_row-2 : goal.returns-then-not-same_row-2
unfolding coherent
returns-then-not-same_row-2 c =
    let at = goal.at.returns-then-not-same_row-2 c in
    rw (passes at.In_ok-ok, le-leb _ _ c.if-self.false, holds at.Else-not-entries_hold, ap (same_row _) (sym c.fresh_rows-fresh.ensures.0), sym c.same_row.ensures ∙ c.if-not-same_row.false, ap (same_row _) (sym c.fresh_rows-fresh.ensures.1), sym c.same_row-2.ensures ∙ c.if-not-same_row-2.true)

pub returns : goal.returns
unfolding coherent
returns c =
    let at = goal.at.returns c in
    rw (passes at.In_ok-ok, le-leb _ _ c.if-self.false, holds at.Else-not-entries_hold, ap (same_row _) (sym c.fresh_rows-fresh.ensures.0), sym c.same_row.ensures ∙ c.if-not-same_row.false, ap (same_row _) (sym c.fresh_rows-fresh.ensures.1), sym c.same_row-2.ensures ∙ c.if-not-same_row-2.false, c.layout_of-layout.ensures)
