-- Demand 1 over the definitions: how calls on a run are refused, and that a refused call hands back what it was given, or the blank, and writes nothing.
-- That every call is answered stands in the functions' contracts: none has a condition.
use Rattle.std.specs.Prelude.{ℕ, ◌≡◌, refl, ◌⊎◌, Bool, true, false, List, length, pos, if◌then◌else◌}
use Rattle.std.proofs.Common.{arith, sym, ◌∙◌, inl, inr, ⊎_elim}
use Rattle.plan.specs.declared.Plan.{Plan}
use Rattle.answers.specs.Answer.{Accepted, Incoherent, Over, OtherSlot, WrongKind, accepted}
use Rattle.words.specs.Words.{◌<?◌, ◌=?◌}
use Rattle.plan.specs.Plan.{blank_plan}
use Rattle.acceptance.specs.Acceptance.{acceptance}
use Rattle.acceptance.specs.Analysis.{analysis, refused_analysis}
use Rattle.lines.specs.Lines.{Read, got, refused}
use Rattle.plan_text.specs.Read.{plan_read, read_plan, only_plan, start_of}
use Rattle.plan_text.specs.Write.{write_answer, write_out}
use Rattle.executive.specs.declared.Run.{Run}
use Rattle.ready.specs.declared.Slot.{Slot}
use Rattle.executive.specs.declared.Report.{Report}
use Rattle.executive.specs.Run.{start, blank_run}
use Rattle.executive.specs.Coherent.{coherent}
use Rattle.executive.specs.Choice.{chosen, choose, can_go_on, made_choice}
use Rattle.executive.specs.Step.{kind_fits, step, report_answer}

-- ---- the answers of calls on a run: 10, 11, 12, 13 in that order, at place 0, t, t, t

pub choice_answers : (r : Run) → (choose r).answer ≡ (if coherent r then if r.t <? r.plan.slots then Accepted else Over r.t else Incoherent)
unfolding choose made_choice can_go_on accepted
choice_answers r = go (coherent r) refl (r.t <? r.plan.slots) refl
  where
    go : (a : Bool) → coherent r ≡ a → (b : Bool) → (r.t <? r.plan.slots) ≡ b → (choose r).answer ≡ (if a then if b then Accepted else Over r.t else Incoherent)
    go false e b f = rw e
    go true e false f = rw (e, f)
    go true e true f = rw (e, f)

pub step_answers : (r : Run) (report : Report)
    → (step r report).answer
    ≡ (if coherent r then
    if r.t <? r.plan.slots then
    if report.slot =? r.t then
    if kind_fits (chosen r) report.kind then Accepted
    else WrongKind r.t
    else OtherSlot r.t
    else Over r.t
    else Incoherent)
unfolding step report_answer can_go_on accepted
step_answers r report = go (coherent r) refl (r.t <? r.plan.slots) refl (report.slot =? r.t) refl (kind_fits (chosen r) report.kind) refl
  where
    go : (a : Bool) → coherent r ≡ a → (b : Bool) → (r.t <? r.plan.slots) ≡ b → (c : Bool) → (report.slot =? r.t) ≡ c → (d : Bool) → kind_fits (chosen r) report.kind ≡ d
        → (step r report).answer ≡ (if a then if b then if c then if d then Accepted else WrongKind r.t else OtherSlot r.t else Over r.t else Incoherent)
    go false e b f c g d h = rw e
    go true e false f c g d h = rw (e, f)
    go true e true f false g d h = rw (e, f, g)
    go true e true f true g false h = rw (e, f, g, h)
    go true e true f true g true h = rw (e, f, g, h)

-- of a coherent run no call is refused 10
pub coherent_not_refused_10 : (r : Run) (report : Report) → coherent r ≡ true → ((choose r).answer ≡ Incoherent → ⊥) × ((step r report).answer ≡ Incoherent → ⊥)
coherent_not_refused_10 r report whole = (
  λ e. choice (r.t <? r.plan.slots) (sym (rw whole at (choice_answers r)) ∙ e),
  λ e. report_of (r.t <? r.plan.slots) (report.slot =? r.t) (kind_fits (chosen r) report.kind) (sym (rw whole at (step_answers r report)) ∙ e),
)
  where
    choice : (b : Bool) → (if b then Accepted else Over r.t) ≡ Incoherent → ⊥
    choice true e = let z : ◌≡◌ {A = ℕ} 0 1 = cc in omega arith
    choice false e = let z : ◌≡◌ {A = ℕ} 0 1 = cc in omega arith

    report_of : (b c d : Bool) → (if b then if c then if d then Accepted else WrongKind r.t else OtherSlot r.t else Over r.t) ≡ Incoherent → ⊥
    report_of false c d e = let z : ◌≡◌ {A = ℕ} 0 1 = cc in omega arith
    report_of true false d e = let z : ◌≡◌ {A = ℕ} 0 1 = cc in omega arith
    report_of true true false e = let z : ◌≡◌ {A = ℕ} 0 1 = cc in omega arith
    report_of true true true e = let z : ◌≡◌ {A = ℕ} 0 1 = cc in omega arith

-- ---- what a refused call hands back

-- a step is accepted, or refused with the same run
pub taken_or_same : (r : Run) (report : Report) → ((step r report).answer ≡ Accepted) ⊎ ((accepted (step r report).answer ≡ false) × ((step r report).run ≡ r))
unfolding step
taken_or_same r report = go (accepted (report_answer r report)) refl
  where
    go : (b : Bool) → accepted (report_answer r report) ≡ b → ((step r report).answer ≡ Accepted) ⊎ ((accepted (step r report).answer ≡ false) × ((step r report).run ≡ r))
    go true e = inl (rw e)
    go false e = inr (rw e e, rw e)

-- a refused step hands back the same run
pub refused_step_lem : (r : Run) (report : Report) → ((step r report).answer ≡ Accepted → ⊥) → (step r report).run ≡ r
refused_step_lem r report no-go = ⊎_elim (λ e. absurd (no-go e)) (λ same. same.1) (taken_or_same r report)

-- a refused start gives the blank run
pub refused_start : (p : Plan) → ((start p).answer ≡ Accepted → ⊥) → (start p).run ≡ blank_run
unfolding start
refused_start p no-go = go (accepted (acceptance p)) refl
  where
    go : (b : Bool) → accepted (acceptance p) ≡ b → (start p).run ≡ blank_run
    go true e = absurd (no-go (rw e))
    go false e = rw e

-- a refused choice is idle with 0 ready and spares of 0
pub refused_choice : (r : Run) → ((choose r).answer ≡ Accepted → ⊥) → ((choose r).slot ≡ Slot.Idle) × ((choose r).ready ≡ 0) × ((choose r).hi ≡ pos 0) × ((choose r).lo ≡ pos 0)
unfolding choose made_choice
refused_choice r no-go = go (accepted (can_go_on r)) refl
  where
    go : (b : Bool) → accepted (can_go_on r) ≡ b → ((choose r).slot ≡ Slot.Idle) × ((choose r).ready ≡ 0) × ((choose r).hi ≡ pos 0) × ((choose r).lo ≡ pos 0)
    go true e = absurd (no-go (rw e))
    go false e = (rw e, rw e, rw e, rw e)

-- a refused analysis gives no intervals and spares of 0
pub refused_analysis_lem : (p : Plan) → ((analysis p).answer ≡ Accepted → ⊥) → analysis p ≡ refused_analysis (acceptance p)
unfolding analysis
refused_analysis_lem p no-go = go (accepted (acceptance p)) refl
  where
    go : (b : Bool) → accepted (acceptance p) ≡ b → analysis p ≡ refused_analysis (acceptance p)
    go true e = absurd (no-go (rw e))
    go false e = rw e

-- a refused text yields the blank plan
pub refused_text : (s : List ℕ) → ((read_plan s).answer ≡ Accepted → ⊥) → (read_plan s).plan ≡ blank_plan
unfolding read_plan
refused_text s = go (only_plan (start_of s))
  where
    go : (x : Read Plan) → ((plan_read x).answer ≡ Accepted → ⊥) → (plan_read x).plan ≡ blank_plan
    go (got plan here) no-go = absurd (no-go refl)
    go (refused answer) no-go = refl

-- a refused write leaves the output as it was
pub refused_write : (p : Plan) (out : List ℕ) → accepted (write_answer p (length out)) ≡ false → write_out p out ≡ out
unfolding write_out
refused_write p out e = rw e
