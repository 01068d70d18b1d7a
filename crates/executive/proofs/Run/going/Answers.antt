-- `going` meets its contract: 10, then 11, then what its slot goes by.
use Rattle.std.specs.Prelude.{Bool, Option, Some, None, Ok, Err, if◌then◌else◌}
use Rattle.std.specs.Option.{ok_or}
use Rattle.std.proofs.Common.{rules, ◌≡◌, refl, sym, ap, ◌∙◌, le-ltb}
use Rattle.std.proofs.Math.Bool.{true, false}
use Rattle.std.proofs.lemmas.Result.{err_from_is_err_and}
use Rattle.answers.specs.declared.Refusal.{Refusal}
use Rattle.intervals.specs.declared.Layout.{Layout}
use Rattle.intervals.specs.Layout.{layout_of}
use Rattle.spares.specs.InLayoutLaws.{current_of_layout}
use Rattle.executive.specs.Coherent.{coherent}
use Rattle.executive.specs.Choice.{members}
use Rattle.executive.specs.CallLaws.{is_incoherent, is_over}
use mir.Facts.{to_z-of_z}
use mir.Syntax.{w32}
use Rattle.executive.proofs.Run.going.Goals as goal
use Rattle.executive.proofs.Run.going.Goals.{In_err-layout, In_ok-layout}

-- what the layout, or the refusal in its place, says of the run
given : (b : Bool) (l m : Layout) → ok_or (if b then Some l else None) Refusal.Incoherent ≡ Ok m → (b ≡ true) × (m ≡ l)
given true l m e = (refl, cc)
given false l m e = cc

kept : (b : Bool) (l : Layout) (e : Refusal) → ok_or (if b then Some l else None) Refusal.Incoherent ≡ Err e → (b ≡ false) × (e ≡ Refusal.Incoherent)
kept true l e p = cc
kept false l e p = (refl, cc)

laid : (c : In_ok-layout) → (coherent c.args.self.now ≡ true) × (c.in_ok-layout.layout ≡ layout_of c.args.self.now.plan)
laid c =
    given (coherent c.args.self.now) (layout_of c.args.self.now.plan) c.in_ok-layout.layout
    (sym (c.ok_or.ensures.value ∙ ap (λ (o : Option Layout). ok_or o Refusal.Incoherent) c.coherent_layout.ensures) ∙ c.in_ok-layout.was)

pub returns-in_err-layout-clause-refused : goal.returns-in_err-layout-clause-refused
returns-in_err-layout-clause-refused c =
    let p = err_from_is_err_and c.from_residual.result c.from_residual.ensures.1 in
    let k = kept (coherent c.args.self.now) (layout_of c.args.self.now.plan) c.in_err-layout.field-0.0 (sym (c.ok_or.ensures.value ∙ ap (λ (o : Option Layout). ok_or o Refusal.Incoherent) c.coherent_layout.ensures) ∙ c.in_err-layout.was) in
    rw (p.1, p.2, k.1) (is_incoherent c.args.self.now k.0)

pub returns-then-self-clause-refused : goal.returns-then-self-clause-refused
returns-then-self-clause-refused c = is_over c.args.self.now (laid (goal.at.returns-then-self-clause-refused c).In_ok-layout).0 (le-ltb _ _ c.if-self.true)

pub invariant_of-result : goal.invariant_of-result
unfolding members
invariant_of-result c =
    let l = laid (goal.at.invariant_of-result c).In_ok-layout in
    record {
      whole = c.requires;
      coherent = l.0;
      before = c.if-self.false;
      laid = l.1;
      hi_now = to_z-of_z {w = w32} (search rules) ∙ c.current.ensures ∙ current_of_layout _ _ _ _ l.1;
      lo_now = to_z-of_z {w = w32} (search rules) ∙ c.current-2.ensures ∙ current_of_layout _ _ _ _ l.1;
      ready_now = c.ready_set.ensures;
    }
