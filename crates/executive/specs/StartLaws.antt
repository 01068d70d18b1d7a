-- Laws of a start, one for each way out, from what the analysis says of the plan.
use Rattle.std.specs.Prelude.{Bool, ◌≡◌, replicate, if◌then◌else◌}
use Rattle.std.proofs.Math.Bool.{true, false}
use Rattle.std.proofs.Math.Path.{refl, sym, ap}
use Rattle.std.proofs.Common.{◌∙◌}
use Rattle.answers.specs.Answer.{accepted}
use Rattle.plan.specs.declared.Plan.{Plan}
use Rattle.plan.specs.Limits.{max_jobs}
use Rattle.acceptance.specs.declared.Analysis.{Analysis}
use Rattle.acceptance.specs.Acceptance.{acceptance}
use Rattle.acceptance.specs.Analysis.{refused_analysis, accepted_analysis, analysis}
use Rattle.executive.specs.declared.Phase.TheVariants.{T}
use Rattle.executive.specs.declared.Started.{Started}
use Rattle.entries.specs.Entry.{fresh_entry}
use Rattle.executive.specs.Run.{blank_run, start}

module _ (p : Plan) where
  found : (b : Bool) → accepted (acceptance p) ≡ b → analysis p ≡ (if b then accepted_analysis p else refused_analysis (acceptance p))
  unfolding analysis
  found b h = rw h

  -- the analysis accepts as acceptance does
  same_verdict : accepted (analysis p).answer ≡ accepted (acceptance p)
  unfolding accepted
  same_verdict = go (accepted (acceptance p)) refl
    where
      go : (b : Bool) → accepted (acceptance p) ≡ b → accepted (analysis p).answer ≡ accepted (acceptance p)
      go true h = ap (λ (a : Analysis). accepted a.answer) (found true h) ∙ sym h
      go false h = ap (λ (a : Analysis). accepted a.answer) (found false h)

module _ (p : Plan) (a : Analysis) (ea : a ≡ analysis p) where
  verdict : (b : Bool) → accepted a.answer ≡ b → accepted (acceptance p) ≡ b
  verdict b h = sym (same_verdict p) ∙ sym (ap (λ (x : Analysis). accepted x.answer) ea) ∙ h

  pub start_refused : accepted a.answer ≡ false → ◌≡◌ {A = Started} (record { answer = a.answer; run = blank_run }) (start p)
  unfolding start
  start_refused h = rw (verdict false h, ea, found p false (verdict false h))

  pub start_made : accepted a.answer ≡ true → ◌≡◌ {A = Started} (record { answer = a.answer; run = record { plan = p; t = 0; phase = T; hi = a.hi; lo = a.lo; entry = replicate max_jobs fresh_entry } }) (start p)
  unfolding start
  start_made h = rw (verdict true h, ea, found p true (verdict true h))
