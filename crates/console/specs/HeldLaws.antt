-- How much input a console holds that waits: less than one plan before the run, less than one report line in it.
-- So a bounded buffer holds the rest of an input of any length.
use Rattle.std.specs.Prelude.{ℕ, ◌<◌, ◌≡◌, refl, Bool, ◌||◌, List}
use Rattle.std.proofs.Common.{arith, sym, ◌∙◌, le-leb}
use Rattle.std.proofs.Math.Bool.{true, false}
use Rattle.std.proofs.lemmas.Bool.{false≢true}
use Rattle.std.proofs.Math.ListN.{length}
use Rattle.words.specs.Cases.{by_test, by_less}
use Rattle.lines.specs.Lines.{line_length}
use Rattle.words.specs.Words.{◌<?◌}
use Rattle.answers.specs.Answer.{accepted}
use Rattle.plan_text.specs.Reader.{plan_prefix}
use Rattle.plan_text.specs.DecidedLaws.{enough, is_final, open_short}
use Rattle.console.specs.declared.run.Stage.{Stage}
use Rattle.console.specs.declared.run.Stage.TheVariants.{Reading, Running, Stopped}
use Rattle.console.specs.declared.run.Console.{Console}
use Rattle.console.specs.Reports.{report_at}
use Rattle.console.specs.Console.{plan_event, longest_report, line_ready, line_event, event_in, event, is_stopped}
use Rattle.console.specs.SessionLaws.{started_goes, report_goes}

-- with this much in hand there is an event: one plan, then one report line
abbrev pub most_held : Stage → ℕ
most_held Reading = enough
most_held Running = longest_report
most_held Stopped = 0

module _ (c : Console) (s : List ℕ) where
  plan_short : (plan_event c s).waiting ≡ true → length s < enough
  unfolding plan_event
  plan_short w =
      by_test (accepted (plan_prefix s).answer)
      (λ a. absurd (false≢true (sym (started_goes c s (plan_prefix s).next (plan_prefix s).line (plan_prefix s).plan) ∙ (rw a at w))))
      (λ a. by_test (is_final s (plan_prefix s).answer) (λ f. absurd (false≢true (rw (a, f) at w))) (open_short s (plan_prefix s).answer))

  or_true : (b : Bool) → (b || true) ≡ true
  or_true b = by_test b (λ h. rw h) (λ h. rw h)

  line_short : (line_event c s).waiting ≡ true → length s < longest_report
  unfolding line_event line_ready
  line_short w =
      by_less (length s) longest_report (λ l. l)
      (λ l.
      let ready : line_ready s ≡ true = rw (le-leb longest_report (length s) l) (or_true (line_length s <? length s)) in
      absurd (false≢true (sym (report_goes c s (report_at s)) ∙ (rw ready at w))))

  -- a console that waits and has not stopped holds less than one plan, or one line
  pub waits_short : (event c s).waiting ≡ true → is_stopped c.stage ≡ false → length s < most_held c.stage
  unfolding event
  waits_short w goes = pick c.stage w goes
    where
      pick : (x : Stage) → (event_in x c s).waiting ≡ true → is_stopped x ≡ false → length s < most_held x
      pick Reading w g = plan_short w
      pick Running w g = line_short w
      pick Stopped w g = absurd (false≢true (sym g))

  -- so less than a plan in any case
  pub waits_few : (event c s).waiting ≡ true → is_stopped c.stage ≡ false → length s < enough
  waits_few w goes = pick c.stage (waits_short w goes)
    where
      pick : (x : Stage) → length s < most_held x → length s < enough
      pick Reading l = l
      pick Running l = omega arith
      pick Stopped l = omega arith

  -- a console that waits stays where it is
  plan_still : (plan_event c s).waiting ≡ true → ((plan_event c s).console ≡ c) × ((plan_event c s).used ≡ 0)
  unfolding plan_event
  plan_still w =
      by_test (accepted (plan_prefix s).answer)
      (λ a. absurd (false≢true (sym (started_goes c s (plan_prefix s).next (plan_prefix s).line (plan_prefix s).plan) ∙ (rw a at w))))
      (λ a. by_test (is_final s (plan_prefix s).answer) (λ f. absurd (false≢true (rw (a, f) at w))) (λ f. rw (a, f) (refl, refl)))

  line_still : (line_event c s).waiting ≡ true → ((line_event c s).console ≡ c) × ((line_event c s).used ≡ 0)
  unfolding line_event
  line_still w = by_test (line_ready s) (λ r. absurd (false≢true (sym (report_goes c s (report_at s)) ∙ (rw r at w)))) (λ r. rw r (refl, refl))

  pub waits_still : (event c s).waiting ≡ true → ((event c s).console ≡ c) × ((event c s).used ≡ 0)
  unfolding event
  waits_still w = pick c.stage w
    where
      pick : (x : Stage) → (event_in x c s).waiting ≡ true → ((event_in x c s).console ≡ c) × ((event_in x c s).used ≡ 0)
      pick Reading w = plan_still w
      pick Running w = line_still w
      pick Stopped w = (refl, refl)
