-- Whatever pieces the input comes in: all that the run program's console prints is the whole output for all pieces together.
-- Each event prints the next part of what is still to be printed, whatever text may follow; so does every number of events.
use Prim.Native.Nat.{ℕ, zero, suc, ◌+◌, ◌-◌, ◌≤◌, ◌<◌}
use Rattle.std.proofs.Common.{arith, ap, ◌∙◌, append-nil, append_assoc, inl, inr, length-append, length-drop}
use Rattle.std.specs.Prelude.{◌≡◌, Bool, ◌&&◌, ◌||◌, List, [], ◌∷◌, ◌++◌, ◌⊎◌, drop}
use Rattle.std.proofs.Math.Path.{refl, sym}
use Rattle.std.proofs.Math.Bool.{true, false}
use Rattle.std.proofs.lemmas.Bool.{false≢true}
use Rattle.std.specs.Prelude.{Option, None, Some}
use Rattle.std.proofs.Math.Logic.{⊎_elim}
use Rattle.std.proofs.Math.ListN.{length}
use borrow.Author.Tests.{lt-ltb, ltb-true, leb-true, eq-eqb, ne_eqb}
use Rattle.words.specs.Words.{◌≤?◌, ◌<?◌}
use Rattle.words.specs.Cases.{by_test, by_equal, both_hold}
use Rattle.answers.specs.Answer.{Answer, Form, Incoherent, Over, accepted, ◌unless◌}
use Rattle.answers.specs.RefusalLaws.{unless_holds, both_accept}
use Rattle.lines.specs.Lines.{bytes, Cursor, Read, got, refused, line_length, lines_in, or_form, value_in, field}
use Rattle.lines.specs.Reading.{field_at}
use Rattle.lines.specs.RoundLaws.{cursor, unread, got_same}
use Rattle.lines.specs.DecidedLaws.{lines_closed}
use Rattle.plan.specs.declared.Plan.{Plan}
use Rattle.plan_text.specs.Read.{next_plan, start_of}
use Rattle.plan_text.specs.Reader.{plan_prefix}
use Rattle.plan_text.specs.PrefixLaws.{prefix_stands, prefix_refused}
use Rattle.plan_text.specs.DecidedLaws.{enough, plan_goes, text_stays, is_final, final_stays}
use Rattle.well_formed.specs.WellFormed.{well_formed}
use Rattle.well_formed.specs.InOrderLaws.{slot_limit}
use Rattle.executive.specs.declared.Run.{Run}
use Rattle.executive.specs.declared.Report.{Report}
use Rattle.executive.specs.Run.{start}
use Rattle.executive.specs.Coherent.{coherent}
use Rattle.executive.specs.Choice.{can_go_on}
use Rattle.executive.specs.Step.{report_answer, step, next_run, refreshed, judged, expired, reported}
use Rattle.console.specs.declared.run.Stage.{Stage}
use Rattle.console.specs.declared.run.Stage.TheVariants.{Reading, Running, Stopped}
use Rattle.console.specs.declared.run.Console.{Console}
use Rattle.console.specs.Print.{refused_line}
use Rattle.console.specs.Check.{check_output}
use Rattle.console.specs.Run.{report_in, end, next, report_then, reports_in, step_line, job_lines, go_on, started_output, run_output}
use Rattle.console.specs.Reports.{report_at, report_got, report_bad}
use Rattle.console.specs.LineLaws.{plan_line, report_decided}
use Rattle.console.specs.Console.{fresh_console, Event, waits, refuses, started_event, plan_event, longest_report, line_ready, line_after, report_event, line_event, event_in, event, unread_output, end_in, end_output, Settled, after, settled, session}

-- ---- the check program: what follows enough bytes and one more does not matter

pub check_stays : (s u : List ℕ) → enough < length s → check_output (s ++ u) ≡ check_output s
unfolding check_output
check_stays s u h = rw (text_stays s u h)

-- ---- an accepted step comes before the last slot, and the border moves on by one

first_holds : (a b c d e : Bool) → (a && b && c && d && e) ≡ true → a ≡ true
first_holds a b c d e h = (both_hold a b (both_hold (a && b) c (both_hold (a && b && c) d (both_hold (a && b && c && d) e h).0).0).0).0

module _ (r : Run) (report : Report) (h : accepted (step r report).answer ≡ true) where
  answered : accepted (report_answer r report) ≡ true
  unfolding step
  answered = by_test (accepted (report_answer r report)) (λ e. e) (λ e. rw e at h)

  pub step_goes : accepted (can_go_on r) ≡ true
  unfolding report_answer
  step_goes = (both_accept (can_go_on r) _ answered).0

  pub step_on : (step r report).run.t ≡ r.t + 1
  unfolding step next_run refreshed judged expired reported
  step_on = rw answered

  pub step_early : r.t < 512
  unfolding report_answer can_go_on coherent accepted
  step_early =
      let go = (both_accept (can_go_on r) _ answered).0 in
      let two = both_accept (Incoherent unless coherent r) (Over r.t unless (r.t <? r.plan.slots)) go in
      let slot : r.t < r.plan.slots = ltb-true _ _ (unless_holds (Over r.t) (r.t <? r.plan.slots) refl two.1) in
      let sound : coherent r ≡ true = unless_holds Incoherent (coherent r) refl two.0 in
      let formed : accepted (well_formed r.plan) ≡ true = first_holds (accepted (well_formed r.plan)) _ _ _ _ sound in
      omega (arith, slot_limit r.plan formed)

-- ---- the report lines of a text

-- a line that was read is gone
field_shorter : (here after : Cursor) (r : Report) → field report_in "report=" here ≡ got r after → length after.text ≤ length here.text - 1
unfolding field
field_shorter here after r e = pick (value_in report_in (bytes "report=") here.text) e
  where
    pick : (o : Option Report) → or_form o here ≡ got r after → length after.text ≤ length here.text - 1
    pick (Some v) e = omega (arith, ap (λ (c : Cursor). length c.text) (got_same e).1, length-drop (suc (line_length here.text)) here.text)
    pick None e = unread e

module _ (k : ℕ) (here : Cursor) where
  reports_end : length here.text ≡ 0 → reports_in k here ≡ end
  unfolding reports_in
  reports_end h = go k
    where
      go : (j : ℕ) → reports_in j here ≡ end
      go zero = refl
      go (suc j) = rw (eq-eqb (length here.text) 0 h)

  module _ (nonempty : length here.text ≡ 0 → ⊥) where
    reports_more : reports_in (suc k) here ≡ report_then (field report_in "report=" here) (λ after. reports_in k after)
    unfolding reports_in
    reports_more = rw (ne_eqb (length here.text) 0 nonempty)

-- how many lines there may be does not matter, if there may be enough
reports_enough : (j k : ℕ) (here : Cursor) → length here.text ≤ j → length here.text ≤ k → reports_in j here ≡ reports_in k here
reports_enough zero k here a b = reports_end zero here (omega arith) ∙ sym (reports_end k here (omega arith))
reports_enough (suc j) zero here a b = reports_end (suc j) here (omega arith) ∙ sym (reports_end zero here (omega arith))
reports_enough (suc j) (suc k) here a b =
    by_equal (length here.text) 0
    (λ e. reports_end (suc j) here e ∙ sym (reports_end (suc k) here e))
    (λ e. reports_more j here e ∙ pick (λ after. reports_enough j k after) (field report_in "report=" here) refl ∙ sym (reports_more k here e))
  where
    pick : ((after : Cursor) → length after.text ≤ j → length after.text ≤ k → reports_in j after ≡ reports_in k after)
        → (o : Read Report) → field report_in "report=" here ≡ o → report_then o (λ after. reports_in j after) ≡ report_then o (λ after. reports_in k after)
    pick same (got r after) e = let l = field_shorter here after r e in ap (next r) (same after (omega arith) (omega arith))
    pick same (refused answer) e = refl

-- what is printed from line l of a run on, s being the text from there to its end
unfoldable pub run_from : Run → ℕ → List ℕ → List ℕ
run_from r l s = go_on r (reports_in (length s) (cursor l s))

module _ (r : Run) (l : ℕ) (s : List ℕ) where
  run_end : length s ≡ 0 → run_from r l s ≡ job_lines r
  unfolding run_from go_on
  run_end h = rw (reports_end (length s) (cursor l s) h)

  module _ (nonempty : length s ≡ 0 → ⊥) where
    opened : reports_in (length s) (cursor l s) ≡ report_then (field report_in "report=" (cursor l s)) (λ after. reports_in (length s - 1) after)
    opened = let e : length s ≡ suc (length s - 1) = omega arith in ap (λ (k : ℕ). reports_in k (cursor l s)) e ∙ reports_more (length s - 1) (cursor l s) nonempty

    run_bad : (answer : Answer) → field report_in "report=" (cursor l s) ≡ refused answer → run_from r l s ≡ refused_line answer
    unfolding run_from go_on
    run_bad answer e = rw (opened, e)

    module _ (report : Report) (m : ℕ) (t : List ℕ) (e : field report_in "report=" (cursor l s) ≡ got report (cursor m t)) where
      run_next : reports_in (length s) (cursor l s) ≡ next report (reports_in (length t) (cursor m t))
      run_next =
          let f = field_shorter (cursor l s) (cursor m t) report e in
          opened ∙ rw e (ap (next report) (reports_enough (length s - 1) (length t) (cursor m t) f (omega arith)))

      run_step : accepted (step r report).answer ≡ true → run_from r l s ≡ step_line r ++ run_from (step r report).run m t
      unfolding run_from go_on
      run_step h = rw (run_next, h)

      run_refused : accepted (step r report).answer ≡ false → run_from r l s ≡ refused_line (step r report).answer
      unfolding run_from go_on
      run_refused h = rw (run_next, h)

-- ---- what a console is still to print

abbrev output_in : Stage → Console → List ℕ → List ℕ
output_in Reading c s = run_output s
output_in Running c s = run_from c.run c.line s
output_in Stopped c s = []

unfoldable pub output_from : Console → List ℕ → List ℕ
output_from c s = output_in c.stage c s

-- a run's line numbers stay small: the first is at most 675, and each line fed is a slot
abbrev SmallIn : Stage → Console → Type 0
SmallIn Reading c = Unit {0}
SmallIn Running c = c.line ≤ 675 + c.run.t
SmallIn Stopped c = Unit {0}

pub record Small (c : Console) : Type 0 where
  pub small : SmallIn c.stage c

small_running : (c : Console) → c.stage ≡ Running → Small c → c.line ≤ 675 + c.run.t
small_running c e g = rw e at g.small

either_ready : (n k : ℕ) → ((n <? k) || (longest_report ≤? k)) ≡ true → (n < k) ⊎ (longest_report ≤ k)
either_ready n k h = by_test (n <? k) (λ e. inl (ltb-true n k e)) (λ e. inr (leb-true longest_report k (rw e at h)))

-- the event prints the next part, whatever text u follows what is in hand
record Sound (c : Console) (s u : List ℕ) (e : Event) : Type 0 where
  says : output_from c (s ++ u) ≡ e.printed ++ output_from e.console (drop e.used s ++ u)
  keeps : Small e.console

module _ (c : Console) (s u : List ℕ) where
  waits_sound : Small c → Sound c s u (waits c)
  waits_sound g = record { says = refl; keeps = g }

  refuses_sound : (answer : Answer) → output_from c (s ++ u) ≡ refused_line answer → Sound c s u (refuses c answer)
  unfolding output_from
  refuses_sound answer e = record { says = e ∙ sym (append-nil (refused_line answer)); keeps = record { small = tt } }

  -- ---- the plan

  module _ (reading : c.stage ≡ Reading) where
    whole : output_from c (s ++ u) ≡ run_output (s ++ u)
    unfolding output_from
    whole = rw reading

    module _ (p : Plan) (next line : ℕ) (e : next_plan (start_of s) ≡ got p (cursor line (drop next s))) where
      begun : output_from c (s ++ u) ≡ started_output (start p) (cursor line (drop next s ++ u))
      unfolding run_output
      begun = whole ∙ rw (plan_goes s u p line (drop next s) e)

      started_sound : Sound c s u (started_event c next line (start p))
      unfolding output_from run_from
      started_sound =
          by_test (accepted (start p).answer)
          (λ h. rw h (record { says = begun ∙ rw h; keeps = record { small = omega (arith, plan_line s (drop next s) p line e) } }))
          (λ h. rw h (refuses_sound (start p).answer (begun ∙ rw h)))

    plan_sound : Small c → Sound c s u (plan_event c s)
    unfolding plan_event run_output
    plan_sound g =
        by_test (accepted (plan_prefix s).answer)
        (λ h. rw h (started_sound (plan_prefix s).plan (plan_prefix s).next (plan_prefix s).line (prefix_stands s (plan_prefix s) refl h).0))
        (λ h. let e = prefix_refused s (plan_prefix s) refl h in
        by_test (is_final s (plan_prefix s).answer)
        (λ f. rw (h, f) (refuses_sound _ (whole ∙ rw (final_stays s u _ f e))))
        (λ f. rw (h, f) (waits_sound g)))

  -- ---- a report line

  module _ (running : c.stage ≡ Running) (small : c.line ≤ 675 + c.run.t) where
    run_whole : output_from c (s ++ u) ≡ run_from c.run c.line (s ++ u)
    unfolding output_from
    run_whole = rw running

    longer : length s ≤ length (s ++ u)
    longer = omega (arith, length-append s u)

    module _ (nonempty : length s ≡ 0 → ⊥) where
      nonempty' : length (s ++ u) ≡ 0 → ⊥
      nonempty' e = nonempty (omega (arith, longer))

      got_sound : (report : Report) (place : ℕ) → ◌≡◌ {A = Option (Report × ℕ)} (Some (report, place)) (report_at s) → Sound c s u (report_event c (Some (report, place)))
      unfolding output_from
      got_sound report place e =
          let f = (report_got s report place c.line e).0 in
          let g = (report_decided.goes c.line s u report (suc c.line) (drop place s) f).0 in
          by_test (accepted (step c.run report).answer)
          (λ h.
          let early = step_early c.run report h in
          let n : line_after c.line ≡ suc c.line = rw (lt-ltb c.line 65535 (omega arith)) (omega arith) in
          rw (h, n) (record {
            says = run_whole ∙ run_step c.run c.line (s ++ u) nonempty' report (suc c.line) (drop place s ++ u) g h;
            keeps = record { small = omega (arith, step_on c.run report h) };
          }))
          (λ h. rw h (refuses_sound _ (run_whole ∙ run_refused c.run c.line (s ++ u) nonempty' report (suc c.line) (drop place s ++ u) g h)))

      bad_sound : (line_length s < length s) ⊎ (longest_report ≤ length s) → None ≡ report_at s → Sound c s u (report_event c None)
      bad_sound ready e =
          let f = report_bad s c.line e in
          let g : field report_in "report=" (cursor c.line (s ++ u)) ≡ refused (Form c.line) =
          ⊎_elim (λ h. report_decided.closes c.line s u (Form c.line) (omega (arith, lines_closed s h)) f) (λ h. report_decided.stays c.line s u (Form c.line) h f) ready in
          refuses_sound _ (run_whole ∙ run_bad c.run c.line (s ++ u) nonempty' (Form c.line) g)

    line_sound : Small c → Sound c s u (line_event c s)
    unfolding line_event line_ready
    line_sound g =
        by_test (line_ready s)
        (λ h. rw h (pick (report_at s) refl (either_ready (line_length s) (length s) h)))
        (λ h. rw h (waits_sound g))
      where
        pick : (o : Option (Report × ℕ)) → report_at s ≡ o → (line_length s < length s) ⊎ (longest_report ≤ length s) → Sound c s u (report_event c o)
        pick (Some (report, place)) e ready = got_sound (λ z. ⊎_elim (λ h. omega arith) (λ h. omega arith) ready) report place (sym e)
        pick None e ready = bad_sound (λ z. ⊎_elim (λ h. omega arith) (λ h. omega arith) ready) ready (sym e)

  event_sound : Small c → Sound c s u (event c s)
  unfolding event
  event_sound g = pick c.stage refl
    where
      pick : (x : Stage) → c.stage ≡ x → Sound c s u (event_in x c s)
      pick Reading e = plan_sound e g
      pick Running e = line_sound e (small_running c e g) g
      pick Stopped e = waits_sound g

-- ---- the end of input

-- a waiting console at the end of input prints what is still to be printed
module _ (c : Console) (s : List ℕ) where
  pub started_goes : (used line : ℕ) (p : Plan) → (started_event c used line (start p)).waiting ≡ false
  started_goes used line p = by_test (accepted (start p).answer) (λ h. rw h) (λ h. rw h)

  pub report_goes : (o : Option (Report × ℕ)) → (report_event c o).waiting ≡ false
  report_goes (Some (report, place)) = by_test (accepted (step c.run report).answer) (λ h. rw h) (λ h. rw h)
  report_goes None = refl

  plan_ends : (plan_event c s).waiting ≡ true → unread_output (plan_prefix s) ≡ run_output s
  unfolding plan_event run_output
  plan_ends w =
      by_test (accepted (plan_prefix s).answer)
      (λ h. absurd (false≢true (sym (started_goes (plan_prefix s).next (plan_prefix s).line (plan_prefix s).plan) ∙ (rw h at w))))
      (λ h. rw (h, prefix_refused s (plan_prefix s) refl h))

  line_ends : (line_event c s).waiting ≡ true → end_in Running c s ≡ run_from c.run c.line s
  unfolding line_event line_ready field_at value_in
  line_ends w =
      by_equal (length s) 0
      (λ e. rw (eq-eqb (length s) 0 e) (sym (run_end c.run c.line s e)))
      (λ e. rw (ne_eqb (length s) 0 e) (sym (run_bad c.run c.line s e (Form c.line) (report_bad s c.line unclosed))))
    where
      waits_line : line_ready s ≡ false
      waits_line = by_test (line_ready s) (λ h. absurd (false≢true (sym (report_goes (report_at s)) ∙ (rw h at w)))) (λ h. h)

      not_closed : (line_length s <? length s) ≡ false
      not_closed = by_test (line_length s <? length s) (λ h. absurd (false≢true (sym (rw h at waits_line)))) (λ h. h)

      unclosed : None ≡ report_at s
      unclosed = rw not_closed

  pub end_sound : (event c s).waiting ≡ true → end_output c s ≡ output_from c s
  unfolding event end_output output_from
  end_sound w = pick c.stage w
    where
      pick : (x : Stage) → (event_in x c s).waiting ≡ true → end_in x c s ≡ output_in x c s
      pick Reading w = plan_ends w
      pick Running w = line_ends w
      pick Stopped w = refl

-- ---- events until the console waits

module _ (turns : ℕ) (c : Console) (s : List ℕ) where
  settled_waits : (event c s).waiting ≡ true → settled (suc turns) c s ≡ record { printed = []; console = c; left = s }
  unfolding settled
  settled_waits h = rw h

  settled_goes : (event c s).waiting ≡ false → settled (suc turns) c s ≡ after (event c s).printed (settled turns (event c s).console (drop (event c s).used s))
  unfolding settled
  settled_goes h = rw h

record Settles (c : Console) (s u : List ℕ) (r : Settled) : Type 0 where
  says : output_from c (s ++ u) ≡ r.printed ++ output_from r.console (r.left ++ u)
  keeps : Small r.console

settled_sound : (turns : ℕ) (c : Console) (s u : List ℕ) → Small c → Settles c s u (settled turns c s)
unfolding settled
settled_sound zero c s u g = record { says = refl; keeps = g }
settled_sound (suc turns) c s u g =
    by_test (event c s).waiting
    (λ h. rw (settled_waits turns c s h) (record { says = refl; keeps = g }))
    (λ h.
    let e = event_sound c s u g in
    let r = settled_sound turns (event c s).console (drop (event c s).used s) u e.keeps in
    rw (settled_goes turns c s h) (record {
      says = e.says ∙ ap (λ (w : List ℕ). (event c s).printed ++ w) r.says ∙ sym (append_assoc (event c s).printed _ _);
      keeps = r.keeps;
    }))

-- how many events there can be before it waits
abbrev pub todo_in : Stage → List ℕ → ℕ
todo_in Reading s = length s + 1
todo_in Running s = length s
todo_in Stopped s = 0

abbrev pub todo : Console → List ℕ → ℕ
todo c s = todo_in c.stage s

module _ (c : Console) (s : List ℕ) where
  started_less : (used line : ℕ) (p : Plan) → todo (started_event c used line (start p)).console (drop (started_event c used line (start p)).used s) < length s + 1
  started_less used line p = by_test (accepted (start p).answer) (λ h. rw h (omega (arith, length-drop used s))) (λ h. rw h (omega arith))

  plan_less : (plan_event c s).waiting ≡ false → todo (plan_event c s).console (drop (plan_event c s).used s) < length s + 1
  unfolding plan_event
  plan_less w =
      by_test (accepted (plan_prefix s).answer)
      (λ h. rw h (started_less (plan_prefix s).next (plan_prefix s).line (plan_prefix s).plan))
      (λ h. by_test (is_final s (plan_prefix s).answer)
      (λ f. rw (h, f) (omega arith))
      (λ f. absurd (false≢true (sym (rw (h, f) at w)))))

  report_less : (length s ≡ 0 → ⊥) → (o : Option (Report × ℕ)) → report_at s ≡ o → todo (report_event c o).console (drop (report_event c o).used s) < length s
  report_less nonempty (Some (report, place)) e =
      let n = (report_got s report place 0 (sym e)).1 in
      by_test (accepted (step c.run report).answer) (λ h. rw h (omega (arith, length-drop place s))) (λ h. rw h (omega arith))
  report_less nonempty None e = omega arith

  line_less : (line_event c s).waiting ≡ false → todo (line_event c s).console (drop (line_event c s).used s) < length s
  unfolding line_event line_ready
  line_less w =
      by_test (line_ready s)
      (λ h. rw h (report_less (λ z. ⊎_elim (λ l. omega arith) (λ l. omega arith) (either_ready (line_length s) (length s) h)) (report_at s) refl))
      (λ h. absurd (false≢true (sym (rw h at w))))

  pub event_less : (event c s).waiting ≡ false → todo (event c s).console (drop (event c s).used s) < todo c s
  unfolding event
  event_less w = pick c.stage w
    where
      pick : (x : Stage) → (event_in x c s).waiting ≡ false → todo (event_in x c s).console (drop (event_in x c s).used s) < todo_in x s
      pick Reading w = plan_less w
      pick Running w = line_less w
      pick Stopped w = absurd (false≢true (sym w))

  todo_few : todo c s < length s + 2
  todo_few = pick c.stage
    where
      pick : (x : Stage) → todo_in x s < length s + 2
      pick Reading = omega arith
      pick Running = omega arith
      pick Stopped = omega arith

-- with so many events it then waits
settled_enough : (turns : ℕ) (c : Console) (s : List ℕ) → todo c s < turns → (event (settled turns c s).console (settled turns c s).left).waiting ≡ true
settled_enough zero c s h = absurd (omega arith)
settled_enough (suc turns) c s h =
    by_test (event c s).waiting
    (λ w. rw (settled_waits turns c s w) w)
    (λ w. rw (settled_goes turns c s w) (settled_enough turns (event c s).console (drop (event c s).used s) (omega (arith, event_less c s w))))

-- ---- the program

-- all pieces together
abbrev pub together : List (List ℕ) → List ℕ
together [] = []
together (piece ∷ pieces) = piece ++ together pieces

session_sound : (c : Console) (left : List ℕ) (pieces : List (List ℕ)) → Small c → (event c left).waiting ≡ true → session c left pieces ≡ output_from c (left ++ together pieces)
unfolding session
session_sound c left [] g w = end_sound c left w ∙ ap (output_from c) (sym (append-nil left))
session_sound c left (piece ∷ pieces) g w =
    let s : List ℕ = left ++ piece in
    let turns : ℕ = length s + 2 in
    let e = settled_sound turns c s (together pieces) g in
    let r = settled turns c s in
    ap (λ (w : List ℕ). r.printed ++ w) (session_sound r.console r.left pieces e.keeps (settled_enough turns c s (todo_few c s)))
    ∙ sym e.says
    ∙ ap (output_from c) (append_assoc left piece (together pieces))

pub fresh_waits : (event fresh_console []).waiting ≡ true
unfolding event plan_event plan_prefix next_plan field value_in line_length lines_in is_final accepted
fresh_waits = refl

-- whatever pieces the input comes in, all that is printed is the output for the whole input
pub session_output : (pieces : List (List ℕ)) → session fresh_console [] pieces ≡ run_output (together pieces)
unfolding output_from
session_output pieces = session_sound fresh_console [] pieces (record { small = tt }) fresh_waits
