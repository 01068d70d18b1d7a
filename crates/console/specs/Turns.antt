-- What the console's functions answer: the event, written into the lent output; the step line by the choice; and their laws.
use Rattle.std.specs.Prelude.{ℕ, ◌+◌, ◌≤◌, ◌<◌, ◌≡◌, Bool, List, [], ◌++◌, drop, Option, None, Some, IfSome, Ok, Err}
use Rattle.std.specs.Array.{IsFirstChunk}
use native.Mathlib.Omega.{arith}
use Rattle.std.proofs.Math.Path.{refl, ap}
use Rattle.std.proofs.Common.{sym, ◌∙◌}
use Rattle.std.proofs.Math.Bool.{true, false}
use Rattle.std.proofs.Math.ListN.{length}
use borrow.Author.Tests.{lt-ltb, le-ltb, le-leb, lt-leb, eq-eqb, ne_eqb}
use Rattle.words.specs.Words.{◌≤?◌}
use Rattle.words.specs.Cases.{by_test, never}
use Rattle.answers.specs.declared.Refusal.{Refusal}
use Rattle.answers.specs.Answer.{Answer, Form, accepted, first_place}
use Rattle.lines.specs.Lines.{line_length, lines_in}
use Rattle.lines.specs.Writing.{put}
use Rattle.lines.specs.WritingLaws.{put_nil, length_put}
use Rattle.plan_text.specs.declared.reader.PlanPrefix.{PlanPrefix}
use Rattle.plan_text.specs.Reader.{plan_prefix}
use Rattle.plan_text.specs.PrefixLaws.{prefix_stands}
use Rattle.plan_text.specs.DecidedLaws.{enough, is_final}
use Rattle.executive.specs.declared.Run.{Run}
use Rattle.executive.specs.declared.Report.{Report}
use Rattle.executive.specs.declared.Started.{Started}
use Rattle.executive.specs.declared.Stepped.{Stepped}
use Rattle.executive.specs.Choice.{made_choice}
use Rattle.executive.specs.Step.{report_answer, step}
use Rattle.executive.specs.Run.{start}
use Rattle.console.specs.declared.run.Stage.{Stage}
use Rattle.console.specs.declared.run.Stage.TheVariants.{Reading, Running, Stopped}
use Rattle.console.specs.declared.run.Console.{Console}
use Rattle.console.specs.declared.run.Turn.{Turn}
use Rattle.console.specs.Print.{refused_line}
use Rattle.console.specs.Run.{step_line, job_lines}
use Rattle.console.specs.Reports.{report_at, report_within}
use Rattle.console.specs.Pieces.{Piece, CountsIn, counts_in_lem, chunk_put}
use Rattle.console.specs.Printed.{step_line_from}
use Rattle.console.specs.Console.{Event, waits, refuses, started_event, plan_event, line_ready, longest_report, line_after, stepped_event, report_event, line_event, event_in, event, unread_output, end_in, end_output, run_room, turn_of, next_turn, next_out, end_length, end_written}

-- the turn is the event's, none where the console waits, and what the event prints stands at the start of the output
pub record Told (e : Event) (d : List ℕ) (r : Option Turn) (d' : List ℕ) : Type 0 where
  pub turn : r ≡ turn_of e
  pub text : d' ≡ put 0 e.printed d
  pub short : length e.printed ≤ run_room

-- the turn of a console that has moved, by how much of the text is done with and how much was printed; none where it waits
abbrev pub turn_in : Console → Option (ℕ × ℕ) → Option Turn
turn_in c None = None
turn_in c (Some did) = Some (record { console = c; used = did.0; printed = did.1 })

-- a console that waits prints nothing
pub told_wait : (c : Console) (d : List ℕ) → Told (waits c) d None d
told_wait c d = record { turn = refl; text = put_nil 0 d (omega arith); short = omega arith }

-- an event that prints nothing
pub told_quiet : (e : Event) (d : List ℕ) (r : Option Turn) → e.printed ≡ [] → r ≡ turn_of e → Told e d r d
told_quiet e d r h p = record { turn = p; text = put_nil 0 d (omega arith) ∙ ap (λ (w : List ℕ). put 0 w d) (sym h); short = omega (arith, ap length h) }

-- a line written at the start
pub told_line : {m n : ℕ} {w d d' : List ℕ} (e : Event) (r : Turn) → m ≤ run_room → Piece m 0 w d n d' → e.printed ≡ w → e.waiting ≡ false
    → r ≡ record { console = e.console; used = e.used; printed = n } → Told e d (Some r) d'
told_line {m} {n} {w} {d} e r few p h goes q =
    let l : n ≡ length e.printed = p.place ∙ (omega (arith, ap length h)) in
    record { turn = rw (q, l, goes) refl; text = p.text ∙ ap (λ (x : List ℕ). put 0 x d) (sym h); short = omega (arith, p.short, ap length h) }

pub told_is : {e e' : Event} {d d' : List ℕ} {r : Option Turn} → e ≡ e' → Told e d r d' → Told e' d r d'
told_is q t = rw (← q) t

-- ---- the plan

-- an answer that is a refusal, and one that is not
err_refused : {a : Answer} {e : Refusal} → a ≡ Err e → accepted a ≡ false
unfolding accepted
err_refused h = rw h

ok_accepted : {a : Answer} {u : Unit {0}} → a ≡ Ok u → accepted a ≡ true
unfolding accepted
ok_accepted h = rw h

module _ (c : Console) (used line : ℕ) (s t : Started) (is : s ≡ t) where
  pub started_refused : (e : Refusal) → s.answer ≡ Err e → refuses c (Err e) ≡ started_event c used line t
  started_refused e h = let h' : t.answer ≡ Err e = rw is at h in rw (err_refused h', h')

  pub started_runs : (u : Unit {0}) → s.answer ≡ Ok u
      → record { printed = []; console = record { stage = Running; run = s.run; line = line }; used = used; waiting = false } ≡ started_event c used line t
  started_runs u h = let h' : t.answer ≡ Ok u = rw is at h in rw (ok_accepted h', is)

module _ (c : Console) (s : List ℕ) (p : PlanPrefix) (is : p ≡ plan_prefix s) where
  pub plan_begins : (u : Unit {0}) → p.answer ≡ Ok u → started_event c p.next p.line (start p.plan) ≡ plan_event c s
  unfolding plan_event
  plan_begins u h = let h' : (plan_prefix s).answer ≡ Ok u = rw is at h in rw (ok_accepted h', is)

  module _ (e : Refusal) (h : p.answer ≡ Err e) where
    h' : (plan_prefix s).answer ≡ Err e
    h' = rw is at h

    module _ (t : Bool) (final : t ≡ is_final s (Err e)) where
      pub plan_waits : t ≡ false → waits c ≡ plan_event c s
      unfolding plan_event
      plan_waits l = let f : is_final s (Err e) ≡ false = sym final ∙ l in rw (err_refused h', h', f)

      pub plan_refused : t ≡ true → refuses c (Err e) ≡ plan_event c s
      unfolding plan_event
      plan_refused l = let f : is_final s (Err e) ≡ true = sym final ∙ l in rw (err_refused h', h', f)

module _ (s : List ℕ) (p : PlanPrefix) (is : p ≡ plan_prefix s) where
  pub unread_refused : (e : Refusal) → p.answer ≡ Err e → refused_line (Err e) ≡ unread_output (plan_prefix s)
  unread_refused e h = let h' : (plan_prefix s).answer ≡ Err e = rw is at h in rw (err_refused h', h')

  pub unread_none : (u : Unit {0}) → p.answer ≡ Ok u → [] ≡ unread_output (plan_prefix s)
  unread_none u h = let h' : (plan_prefix s).answer ≡ Ok u = rw is at h in rw (ok_accepted h')

module _ (s : List ℕ) (x : Answer) (line : ℕ) (is : line ≡ first_place x) (t : Bool) (has : t ≡ (line ≤? lines_in s)) where
  pub final_closed : t ≡ true → t ≡ is_final s x
  unfolding is_final
  final_closed h = rw (← is, ← has, h)

  pub final_long : t ≡ false → (enough ≤? length s) ≡ is_final s x
  unfolding is_final
  final_long h = rw (← is, ← has, h)

-- ---- a report line

module _ (s : List ℕ) (k : ℕ) (ends : k ≡ 0 + line_length (drop 0 s)) where
  pub ready_closed : k < length s → true ≡ line_ready s
  unfolding line_ready
  ready_closed h = rw (lt-ltb (line_length s) (length s) (omega arith))

  pub ready_long : length s ≤ k → (longest_report ≤? length s) ≡ line_ready s
  unfolding line_ready
  ready_long h = rw (le-ltb (line_length s) (length s) (omega arith))

module _ (c : Console) (s : List ℕ) where
  pub line_waits : line_ready s ≡ false → waits c ≡ line_event c s
  unfolding line_event
  line_waits h = rw h

  module _ (h : line_ready s ≡ true) where
    pub line_bad : None ≡ report_at s → refuses c (Form c.line) ≡ line_event c s
    unfolding line_event
    line_bad e = rw (h, ← e)

    pub line_steps : (report : Report) (used : ℕ) → ◌≡◌ {A = Option (Report × ℕ)} (Some (report, used)) (report_at s) → stepped_event c used (step c.run report) ≡ line_event c s
    unfolding line_event
    line_steps report used e = rw (h, ← e)

  pub rest_none : length s ≡ 0 → job_lines c.run ≡ end_in Running c s
  rest_none h = rw (eq-eqb (length s) 0 h)

  pub rest_bad : (length s ≡ 0 → ⊥) → refused_line (Form c.line) ≡ end_in Running c s
  rest_bad h = rw (ne_eqb (length s) 0 h)

-- ---- a step

module _ (c : Console) (used : ℕ) (s t : Stepped) (is : s ≡ t) where
  pub step_refused : (e : Refusal) → s.answer ≡ Err e → refuses c (Err e) ≡ stepped_event c used t
  step_refused e h = let h' : t.answer ≡ Err e = rw is at h in rw (err_refused h', h')

  pub step_taken : (u : Unit {0}) → s.answer ≡ Ok u → (line : ℕ) → line ≡ line_after c.line
      → record { printed = step_line c.run; console = record { stage = Running; run = s.run; line = line }; used = used; waiting = false } ≡ stepped_event c used t
  step_taken u h line e = let h' : t.answer ≡ Ok u = rw is at h in rw (ok_accepted h', is, e)

-- the step line, from the choice that the step handed back
pub step_line_lem : (r : Run) (report : Report) (s : Stepped) → s ≡ step r report → (u : Unit {0}) → s.answer ≡ Ok u → step_line_from r s.choice ≡ step_line r
unfolding step_line step made_choice
step_line_lem r report s is u ok =
    let h : accepted s.answer ≡ true = ok_accepted ok in
    by_test (accepted (report_answer r report))
    (λ g. let c : s.choice ≡ made_choice r = ap (λ (x : Stepped). x.choice) is ∙ rw g in rw c)
    (λ g. let f : accepted s.answer ≡ false = ap (λ (x : Stepped). accepted x.answer) is ∙ rw g g in absurd (never h f))

-- ---- the console

pub stage_event : (c : Console) (s : List ℕ) (x : Stage) → c.stage ≡ x → event_in x c s ≡ event c s
unfolding event
stage_event c s x e = rw e

pub stage_end : (c : Console) (s : List ℕ) (x : Stage) → c.stage ≡ x → end_in x c s ≡ end_output c s
unfolding end_output
stage_end c s x e = rw e

-- an event uses no more than the text in hand
module _ (c : Console) (s : List ℕ) where
  started_used : (next line : ℕ) (p : Started) → next ≤ length s → (started_event c next line p).used ≤ length s
  started_used next line p h = by_test (accepted p.answer) (λ e. rw e h) (λ e. rw e (omega arith))

  plan_used : (plan_event c s).used ≤ length s
  unfolding plan_event
  plan_used =
      by_test (accepted (plan_prefix s).answer)
      (λ h. rw h (started_used (plan_prefix s).next (plan_prefix s).line (start (plan_prefix s).plan) (prefix_stands s (plan_prefix s) refl h).1))
      (λ h. by_test (is_final s (plan_prefix s).answer) (λ f. rw (h, f) (omega arith)) (λ f. rw (h, f) (omega arith)))

  line_used : (line_event c s).used ≤ length s
  unfolding line_event
  line_used = by_test (line_ready s) (λ h. rw h (pick (report_at s) refl)) (λ h. rw h (omega arith))
    where
      pick : (o : Option (Report × ℕ)) → report_at s ≡ o → (report_event c o).used ≤ length s
      pick (Some (report, next)) e =
          let n : next ≤ length s = report_within s report next (sym e) in
          by_test (accepted (step c.run report).answer) (λ h. rw h n) (λ h. rw h (omega arith))
      pick None e = omega arith

  event_used : (event c s).used ≤ length s
  unfolding event
  event_used = pick c.stage
    where
      pick : (x : Stage) → (event_in x c s).used ≤ length s
      pick Reading = plan_used
      pick Running = line_used
      pick Stopped = omega arith

module _ (c : Console) (s d : List ℕ) where
  pub next_no_room : length d < run_room → (None ≡ next_turn c s d) × (d ≡ next_out c s d)
  unfolding next_turn next_out
  next_no_room h = rw (lt-leb run_room (length d) h) (refl, refl)

  module _ (e : List ℕ) (k : IsFirstChunk d e run_room) where
    pub next_told : (r : Option Turn) (f : List ℕ) → Told (event c s) e r f
        → (r ≡ next_turn c s d) × ((f ++ drop run_room d ≡ next_out c s d) × IfSome r (λ (t : Turn). (t.used ≤ length s) × CountsIn t.printed (f ++ drop run_room d)))
    unfolding next_turn next_out
    next_told r f t =
        let p : List ℕ = (event c s).printed in
        let out : f ++ drop run_room d ≡ put 0 p d = ap (λ (x : List ℕ). x ++ drop run_room d) t.text ∙ chunk_put run_room p d e k t.short in
        let l : length (f ++ drop run_room d) ≡ length d = ap length out ∙ length_put 0 p d (omega (arith, t.short, k.enough)) in
        let counts : CountsIn (length p) (f ++ drop run_room d) = counts_in_lem (length p) (f ++ drop run_room d) (omega (arith, t.short, k.enough)) in
        let bounds : IfSome r (λ (t : Turn). (t.used ≤ length s) × CountsIn t.printed (f ++ drop run_room d)) = by_test (event c s).waiting (λ w. rw (t.turn, w) tt) (λ w. rw (t.turn, w) (event_used c s, counts)) in
        rw (le-leb run_room (length d) k.enough) (t.turn, (out, bounds))

    pub end_told : (r : ℕ) (f : List ℕ) → Piece run_room 0 (end_output c s) e r f → (r ≡ end_length c s d) × ((f ++ drop run_room d ≡ end_written c s d) × CountsIn r (f ++ drop run_room d))
    unfolding end_length end_written
    end_told r f p =
        let w : List ℕ = end_output c s in
        let out : f ++ drop run_room d ≡ put 0 w d = ap (λ (x : List ℕ). x ++ drop run_room d) p.text ∙ chunk_put run_room w d e k p.short in
        let l : length (f ++ drop run_room d) ≡ length d = ap length out ∙ length_put 0 w d (omega (arith, p.short, k.enough)) in
        rw (le-leb run_room (length d) k.enough) (omega (arith, p.place), (out, counts_in_lem r (f ++ drop run_room d) (omega (arith, p.place, p.short, k.enough))))

  pub end_no_room : length d < run_room → (0 ≡ end_length c s d) × ((d ≡ end_written c s d) × CountsIn 0 d)
  unfolding end_length end_written
  end_no_room h = rw (lt-leb run_room (length d) h) (refl, (refl, counts_in_lem 0 d (omega arith)))
