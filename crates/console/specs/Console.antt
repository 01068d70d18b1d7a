-- The run program as a console that is handed its input piece by piece: what it prints for the text in hand, and how it goes on.
-- That all it prints is the program's whole output, whatever the pieces, is in PiecesLaws.
use Rattle.std.specs.Prelude.{ℕ, zero, suc, ◌+◌, ◌*◌, Bool, true, false, ◌||◌, List, [], ◌∷◌, ◌++◌, length, drop, if◌then◌else◌, Option, None, Some}
use Rattle.words.specs.Words.{◌≤?◌, ◌<?◌, ◌=?◌}
use Rattle.answers.specs.Answer.{Answer, Form, accepted}
use Rattle.lines.specs.Lines.{line_length}
use Rattle.lines.specs.Writing.{put}
use Rattle.plan.specs.Limits.{max_jobs}
use Rattle.plan_text.specs.declared.reader.PlanPrefix.{PlanPrefix}
use Rattle.plan_text.specs.Reader.{plan_prefix}
use Rattle.plan_text.specs.DecidedLaws.{is_final}
use Rattle.executive.specs.declared.Started.{Started}
use Rattle.executive.specs.declared.Stepped.{Stepped}
use Rattle.executive.specs.Run.{blank_run, start}
use Rattle.executive.specs.Step.{step}
use Rattle.console.specs.declared.run.Stage.{Stage}
use Rattle.console.specs.declared.run.Stage.TheVariants.{Reading, Running, Stopped}
use Rattle.console.specs.declared.run.Console.{Console}
use Rattle.console.specs.declared.run.Turn.{Turn}
use Rattle.executive.specs.declared.Report.{Report}
use Rattle.console.specs.Print.{refused_line}
use Rattle.console.specs.Run.{step_line, job_lines}
use Rattle.console.specs.Reports.{report_at}
use Rattle.console.specs.Pieces.{longest}

-- before any input
abbrev pub fresh_console : Console
fresh_console = record { stage = Reading; run = blank_run; line = 0 }

-- after a refusal nothing more is looked at
abbrev pub stopped : Console → Console
stopped c = record { stage = Stopped; run = c.run; line = c.line }

-- what is printed for the text in hand, the console then, how much of the text is done with, and whether it waits for more
pub record Event : Type 0 where
  pub printed : List ℕ
  pub console : Console
  pub used : ℕ
  pub waiting : Bool

abbrev pub waits : Console → Event
waits c = record { printed = []; console = c; used = 0; waiting = true }

abbrev pub refuses : Console → Answer → Event
refuses c answer = record { printed = refused_line answer; console = stopped c; used = 0; waiting = false }

-- ---- the plan

abbrev pub started_event : Console → ℕ → ℕ → Started → Event
started_event c used line started =
    if accepted started.answer
    then record { printed = []; console = record { stage = Running; run = started.run; line = line }; used = used; waiting = false }
    else refuses c started.answer

-- a refusal is given once the line at fault is complete, or with `enough` bytes in hand: more text would not change it
abbrev pub prefix_event : Console → List ℕ → PlanPrefix → Event
prefix_event c s prefix =
    if accepted prefix.answer then started_event c prefix.next prefix.line (start prefix.plan)
    else if is_final s prefix.answer then refuses c prefix.answer
    else waits c

unfoldable pub plan_event : Console → List ℕ → Event
plan_event c s = prefix_event c s (plan_prefix s)

-- ---- a report line

-- `report=9999,more` and LF are the longest line that is of the form
abbrev pub longest_report : ℕ
longest_report = 17

-- a line is judged once its LF is in hand, or once it is too long to be of the form
unfoldable pub line_ready : List ℕ → Bool
line_ready s = (line_length s <? length s) || (longest_report ≤? length s)

-- the number of the next line, in 16 bits; no run has so many lines
abbrev pub line_after : ℕ → ℕ
line_after line = if line <? 65535 then line + 1 else line

abbrev pub stepped_event : Console → ℕ → Stepped → Event
stepped_event c next stepped =
    if accepted stepped.answer
    then record { printed = step_line c.run; console = record { stage = Running; run = stepped.run; line = line_after c.line }; used = next; waiting = false }
    else refuses c stepped.answer

abbrev pub report_event : Console → Option (Report × ℕ) → Event
report_event c (Some (report, next)) = stepped_event c next (step c.run report)
report_event c None = refuses c (Form c.line)

unfoldable pub line_event : Console → List ℕ → Event
line_event c s = if line_ready s then report_event c (report_at s) else waits c

-- ---- the console

abbrev pub event_in : Stage → Console → List ℕ → Event
event_in Reading c s = plan_event c s
event_in Running c s = line_event c s
event_in Stopped c s = waits c

unfoldable pub event : Console → List ℕ → Event
event c s = event_in c.stage c s

-- at the end of input, s being left: a plan that is not complete is refused, a line that is not finished is bad
abbrev pub unread_output : PlanPrefix → List ℕ
unread_output prefix = if accepted prefix.answer then [] else refused_line prefix.answer

abbrev pub end_in : Stage → Console → List ℕ → List ℕ
end_in Reading c s = unread_output (plan_prefix s)
end_in Running c s = if length s =? 0 then job_lines c.run else refused_line (Form c.line)
end_in Stopped c s = []

unfoldable pub end_output : Console → List ℕ → List ℕ
end_output c s = end_in c.stage c s

abbrev pub is_stopped : Stage → Bool
is_stopped Reading = false
is_stopped Running = false
is_stopped Stopped = true

-- ---- what the code writes into the lent output

-- room for a line of each job
abbrev pub run_room : ℕ
run_room = max_jobs * longest

-- a turn for an event; none where the console waits
abbrev pub turn_of : Event → Option Turn
turn_of e = if e.waiting then None else Some (record { console = e.console; used = e.used; printed = length e.printed })

-- without room nothing happens: the console waits, and the output stays as it is
unfoldable pub next_turn : Console → List ℕ → List ℕ → Option Turn
next_turn c s d = turn_of (if run_room ≤? length d then event c s else waits c)

unfoldable pub next_out : Console → List ℕ → List ℕ → List ℕ
next_out c s d = if run_room ≤? length d then put 0 (event c s).printed d else d

unfoldable pub end_length : Console → List ℕ → List ℕ → ℕ
end_length c s d = if run_room ≤? length d then length (end_output c s) else 0

unfoldable pub end_written : Console → List ℕ → List ℕ → List ℕ
end_written c s d = if run_room ≤? length d then put 0 (end_output c s) d else d

-- ---- the program

-- what was printed for the text in hand, the console that then waits, and the text that is left
pub record Settled : Type 0 where
  pub printed : List ℕ
  pub console : Console
  pub left : List ℕ

abbrev pub after : List ℕ → Settled → Settled
after w r = record { printed = w ++ r.printed; console = r.console; left = r.left }

-- events until the console waits, at most `turns` of them
unfoldable pub settled : ℕ → Console → List ℕ → Settled
settled zero c s = record { printed = []; console = c; left = s }
settled (suc turns) c s =
    let e = event c s in
    let onward = after e.printed (settled turns e.console (drop e.used s)) in
    if e.waiting then record { printed = []; console = c; left = s } else onward

-- a piece is added to what is left, and all that can be answered is answered; then the next piece, and at last the end of input
unfoldable pub session : Console → List ℕ → List (List ℕ) → List ℕ
session c left [] = end_output c left
session c left (piece ∷ pieces) =
    let s = left ++ piece in
    let now = settled (length s + 2) c s in
    now.printed ++ session now.console now.left pieces
