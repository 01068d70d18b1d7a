-- The run program: all that it reads to all that it prints.
use Rattle.std.specs.Prelude.{ℕ, zero, suc, List, [], ◌∷◌, ◌++◌, length, take, drop, if◌then◌else◌, Option, None, Some}
use Rattle.answers.specs.Answer.{Answer, accepted}
use Rattle.plan.specs.declared.Plan.{Plan}
use Rattle.words.specs.Words.{◌=?◌}
use Rattle.lines.specs.Lines.{bytes, comma, digits, same_bytes, number, Cursor, Read, got, refused, field}
use Rattle.plan_text.specs.Read.{next_plan, start_of}
use Rattle.entries.specs.declared.Standing.{Standing}
use Rattle.entries.specs.declared.Standing.TheVariants.{Waiting, Finished, Cut, Dropped}
use Rattle.entries.specs.declared.Entry.{Entry}
use Rattle.executive.specs.declared.Phase.{Phase}
use Rattle.executive.specs.declared.Phase.TheVariants.{T, H}
use Rattle.executive.specs.declared.Run.{Run}
use Rattle.ready.specs.declared.Slot.{Slot}
use Rattle.entries.specs.declared.Kind.{Kind}
use Rattle.entries.specs.declared.Kind.TheVariants.{End, More}
use Rattle.executive.specs.declared.Report.{Report}
use Rattle.executive.specs.declared.Started.{Started}
use Rattle.executive.specs.Run.{start, current_hi, current_lo}
use Rattle.executive.specs.Choice.{chosen}
use Rattle.executive.specs.Step.{step}
use Rattle.console.specs.Print.{signed, values, refused_line}

-- ---- what is read: lines `report=slot,kind`

unfoldable pub kind_in : List ℕ → Option Kind
kind_in s =
    if same_bytes s (bytes "end") then Some End
    else if same_bytes s (bytes "more") then Some More
    else if same_bytes s (bytes "none") then Some Kind.None
    else None

-- how many bytes stand before the first comma
unfoldable pub before_comma : List ℕ → ℕ
before_comma [] = 0
before_comma (b ∷ s) =
    let longer = suc (before_comma s) in
    if b =? comma then 0 else longer

abbrev pub report : Option ℕ → Option Kind → Option Report
report None kind = None
report (Some slot) None = None
report (Some slot) (Some kind) = Some (record { slot = slot; kind = kind })

-- the slot stands before the first comma, the kind after it
unfoldable pub report_in : List ℕ → Option Report
report_in s = report (number (take (before_comma s) s)) (kind_in (drop (suc (before_comma s)) s))

-- the report lines in order, up to the end of input or a bad line
pub data Reports : Type 0 where
  end : Reports
  bad : Answer → Reports
  next : Report → Reports → Reports

abbrev pub report_then : Read Report → (Cursor → Reports) → Reports
report_then (got report here) onward = next report (onward here)
report_then (refused answer) onward = bad answer

-- at most `lines` of them
unfoldable pub reports_in : ℕ → Cursor → Reports
reports_in zero here = end
reports_in (suc lines) here =
    let more = report_then (field report_in "report=" here) (λ after. reports_in lines after) in
    if length here.text =? 0 then end else more

-- ---- what is printed

abbrev pub job_number : Slot → ℕ
job_number (Slot.Job k) = k
job_number Slot.Idle = 0

abbrev pub phase_letter : Phase → List ℕ
phase_letter T = bytes "T"
phase_letter H = bytes "H"

abbrev pub standing_letter : Standing → List ℕ
standing_letter Waiting = bytes "W"
standing_letter (Finished border) = bytes "F"
standing_letter (Cut border) = bytes "C"
standing_letter (Dropped border) = bytes "D"

-- `step=slot,job,phase,hi,lo`: what was chosen, the phase and current spares before the slot
unfoldable pub step_line : Run → List ℕ
step_line r = values "step=" (digits r.t ∷ digits (job_number (chosen r)) ∷ phase_letter r.phase ∷ signed (current_hi r) ∷ signed (current_lo r) ∷ [])

-- per job, `job=number,standing,given`
unfoldable pub job_lines_from : ℕ → List Entry → List ℕ
job_lines_from k [] = []
job_lines_from k (e ∷ es) = values "job=" (digits k ∷ standing_letter e.standing ∷ digits e.given ∷ []) ++ job_lines_from (suc k) es

unfoldable pub job_lines : Run → List ℕ
job_lines r = job_lines_from 1 (take r.plan.jobs r.entry)

-- ---- the program

-- a step line after each accepted report, the job lines at the end of input; a refusal prints one line and stops
unfoldable pub go_on : Run → Reports → List ℕ
go_on r end = job_lines r
go_on r (bad answer) = refused_line answer
go_on r (next report reports) =
    let stepped = step r report in
    let onward = step_line r ++ go_on stepped.run reports in
    if accepted stepped.answer then onward else refused_line stepped.answer

-- no line is without bytes, so a text of k bytes has at most k lines
abbrev pub started_output : Started → Cursor → List ℕ
started_output started here =
    if accepted started.answer then go_on started.run (reports_in (length here.text) here) else refused_line started.answer

-- a plan and, directly after it, the reports
abbrev pub plan_output : Read Plan → List ℕ
plan_output (got plan here) = started_output (start plan) here
plan_output (refused answer) = refused_line answer

unfoldable pub run_output : List ℕ → List ℕ
run_output input = plan_output (next_plan (start_of input))
