-- What the reader's functions answer: a line, a job, the jobs, the slots, and the plan at a place of a text.
use Rattle.std.specs.Prelude.{ℕ, ◌+◌, ◌-◌, ◌*◌, ◌≤◌, ◌≡◌, Bool, true, List, length, Option, Some, None, Result, Ok, Err, is_ok, if◌then◌else◌}
use Rattle.words.specs.Words.{◌≤?◌}
use Rattle.answers.specs.declared.Refusal.{Refusal}
use Rattle.answers.specs.Answer.{Answer, Accepted, Form}
use Rattle.plan.specs.declared.Plan.{Plan}
use Rattle.plan.specs.Limits.{max_slots, max_jobs}
use Rattle.plan.specs.Plan.{blank_plan}
use Rattle.lines.specs.Lines.{Read, got, refused, Reader, Cursor}
use Rattle.lines.specs.Reading.{standing}
use Rattle.plan_text.specs.Read.{next_plan, start_of}
use Rattle.plan_text.specs.declared.PlanRead.{PlanRead}
use Rattle.plan_text.specs.declared.reader.PlanPrefix.{PlanPrefix}
use Rattle.plan_text.specs.declared.reader.Lines.{Lines}

-- ---- lines and the definitions' cursor

-- where the lines stand
abbrev pub stands : Lines → Cursor
stands r = standing r.reader.text.now r.reader.at r.line

-- a thing and the lines after it, or a refusal
abbrev pub read_of : {A : Type 0} → Result A Refusal → Lines → Read A
read_of (Ok a) r = got a (stands r)
read_of (Err e) r = refused (Err e)

-- the answer and the lines after it are those of the reader, which takes at most k lines; what was read stands in the text
pub record Reads {A : Type 0} (one : Reader A) (k : ℕ) (before : Lines) (answer : Result A Refusal) (after : Lines) : Type 0 where
  pub read : read_of answer after ≡ one (stands before)
  pub text : after.reader.text ≡ before.reader.text
  pub lines : after.line ≤ before.line + k
  pub within : is_ok answer ≡ true → after.reader.at ≤ length after.reader.text.now

-- what was found on a line and the place after it are taken; nothing was found: 1 at the line
abbrev pub Taken : {A : Type 0} → Lines → Option (A × ℕ) → Result A Refusal → Lines → Type 0
Taken before (Some v) answer after = (answer ≡ Ok v.0) × (after ≡ record before { reader = record before.reader { at = v.1 }; line = before.line + 1 })
Taken before None answer after = (answer ≡ Err (Refusal.Form before.line)) × (after ≡ before)

-- ---- the jobs, the slots and the plan

-- a thing read into a lent place
abbrev pub read_into : {A : Type 0} → A → Result Unit Refusal → Result A Refusal
read_into a (Ok u) = Ok a
read_into a (Err e) = Err e

-- ---- the plan at a place of a text

-- a line's number has 16 bits
abbrev pub last_line : ℕ
last_line = 65535

-- the lines of the largest plan
abbrev pub plan_lines : ℕ
plan_lines = 2 + 5 * max_jobs + max_slots

-- every line of a plan that starts at line l has a number
abbrev pub numbered : ℕ → Bool
numbered l = l + plan_lines ≤? last_line

-- a refused text yields the blank plan
abbrev pub refused_prefix : Answer → PlanPrefix
refused_prefix answer = record { answer = answer; plan = blank_plan; next = 0; line = 0 }

-- a plan that was read, or the refusal beside the blank plan
abbrev pub plan_told : Result Plan Refusal → PlanRead
plan_told (Ok plan) = record { answer = Accepted; plan = plan }
plan_told (Err e) = record { answer = Err e; plan = blank_plan }

-- what was read of a text: where the rest begins, and its line
abbrev pub prefix_of : List ℕ → Read Plan → PlanPrefix
prefix_of text (got plan here) = record { answer = Accepted; plan = plan; next = length text - length here.text; line = here.line_no }
prefix_of text (refused answer) = refused_prefix answer

-- the plan at a place, before line l; one whose lines would pass the last number is refused at its first
unfoldable pub plan_from : List ℕ → ℕ → ℕ → PlanPrefix
plan_from text at l = if numbered l then prefix_of text (next_plan (standing text at l)) else refused_prefix (Form l)

-- the plan at the start of a text
unfoldable pub plan_prefix : List ℕ → PlanPrefix
plan_prefix text = prefix_of text (next_plan (start_of text))

-- a plan that was read and where the lines then stand, or the refusal beside the blank plan
abbrev pub prefix_told : Result Plan Refusal → Lines → PlanPrefix
prefix_told (Ok plan) r = record { answer = Accepted; plan = plan; next = r.reader.at; line = r.line }
prefix_told (Err e) r = refused_prefix (Err e)
