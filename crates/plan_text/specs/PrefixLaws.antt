-- Laws of the plan at a place of a text: the rest of the text begins at the place that is handed back.
use Rattle.std.specs.Prelude.{ℕ, ◌≤◌, ◌≡◌, List}
use Rattle.std.proofs.Common.{arith}
use Rattle.std.proofs.Math.Path.{refl, ap}
use Rattle.std.proofs.Math.Bool.{true, false}
use Rattle.std.proofs.Math.ListN.{length}
use Rattle.answers.specs.Answer.{SlotLimit, JobLimit, accepted, ◌unless◌}
use Rattle.plan.specs.declared.Plan.{Plan}
use Rattle.plan.specs.Limits.{max_slots, max_jobs, one_to}
use Rattle.lines.specs.Lines.{number, Read, got, refused, must, many, field}
use Rattle.lines.specs.Reading.{standing}
use Rattle.lines.specs.ForwardLaws.{end_self, end_place, Forward, GoesForward, onward_forward, must_forward, many_forward, field_forward}
use Rattle.plan_text.specs.Read.{level_in, next_job, next_plan, start_of}
use Rattle.plan_text.specs.Reader.{prefix_of, plan_from, plan_prefix}
use Rattle.plan_text.specs.declared.reader.PlanPrefix.{PlanPrefix}

-- from the start of the text on, every line has a number
pub from_start : (t : List ℕ) → plan_from t 0 1 ≡ plan_prefix t
unfolding plan_from plan_prefix
from_start t = refl

-- ---- a plan's reader goes forward: the rest of the text begins at the place that is handed back

pub job_forward : GoesForward next_job
unfolding next_job
job_forward here =
    onward_forward here.text (field level_in "level=" here) _ (field_forward level_in "level=" here)
    (λ level a. onward_forward a.text (field number "release=" a) _ (field_forward number "release=" a)
    (λ release b. onward_forward b.text (field number "deadline=" b) _ (field_forward number "deadline=" b)
    (λ deadline c. onward_forward c.text (field number "lo=" c) _ (field_forward number "lo=" c)
    (λ lo d. onward_forward d.text (field number "hi=" d) _ (field_forward number "hi=" d) (λ hi e. end_self e.text)))))

pub plan_forward : GoesForward next_plan
unfolding next_plan
plan_forward here =
    onward_forward here.text (field number "slots=" here) _ (field_forward number "slots=" here)
    (λ slots a. onward_forward a.text (must (SlotLimit unless one_to max_slots slots) a) _ (must_forward _ a)
    (λ u b. onward_forward b.text (field number "jobs=" b) _ (field_forward number "jobs=" b)
    (λ jobs c. onward_forward c.text (must (JobLimit unless one_to max_jobs jobs) c) _ (must_forward _ c)
    (λ v d. onward_forward d.text (many jobs next_job d) _ (many_forward jobs next_job job_forward d)
    (λ job e. onward_forward e.text (many slots (field number "slot=") e) _ (many_forward slots (field number "slot=") (field_forward number "slot=") e)
    (λ table f. end_self f.text))))))

-- an accepted prefix: the plan was read, and the reader stands where it says
pub prefix_stands : (t : List ℕ) (r : PlanPrefix) → r ≡ plan_prefix t → accepted r.answer ≡ true
    → (next_plan (start_of t) ≡ got r.plan (standing t r.next r.line)) × (r.next ≤ length t)
unfolding plan_prefix
prefix_stands t r e accepts = read (next_plan (start_of t)) (plan_forward (start_of t)) e
  where
    read : (q : Read Plan) → Forward t q → r ≡ prefix_of t q → (q ≡ got r.plan (standing t r.next r.line)) × (r.next ≤ length t)
    read (got plan here) f p =
        let w = end_place f in
        rw p (ap (λ (s : List ℕ). got plan (record { line_no = here.line_no; text = s })) w.1, omega arith)
    read (refused answer) f p =
        let a : r.answer ≡ answer = ap (λ (x : PlanPrefix). x.answer) p in
        absurd (let z : ◌≡◌ {A = ℕ} 0 1 = cc in omega arith)

-- a refused one: that is the answer
pub prefix_refused : (t : List ℕ) (r : PlanPrefix) → r ≡ plan_prefix t → accepted r.answer ≡ false
    → next_plan (start_of t) ≡ refused r.answer
unfolding plan_prefix accepted
prefix_refused t r e refuses = read (next_plan (start_of t)) e
  where
    read : (q : Read Plan) → r ≡ prefix_of t q → q ≡ refused r.answer
    read (got plan here) p =
        let a : accepted r.answer ≡ true = ap (λ (x : PlanPrefix). accepted x.answer) p in
        absurd (let z : ◌≡◌ {A = ℕ} 0 1 = cc in omega arith)
    read (refused answer) p = rw p
