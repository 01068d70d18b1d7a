-- One report, applied.
use Rattle.std.specs.Prelude.{ℕ, ◌+◌, ◌-◌, Bool, true, false, ◌&&◌, List, [], ◌∷◌, set, if◌then◌else◌}
use Rattle.plan.specs.declared.Job.{Job}
use Rattle.answers.specs.Answer.{Answer, Accepted, OtherSlot, WrongKind, accepted, ◌unless◌, ◌and_then◌}
use Rattle.words.specs.Words.{◌=?◌}
use Rattle.plan.specs.Plan.{jobs_of, job_no, counts_at}
use Rattle.entries.specs.declared.Entry.{Entry}
use Rattle.executive.specs.declared.Phase.{Phase}
use Rattle.executive.specs.declared.Phase.TheVariants.{T, H}
use Rattle.executive.specs.declared.Run.{Run}
use Rattle.ready.specs.declared.Slot.{Slot}
use Rattle.entries.specs.declared.Kind.{Kind}
use Rattle.entries.specs.declared.Kind.TheVariants.{End, More, None}
use Rattle.executive.specs.declared.Report.{Report}
use Rattle.executive.specs.declared.Stepped.{Stepped}
use Rattle.entries.specs.Entry.{ran_on, expired_entry, past_lo, settled}
use Rattle.executive.specs.Run.{entry_no, fresh_hi, fresh_lo}
use Rattle.executive.specs.Choice.{chosen, can_go_on, made_choice, no_choice}

abbrev pub entries_after : Run → Slot → Kind → List Entry
entries_after r Slot.Idle kind = r.entry
entries_after r (Slot.Job k) kind = set r.entry (k - 1) (ran_on kind (r.t + 1) (job_no r.plan k) (entry_no r k))

-- the report of a slot is applied to its job, and t grows by 1
unfoldable pub reported : Run → Slot → Kind → Run
reported r slot kind = record { plan = r.plan; t = r.t + 1; phase = r.phase; hi = r.hi; lo = r.lo; entry = entries_after r slot kind }

-- live LO jobs with d <= t are dropped, of the n jobs: the entries beyond them stay
unfoldable pub expired_entries : ℕ → List Job → List Entry → List Entry
expired_entries t [] es = es
expired_entries t (j ∷ js) [] = []
expired_entries t (j ∷ js) (e ∷ es) = expired_entry t j e ∷ expired_entries t js es

unfoldable pub expired : Run → Run
expired r = record { plan = r.plan; t = r.t; phase = r.phase; hi = r.hi; lo = r.lo; entry = expired_entries r.t (jobs_of r.plan) r.entry }

-- overrun: the reported HI job is live and given >= lo
unfoldable pub overrun : Run → Slot → Bool
overrun r Slot.Idle = false
overrun r (Slot.Job k) = past_lo (job_no r.plan k) (entry_no r k)

-- each of the jobs has settled, `counts` being its table slots before t
unfoldable pub every_settled : List Job → List Entry → List ℕ → Bool
every_settled [] es counts = true
every_settled (j ∷ js) [] counts = true
every_settled (j ∷ js) (e ∷ es) [] = true
every_settled (j ∷ js) (e ∷ es) (count ∷ counts) = settled j e count && every_settled js es counts

-- the return test, job by job against the counts of border t
unfoldable pub can_return : Run → Bool
can_return r = every_settled (jobs_of r.plan) r.entry (counts_at r.plan r.t)

-- in phase T an overrun makes it H; in phase H it becomes T exactly when it can return
abbrev pub phase_after : Phase → Run → Slot → Phase
phase_after T r slot = if overrun r slot then H else T
phase_after H r slot = if can_return r then T else H

-- the phase comes last, judged on what then stands
unfoldable pub judged : Run → Slot → Run
judged r slot = record { plan = r.plan; t = r.t; phase = phase_after r.phase r slot; hi = r.hi; lo = r.lo; entry = r.entry }

-- both rows equal the fresh values after every step
unfoldable pub refreshed : Run → Run
refreshed r = record { plan = r.plan; t = r.t; phase = r.phase; hi = fresh_hi r; lo = fresh_lo r; entry = r.entry }

-- the run after an accepted report
unfoldable pub next_run : Run → Slot → Kind → Run
next_run r slot kind = refreshed (judged (expired (reported r slot kind)) slot)

-- `end` and `more` belong to a slot with a job, `none` to an idle one
unfoldable pub kind_fits : Slot → Kind → Bool
kind_fits (Slot.Job k) End = true
kind_fits (Slot.Job k) More = true
kind_fits (Slot.Job k) None = false
kind_fits Slot.Idle End = false
kind_fits Slot.Idle More = false
kind_fits Slot.Idle None = true

-- 10, 11, then 12: the report's slot is not t; 13: its kind does not fit the slot
unfoldable pub report_answer : Run → Report → Answer
report_answer r report =
    can_go_on r
    and_then (OtherSlot r.t unless (report.slot =? r.t))
    and_then (WrongKind r.t unless kind_fits (chosen r) report.kind)

-- a refusal: the same run, and no choice
abbrev pub refused_step : Run → Answer → Stepped
refused_step r answer = record { answer = answer; run = r; choice = no_choice answer }

-- a step hands back the next run with the answer and the choice it made
unfoldable pub step : Run → Report → Stepped
step r report =
    let answer = report_answer r report in
    if accepted answer
    then record { answer = Accepted; run = next_run r (chosen r) report.kind; choice = made_choice r }
    else refused_step r answer
