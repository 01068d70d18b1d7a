-- Who gets slot t.
use Rattle.std.specs.Prelude.{Bool, not, ◌&&◌, pos, if◌then◌else◌}
use mathlib.Core.List.{List, zip_with}
use Rattle.answers.specs.Answer.{Answer, Accepted, Incoherent, Over, accepted, ◌unless◌, ◌and_then◌}
use Rattle.words.specs.Words.{◌≤?◌, ◌<?◌, below0, above0}
use Rattle.plan.specs.Plan.{jobs_of, table_at, is_hi}
use Rattle.executive.specs.declared.Phase.{Phase}
use Rattle.executive.specs.declared.Phase.TheVariants.{T, H}
use Rattle.executive.specs.declared.Run.{Run}
use Rattle.ready.specs.declared.Slot.{Slot}
use Rattle.executive.specs.declared.Choice.{Choice}
use Rattle.entries.specs.Entry.{live}
use Rattle.ready.specs.Ready.{is_ready, members_among, how_many, earliest}
use Rattle.executive.specs.Run.{entry_no, current_hi, current_lo}
use Rattle.executive.specs.Coherent.{coherent}

-- for each job of the plan, whether it is ready; whether it is a ready HI job
unfoldable pub ready : Run → List Bool
ready r = zip_with (is_ready r.t) (jobs_of r.plan) r.entry

unfoldable pub ready_hi : Run → List Bool
ready_hi r = zip_with (λ j e. is_ready r.t j e && is_hi j) (jobs_of r.plan) r.entry

-- the one or the other
unfoldable pub members : Bool → Run → List Bool
members hiOnly r = members_among hiOnly r.t (jobs_of r.plan) r.entry

-- phase T: the table's job if it is live; otherwise the earliest-deadline ready job; otherwise idle
unfoldable pub chosen_t : Run → Slot
chosen_t r =
    let k = table_at r.plan r.t in
    if (1 ≤? k) && live (entry_no r k) then Slot.Job k else earliest r.plan.job (ready r)

-- phase H: all ready jobs while HI spare > 0 and LO spare >= 0, otherwise the ready HI jobs
unfoldable pub chosen_h : Run → Slot
chosen_h r = earliest r.plan.job (if above0 (current_hi r) && not (below0 (current_lo r)) then ready r else ready_hi r)

abbrev pub chosen_in : Phase → Run → Slot
chosen_in T r = chosen_t r
chosen_in H r = chosen_h r

unfoldable pub chosen : Run → Slot
chosen r = chosen_in r.phase r

-- 10: the record is incoherent; 11: the run is over, t = N
unfoldable pub can_go_on : Run → Answer
can_go_on r = (Incoherent unless coherent r) and_then (Over r.t unless (r.t <? r.plan.slots))

-- what slot t is given to, how many are ready, and the current spares before the slot
unfoldable pub made_choice : Run → Choice
made_choice r = record { answer = Accepted; slot = chosen r; ready = how_many (ready r); hi = current_hi r; lo = current_lo r }

-- a refused choice is idle with 0 ready and spares of 0
abbrev pub no_choice : Answer → Choice
no_choice answer = record { answer = answer; slot = Slot.Idle; ready = 0; hi = pos 0; lo = pos 0 }

unfoldable pub choose : Run → Choice
choose r =
    let answer = can_go_on r in
    if accepted answer then made_choice r else no_choice answer
