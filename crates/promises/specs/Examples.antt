-- The demands speak of something: plan A's runs are reached to their last border, one with its jobs finished and one with its jobs cut;
-- refused reports in between leave no trace; a plan of one slot runs and is over; a refused plan has no run. By computation.
use Rattle.std.specs.Prelude.{ℕ, ◌≡◌, refl, List, pos, length}
use Rattle.std.proofs.Common.{sym}
use Rattle.answers.specs.Answer.{Accepted, Overdrawn, Incoherent, Over, OtherSlot, WrongKind}
use Rattle.acceptance_promise.specs.Plans.{A, B, one_slot}
use Rattle.executive.specs.declared.Phase.TheVariants.{T}
use Rattle.entries.specs.declared.Standing.TheVariants.{Finished, Cut}
use Rattle.entries.specs.declared.Kind.{Kind}
use Rattle.entries.specs.declared.Kind.TheVariants.{End, More, None}
use Rattle.executive.specs.declared.Report.{Report}
use Rattle.executive.specs.declared.Run.{Run}
use Rattle.executive.specs.Run.{blank_run, start, entry_no}
use Rattle.executive.specs.Choice.{no_choice, choose}
use Rattle.executive.specs.Step.{refused_step, step}
use Rattle.spares.specs.Spares.{no_spares}
use Rattle.promises.specs.Compute.{everything}
use Rattle.promises.specs.Told.{Sequence, none, ◌▷◌}
use Rattle.promises.specs.Executives.{ours, held}
use Rattle.promises.specs.Demands.{Event, Reached}
use Rattle.promises.specs.History.{reached_t}
use Rattle.promises.specs.AnyExecutive.{every_sequence}
use Rattle.ready.specs.declared.Slot.{Slot}

-- a report
abbrev of : ℕ → Kind → Report
of slot kind = record { slot = slot; kind = kind }

-- reports of these kinds for slots 0 to 7
abbrev reports_of : Kind → Kind → Kind → Kind → Kind → Kind → Kind → Kind → Sequence Report
reports_of a b c d e f g h = none ▷ of 0 a ▷ of 1 b ▷ of 2 c ▷ of 3 d ▷ of 4 e ▷ of 5 f ▷ of 6 g ▷ of 7 h

-- ---- whole runs

-- the reports of 01: both jobs finish
abbrev pub finishing : Run
finishing = (held ours A (reports_of More More End More More End None None)).run

-- nobody reports an end: both jobs are cut
abbrev pub cutting : Run
cutting = (held ours A (reports_of More More More More More More None None)).run

pub finishing_reached : (h : List Event) × Reached A h finishing × (length h ≡ 8)
unfolding everything held
finishing_reached =
    let w = every_sequence A (refl, refl) refl (reports_of More More End More More End None None) in
    (_, w, sym (reached_t w))

pub finishing_ends : ((entry_no finishing 1).standing ≡ Finished 6) × ((entry_no finishing 2).standing ≡ Finished 3)
unfolding everything held
finishing_ends = (refl, refl)

pub cutting_reached : (h : List Event) × Reached A h cutting × (length h ≡ 8)
unfolding everything held
cutting_reached =
    let w = every_sequence A (refl, refl) refl (reports_of More More More More More More None None) in
    (_, w, sym (reached_t w))

pub cutting_ends : ((entry_no cutting 1).standing ≡ Cut 6) × ((entry_no cutting 2).standing ≡ Cut 3)
unfolding everything held
cutting_ends = (refl, refl)

-- ---- refused reports in between

-- a report for slot 2 at t = 1 is refused 12 at 1, `none` for a slot with a job 13 at 1, and slot 1 can still be reported
pub refused_between :
    ((step (held ours A (none ▷ of 0 More)).run (of 2 More)).answer ≡ OtherSlot 1)
    × ((step (held ours A (none ▷ of 0 More)).run (of 1 None)).answer ≡ WrongKind 1)
    × (held ours A (none ▷ of 0 More ▷ of 2 More ▷ of 1 None ▷ of 1 More) ≡ held ours A (none ▷ of 0 More ▷ of 1 More))
unfolding everything held
refused_between = (refl, refl, refl)

-- ---- a plan of one slot

-- its job has the slot; then t = N, both rows are 0, and both calls are refused 11 at 1
pub one_slot_runs :
    let over : Run = (held ours one_slot (none ▷ of 0 More)).run in
    (choose (start one_slot).run ≡ record { answer = Accepted; slot = Slot.Job 1; ready = 1; hi = pos 0; lo = pos 0 })
    × (over ≡ record { plan = one_slot; t = 1; phase = T; hi = no_spares; lo = no_spares; entry = over.entry })
    × (entry_no over 1 ≡ record { standing = Cut 1; given = 1 })
    × (choose over ≡ no_choice (Over 1))
    × (step over (of 1 None) ≡ refused_step over (Over 1))
unfolding everything held
one_slot_runs = (refl, refl, refl, refl, refl)

-- ---- a refused plan

-- B(3) has no run: the blank one is held whatever is reported, and reports are refused 10
pub refused_plan : (report : Report) →
    (start (B 3) ≡ record { answer = Overdrawn 2; run = blank_run })
    × ((step blank_run report).answer ≡ Incoherent)
    × ((held ours (B 3) (none ▷ report)).run ≡ blank_run)
unfolding everything held
refused_plan report = (refl, refl, refl)
