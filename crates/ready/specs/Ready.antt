-- Sets of jobs: who is ready, a set as one number, how many it holds, and its member of earliest deadline. The laws are in ReadyLaws.
use Rattle.std.specs.Prelude.{ℕ, zero, suc, ◌+◌, ◌-◌, ◌*◌, ◌/◌, ◌%◌, ◌≤◌, Bool, true, false, not, ◌&&◌, ◌||◌, get_or, if◌then◌else◌}
use mathlib.Core.List.{List, [], ◌∷◌, zip_with}
use Rattle.words.specs.Words.{◌≤?◌, ◌<?◌, ◌=?◌}
use Rattle.plan.specs.declared.Job.{Job}
use Rattle.plan.specs.Plan.{blank_job, is_hi}
use Rattle.entries.specs.declared.Entry.{Entry}
use Rattle.entries.specs.Entry.{live}
use Rattle.ready.specs.declared.Slot.{Slot}

-- ready: live and r <= t
abbrev pub is_ready : ℕ → Job → Entry → Bool
is_ready t j e = live e && (j.release ≤? t)

-- a ready job, or with `hiOnly` a ready HI job
unfoldable pub is_member : Bool → ℕ → Job → Entry → Bool
is_member false t j e = is_ready t j e
is_member true t j e = is_ready t j e && is_hi j

-- for each job, whether it is a member
unfoldable pub members_among : Bool → ℕ → List Job → List Entry → List Bool
members_among hiOnly t js es = zip_with (is_member hiOnly t) js es

-- the set as one number, job 1 at bit 0
unfoldable pub set_of : List Bool → ℕ
set_of [] = 0
set_of (b ∷ bs) = (if b then 1 else 0) + 2 * set_of bs

-- the members of a set among its first w places
unfoldable pub members_of : ℕ → ℕ → List Bool
members_of zero set = []
members_of (suc w) set = (set % 2 =? 1) ∷ members_of w (set / 2)

-- how many there are
unfoldable pub how_many : List Bool → ℕ
how_many [] = 0
how_many (b ∷ bs) = (if b then 1 else 0) + how_many bs

-- job k of these; jobs are numbered from 1
abbrev pub job_at : List Job → ℕ → Job
job_at js k = get_or js (k - 1) blank_job

-- earliest deadline means: least d, then HI before LO, then the lower number
unfoldable pub goes_before : Job → Job → Bool
goes_before i j = (i.deadline <? j.deadline) || ((i.deadline =? j.deadline) && is_hi i && not (is_hi j))

-- job k against the best of the lower numbers
unfoldable pub better : List Job → Slot → ℕ → Slot
better js Slot.Idle k = Slot.Job k
better js (Slot.Job best) k = if goes_before (job_at js k) (job_at js best) then Slot.Job k else Slot.Job best

-- a slot that is idle or names one of w jobs
abbrev pub among : ℕ → Slot → Type 0
among w Slot.Idle = Unit
among w (Slot.Job k) = k ≤ w

-- the best of `best` and the members from number k on
unfoldable pub earliest_from : List Job → Slot → ℕ → List Bool → Slot
earliest_from js best k [] = best
earliest_from js best k (b ∷ bs) = earliest_from js (if b then better js best k else best) (suc k) bs

-- the member of earliest deadline, none means idle
unfoldable pub earliest : List Job → List Bool → Slot
earliest js members = earliest_from js Slot.Idle 1 members
