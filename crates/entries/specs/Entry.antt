-- One job's entry: whether it is live, what a report makes of it, when it expires, and what the tests of a run ask of it.
use Rattle.std.specs.Prelude.{ℕ, ◌+◌, Bool, true, false, not, ◌&&◌, ◌||◌, if◌then◌else◌, Option, Some, None}
use Rattle.words.specs.Words.{◌≤?◌, ◌<?◌, ◌=?◌}
use Rattle.plan.specs.declared.Job.{Job}
use Rattle.plan.specs.Plan.{is_hi}
use Rattle.entries.specs.declared.Standing.{Standing}
use Rattle.entries.specs.declared.Standing.TheVariants.{Waiting, Finished, Cut, Dropped}
use Rattle.entries.specs.declared.Entry.{Entry}
use Rattle.entries.specs.declared.Kind.{Kind}
use Rattle.entries.specs.declared.Kind.TheVariants.{End, More}

-- the border at which a job ended, none while it waits: the one place that goes by the letter
abbrev pub how_it_stands : Standing → Option ℕ
how_it_stands Waiting = None
how_it_stands (Finished border) = Some border
how_it_stands (Cut border) = Some border
how_it_stands (Dropped border) = Some border

abbrev pub is_waiting : Option ℕ → Bool
is_waiting None = true
is_waiting (Some border) = false

abbrev pub waiting : Standing → Bool
waiting s = is_waiting (how_it_stands s)

abbrev pub live : Entry → Bool
live e = waiting e.standing

-- waiting with 0 given
abbrev pub fresh_entry : Entry
fresh_entry = record { standing = Waiting; given = 0 }

-- with `end` it is finished; with `more` and given = hi it is cut; `border` is t after the step
unfoldable pub standing_after : Kind → ℕ → ℕ → ℕ → Standing → Standing
standing_after End hi given border before = Finished border
standing_after More hi given border before = if given =? hi then Cut border else before
standing_after Kind.None hi given border before = before

-- the job's given grows by 1
unfoldable pub ran_on : Kind → ℕ → Job → Entry → Entry
ran_on kind border j e = record { standing = standing_after kind j.hi (e.given + 1) border e.standing; given = e.given + 1 }

-- live LO jobs with d <= t are dropped
unfoldable pub expired_entry : ℕ → Job → Entry → Entry
expired_entry t j e = if live e && not (is_hi j) && (j.deadline ≤? t) then record { standing = Dropped t; given = e.given } else e

-- a live HI job with given >= lo
unfoldable pub past_lo : Job → Entry → Bool
past_lo j e = live e && is_hi j && (j.lo ≤? e.given)

-- a live job has been given at least its table slots before t, and is no HI job with given >= lo
unfoldable pub settled : Job → Entry → ℕ → Bool
settled j e count = not (live e) || ((count ≤? e.given) && not (past_lo j e))

-- a live job has fewer slots than hi; an ended one at most hi, and is not marked ended after t
abbrev pub holds_at : ℕ → ℕ → ℕ → Option ℕ → Bool
holds_at t hi given None = given <? hi
holds_at t hi given (Some border) = (given ≤? hi) && (border ≤? t)

unfoldable pub standing_holds : ℕ → ℕ → ℕ → Standing → Bool
standing_holds t hi given s = holds_at t hi given (how_it_stands s)

-- of a job's entry
abbrev pub entry_holds : ℕ → Job → Entry → Bool
entry_holds t j e = standing_holds t j.hi e.given e.standing
