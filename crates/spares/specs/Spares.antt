-- The spares. A row is made of one list of work, a number a job: HI row, LO row and check 9 are one definition.
use Rattle.std.specs.Prelude.{ℕ, ◌+◌, ◌-◌, max, Bool, false, ◌&&◌, ℤ, pos, negsuc, ◌+ℤ◌, get_or, replicate, if◌then◌else◌}
use mathlib.Core.List.{List, [], ◌∷◌, zip_with}
use Rattle.std.proofs.Math.IntN.{sub_ℕ}
use Rattle.words.specs.Words.{◌≤?◌, ◌=?◌, every, filled}
use Rattle.plan.specs.declared.Job.{Job}
use Rattle.plan.specs.declared.Plan.{Plan}
use Rattle.plan.specs.Plan.{jobs_of, is_hi}
use Rattle.intervals.specs.declared.Interval.{Interval}
use Rattle.intervals.specs.Intervals.{max_intervals, intervals, past}

-- what an interval has to spare
abbrev pub Spare : Type 0
Spare = ℤ

-- HI work of a job: hi - given, of a HI job not ended
unfoldable pub hi_left : Job → Bool → ℕ → ℕ
hi_left j live given = if live && is_hi j then j.hi - given else 0

-- LO work of a job: lo - given, not below 0, of any job not ended
unfoldable pub lo_left : Job → Bool → ℕ → ℕ
lo_left j live given = if live then j.lo - given else 0

-- the remaining work of the interval that ends at e: that of the jobs with this deadline
unfoldable pub remaining : ℕ → List Job → List ℕ → ℕ
remaining e [] ws = 0
remaining e (j ∷ js) [] = 0
remaining e (j ∷ js) (w ∷ ws) = (if j.deadline =? e then w else 0) + remaining e js ws

-- the smaller of (z, 0)
abbrev pub at_most0 : ℤ → ℤ
at_most0 (pos n) = pos 0
at_most0 (negsuc n) = negsuc n

-- the spare of the first interval of a row, 0 where none is left
abbrev pub next_spare : List Spare → Spare
next_spare [] = pos 0
next_spare (z ∷ zs) = z

-- spare = (end - larger of start and t) - remaining + smaller of (next spare, 0); a past interval has 0
unfoldable pub spare : ℕ → Interval → ℕ → Spare → Spare
spare t x work next = if x.end ≤? t then pos 0 else (sub_ℕ (x.end - max x.start t) work +ℤ at_most0 next)

-- the spares of the intervals in order, worked out last first
unfoldable pub spares : ℕ → List Job → List ℕ → List Interval → List Spare
spares t js ws [] = []
spares t js ws (x ∷ xs) =
    let later : List Spare = spares t js ws xs in
    spare t x (remaining x.end js ws) (next_spare later) ∷ later

-- the row of a plan at border t, 0 beyond the last interval
unfoldable pub row : Plan → ℕ → List ℕ → List Spare
row p t ws = filled max_intervals (pos 0) (spares t (jobs_of p) ws (intervals p))

-- spares of 0
abbrev pub no_spares : List Spare
no_spares = replicate max_intervals (pos 0)

-- the current spare of a row: that of the interval which holds slot t
unfoldable pub current : Plan → ℕ → List Spare → Spare
current p t zs = get_or zs (past t (intervals p)) (pos 0)

-- two rows have the same spares
abbrev pub same_spare : Spare → Spare → Bool
same_spare (pos m) (pos n) = m =? n
same_spare (pos m) (negsuc n) = false
same_spare (negsuc m) (pos n) = false
same_spare (negsuc m) (negsuc n) = m =? n

unfoldable pub same_row : List Spare → List Spare → Bool
same_row xs ys = every (zip_with same_spare xs ys)
