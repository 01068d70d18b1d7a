-- What the tables with an entry for each border hold: windows by their deadline, intervals by their end. The laws are in ByDeadlineLaws.
use Rattle.std.specs.Prelude.{ℕ, ◌+◌, ◌-◌, ◌≤◌, ◌<◌, ◌≡◌, List, [], ◌∷◌, get_or, if◌then◌else◌, Option, Some, None}
use Rattle.words.specs.Words.{◌<?◌}
use Rattle.plan.specs.declared.Job.{Job}
use Rattle.plan.specs.Limits.{max_slots}
use Rattle.intervals.specs.declared.Interval.{Interval}
use Rattle.intervals.specs.Intervals.{least_release}
use Rattle.intervals.specs.Layout.{place_of}

-- how many entries a table has: one for each border from 0 to max_slots
abbrev pub borders : ℕ
borders = 513

-- every deadline is one of these borders
abbrev pub DueInTime : List Job → Type 0
DueInTime [] = Unit
DueInTime (j ∷ js) = (j.deadline ≤ max_slots) × DueInTime js

-- the longest window that ends at e goes back to the least release of its jobs; 0 where no job is due
abbrev pub LongestWindows : List Job → List ℕ → Type 0
LongestWindows js longest = (e : ℕ) → e ≤ max_slots → get_or longest e 0 ≡ e - least_release e js

-- e is the first border after m where a window ends, N + 1 where there is none
pub record NextWindow (longest : List ℕ) (m N e : ℕ) : Type 0 where
  pub after : m < e
  pub within : e ≤ N + 1
  pub none_before : (x : ℕ) → m < x → x < e → get_or longest x 0 ≡ 0
  pub ends : e ≤ N → 0 < get_or longest e 0

-- the next deadline after m, none where no window ends up to N
abbrev pub NextDeadline : List ℕ → ℕ → ℕ → Option ℕ → Type 0
NextDeadline longest m N None = NextWindow longest m N (N + 1)
NextDeadline longest m N (Some e) = (e ≤ N) × NextWindow longest m N e

-- the place of the first of the intervals xs that ends at each border, where xs begin at place i
abbrev pub PlacesFrom : ℕ → List Interval → List ℕ → Type 0
PlacesFrom i xs place = (e : ℕ) → e ≤ max_slots → get_or place e 0 ≡ i + place_of e xs

-- the entry of a table for any number; beyond the table there is 0
unfoldable pub entry_for : List ℕ → ℕ → ℕ
entry_for table e = if e <? borders then get_or table e 0 else 0
