-- The closed form of a spare (S1), as a statement: a least number over borders. Definitions only: SpareLaws proves it of the current spare.
use Rattle.std.specs.Prelude.{ℕ, ◌+◌, ◌≤◌, ℤ, get_or}
use mathlib.Core.List.{List, Memᴰ}
use Rattle.words.specs.Difference.{Is}
use Rattle.windows.specs.Windows.{due_by}
use Rattle.plan.specs.declared.Plan.{Plan}
use Rattle.intervals.specs.declared.Interval.{Interval}
use Rattle.intervals.specs.Intervals.{intervals, past}
use Rattle.intervals.specs.Covers.{interval_at, ends}
use Rattle.spare_theory.specs.Promise.{windows_of}

-- the work due by e, of a list of work
abbrev pub due : Plan → List ℕ → ℕ → ℕ
due p ws e = due_by (windows_of p) (λ k. get_or ws k 0) e

-- the end of the current interval, which holds slot t: the next after those that are past
abbrev pub current_end : Plan → ℕ → ℕ
current_end p t = (interval_at (intervals p) (past t (intervals p))).end

-- z is the least, over the borders e from b on, of the room from a to e less the work due after a and by e; it is reached at an end of an interval of xs
pub record Least (p : Plan) (ws : List ℕ) (a b : ℕ) (xs : List Interval) (z : ℤ) : Type 0 where
  pub reached : ℕ
  pub is : Is z (reached + due p ws a) (a + due p ws reached)
  pub least : (e : ℕ) → b ≤ e → reached + due p ws e ≤ e + due p ws reached
  pub from : b ≤ reached
  pub an_end : Memᴰ reached (ends xs)
