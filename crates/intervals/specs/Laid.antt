-- The words of a layout as it is built: a list of intervals laid out with no job at home, how far it is laid out. The laws are in LaidLaws.
use Rattle.std.specs.Prelude.{ℕ, ◌≤◌, ◌≡◌, List, ◌++◌, length, replicate}
use Rattle.words.specs.Words.{filled}
use Rattle.plan.specs.declared.Job.{Job}
use Rattle.plan.specs.Limits.{max_slots, max_jobs}
use Rattle.intervals.specs.declared.Interval.{Interval}
use Rattle.intervals.specs.declared.Layout.{Layout}
use Rattle.intervals.specs.Intervals.{max_intervals, intervals_from}
use Rattle.intervals.specs.Deadlines.{rising_deadlines, Windowed, above}
use Rattle.intervals.specs.Layout.{blank_interval}
use Rattle.intervals.specs.ByDeadline.{LongestWindows}

-- these intervals, and no job at home
unfoldable pub laid : List Interval → Layout
laid xs = record { count = length xs; interval = filled max_intervals blank_interval xs; home = replicate max_jobs max_intervals }

-- the intervals from 0 to N
abbrev pub all_intervals : List Job → ℕ → List Interval
all_intervals js N = intervals_from js N 0 (rising_deadlines js)

-- the jobs that a table of longest windows was made of, their windows holding
pub record Tabled (longest : List ℕ) (N : ℕ) (js : List Job) : Type 0 where
  pub table : LongestWindows js longest
  pub windows : Windowed N js
  pub few_slots : N ≤ max_slots
  pub few_jobs : length js ≤ max_jobs

-- laid out up to the end prev: the intervals so far, and what the deadlines above prev still add, are all
pub record LaidTo (js : List Job) (N : ℕ) (l : Layout) (prev : ℕ) : Type 0 where
  pub so_far : List Interval
  pub held : l ≡ laid so_far
  pub whole : so_far ++ intervals_from js N prev (above prev (rising_deadlines js)) ≡ all_intervals js N

-- with these homes
abbrev pub homed : Layout → List ℕ → Layout
homed l home = record { count = l.count; interval = l.interval; home = home }
