-- The intervals of a plan worked out once: the list, and for each job the place of its interval in it.
use Rattle.std.specs.Prelude.{ℕ, suc, List, [], ◌∷◌, map, length, take, if◌then◌else◌}
use Rattle.words.specs.Words.{◌=?◌, filled}
use Rattle.plan.specs.declared.Plan.{Plan}
use Rattle.plan.specs.Limits.{max_jobs}
use Rattle.plan.specs.Plan.{jobs_of}
use Rattle.intervals.specs.declared.Interval.{Interval}
use Rattle.intervals.specs.declared.Layout.{Layout}
use Rattle.intervals.specs.Intervals.{max_intervals, intervals, past}

abbrev pub blank_interval : Interval
blank_interval = record { start = 0; end = 0 }

-- the place of the first interval that ends at e
unfoldable pub place_of : ℕ → List Interval → ℕ
place_of e [] = 0
place_of e (x ∷ xs) =
    let later = suc (place_of e xs) in
    if x.end =? e then 0 else later

-- a job's home is the place of the interval that ends at its deadline; an entry beyond the jobs has none, max_intervals
unfoldable pub homes : Plan → List ℕ
homes p = filled max_jobs max_intervals (map (λ j. place_of j.deadline (intervals p)) (jobs_of p))

unfoldable pub layout_of : Plan → Layout
layout_of p = record {
  count = length (intervals p);
  interval = filled max_intervals blank_interval (intervals p);
  home = homes p;
}

-- the intervals of a layout
abbrev pub listed : Layout → List Interval
listed l = take l.count l.interval

-- how many intervals of a layout are past at border t
unfoldable pub past_in : Layout → ℕ → ℕ
past_in l t = past t (listed l)
