-- A layout is built deadline by deadline: what is laid out and what is still to come are all the intervals, and with the jobs at home it is the plan's layout.
use Rattle.std.specs.Prelude.{ℕ, ◌+◌, ◌-◌, ◌≤◌, ◌<◌, max, ◌≡◌, List, [], ◌∷◌, ◌++◌, map, length, get_or, set, replicate}
use Rattle.std.proofs.Common.{ap, ◌∙◌, append_assoc, arith, length-append, lt-ltb}
use Rattle.std.proofs.lemmas.List.{length-map}
use Rattle.words.specs.Words.{filled}
use Rattle.words.specs.Cases.{by_test}
use Rattle.words.specs.FilledLaws.{filled_so_far, filled_more}
use Rattle.plan.specs.declared.Job.{Job}
use Rattle.plan.specs.declared.Plan.{Plan}
use Rattle.plan.specs.Limits.{max_jobs}
use Rattle.plan.specs.Plan.{jobs_of}
use Rattle.plan.specs.Rules.{windows_hold}
use Rattle.intervals.specs.declared.Interval.{Interval}
use Rattle.intervals.specs.declared.Layout.{Layout}
use Rattle.intervals.specs.Intervals.{max_intervals, rising, least_release, gap, intervals_from, intervals}
use Rattle.intervals.specs.Deadlines.{rising_deadlines, above}
use Rattle.intervals.specs.DeadlineLaws.{within_limits, deadlines_rise, above_zero, length_rising}
use Rattle.intervals.specs.IntervalLaws.{length_from, no_intervals}
use Rattle.intervals.specs.Layout.{blank_interval, place_of, homes, layout_of, listed}
use Rattle.intervals.specs.ByDeadline.{NextWindow, PlacesFrom, entry_for}
use Rattle.intervals.specs.ByDeadlineLaws.{window_back, deadline_next, deadlines_over, due_in_time, homes_in_time, homes_of_none}
use Rattle.intervals.specs.Laid.{laid, all_intervals, Tabled, LaidTo, homed}

-- ---- some intervals laid out

module _ (l : Layout) (xs : List Interval) (e : l ≡ laid xs) where
  pub laid_count : l.count ≡ length xs
  unfolding laid
  laid_count = rw e

  -- a store at the count is one interval more
  pub laid_more : (x : Interval) (at : ℕ) → l.count < max_intervals → at ≡ l.count → record { count = l.count + 1; interval = set l.interval at x; home = l.home } ≡ laid (xs ++ x ∷ [])
  unfolding laid
  laid_more x at h a =
      let few : length xs < max_intervals = omega (arith, laid_count) in
      let many : length (xs ++ x ∷ []) ≡ length xs + 1 = length-append xs (x ∷ []) in
      rw (a, e, many) (ap (λ (ys : List Interval). record { count = length xs + 1; interval = ys; home = replicate max_jobs max_intervals }) (filled_more max_intervals blank_interval xs x few ∙ ap (λ (n : ℕ). (xs ++ x ∷ []) ++ replicate (max_intervals - n) blank_interval) many))

-- ---- the intervals of some jobs, deadline by deadline

module _ (longest : List ℕ) (N : ℕ) (js : List Job) (t : Tabled longest N js) where
  pub laid_start : (l : Layout) → l ≡ laid [] → LaidTo js N l 0
  laid_start l e = record { so_far = []; held = e; whole = rw (above_zero (rising_deadlines js) N (deadlines_rise N js t.windows)) }

  all_few : length (all_intervals js N) ≤ max_intervals
  all_few =
      let ds = map (λ j. j.deadline) js in
      omega (arith, length_from js N 0 (rising ds), length_rising ds, length-map js (λ j. j.deadline), t.few_jobs)

  -- an interval starts at the larger of the end before and its jobs' least release
  pub starts : (prev e at start : ℕ) → e ≤ N → at ≡ e → start ≡ max prev (e - get_or longest at 0) → start ≡ max prev (least_release e js)
  starts prev e at start h same s = s ∙ ap (max prev) (rw same (window_back e js longest (omega (arith, t.few_slots)) t.table).1)

  module _ (l : Layout) (prev e : ℕ) (b : LaidTo js N l prev) (next : NextWindow longest prev N e) where
    -- the deadline e adds its gap and its interval
    module _ (h : e ≤ N) (start : ℕ) (from : start ≡ max prev (least_release e js)) where
      all_with : b.so_far ++ (gap prev start ++ record { start = start; end = e } ∷ intervals_from js N e (above e (rising_deadlines js))) ≡ all_intervals js N
      unfolding intervals_from
      all_with = rw (deadline_next js N t.windows t.few_slots longest t.table prev e next h, ← from) at b.whole

      pub room : l.count + length (gap prev start) < max_intervals
      room =
          let more = intervals_from js N e (above e (rising_deadlines js)) in
          let x : Interval = record { start = start; end = e } in
          omega (arith, all_few, ap length all_with, laid_count l b.so_far b.held, length-append b.so_far (gap prev start ++ x ∷ more), length-append (gap prev start) (x ∷ more))

      pub room_behind : (l' : Layout) → l' ≡ laid (b.so_far ++ gap prev start) → l'.count < max_intervals
      room_behind l' g = omega (arith, room, laid_count l b.so_far b.held, laid_count l' (b.so_far ++ gap prev start) g, length-append b.so_far (gap prev start))

      pub laid_on : (l' : Layout) → l' ≡ laid ((b.so_far ++ gap prev start) ++ record { start = start; end = e } ∷ []) → LaidTo js N l' e
      laid_on l' g =
          let more = intervals_from js N e (above e (rising_deadlines js)) in
          let x : Interval = record { start = start; end = e } in
          record {
            so_far = (b.so_far ++ gap prev start) ++ x ∷ [];
            held = g;
            whole = append_assoc (b.so_far ++ gap prev start) (x ∷ []) more ∙ append_assoc b.so_far (gap prev start) (x ∷ more) ∙ all_with;
          }

    -- no deadline is left: the gap up to N is the last
    module _ (h : N < e) where
      all_last : b.so_far ++ gap prev N ≡ all_intervals js N
      unfolding intervals_from
      all_last = rw (deadlines_over js N t.windows t.few_slots longest t.table prev e next h) at b.whole

      pub last_room : prev < N → l.count < max_intervals
      last_room g =
          let one : length (gap prev N) ≡ 1 = rw (lt-ltb prev N g) in
          omega (arith, one, all_few, ap length all_last, laid_count l b.so_far b.held, length-append b.so_far (gap prev N))

      pub laid_end : (l' : Layout) → l' ≡ laid (b.so_far ++ gap prev N) → l' ≡ laid (all_intervals js N)
      laid_end l' g = g ∙ ap laid all_last

-- ---- with the jobs at home it is the plan's layout

-- what is listed of a list laid out is that list
pub listed_laid : (l : Layout) (xs : List Interval) → l ≡ laid xs → listed l ≡ xs
unfolding laid
listed_laid l xs e = rw e (filled_so_far max_intervals blank_interval xs)

homes_are : (p : Plan) (place : List ℕ) → PlacesFrom 0 (intervals p) place
    → map (λ j. entry_for place j.deadline) (jobs_of p) ≡ map (λ j. place_of j.deadline (intervals p)) (jobs_of p)
homes_are p place table =
    by_test (windows_hold p)
    (λ h.
    let w = within_limits p h in
    homes_in_time (jobs_of p) (intervals p) place table (due_in_time p.slots (jobs_of p) w.few_slots w.windows))
    (λ h. let none = no_intervals p h in rw none (homes_of_none (jobs_of p) place (rw none at table)))

pub laid_homed : (p : Plan) (l : Layout) (place home : List ℕ)
    → l ≡ laid (intervals p) → PlacesFrom 0 (listed l) place
    → home ≡ filled max_jobs max_intervals (map (λ j. entry_for place j.deadline) (jobs_of p)) → homed l home ≡ layout_of p
unfolding laid layout_of homes
laid_homed p l place home e table h = rw (h, homes_are p place (rw (listed_laid l (intervals p) e) at table), e)
