-- The analysis of any plan record: the answer, and on acceptance the intervals and both rows of border 0.
use Rattle.std.specs.Prelude.{ℕ, true, List, map, length, replicate, if◌then◌else◌}
use Rattle.words.specs.Words.{filled}
use Rattle.answers.specs.Answer.{Answer, Accepted, accepted}
use Rattle.plan.specs.declared.Plan.{Plan}
use Rattle.plan.specs.Plan.{jobs_of}
use Rattle.intervals.specs.Layout.{blank_interval}
use Rattle.intervals.specs.Intervals.{max_intervals, intervals}
use Rattle.spares.specs.Spares.{hi_left, lo_left, row, no_spares}
use Rattle.acceptance.specs.declared.Analysis.{Analysis}
use Rattle.acceptance.specs.Acceptance.{acceptance}

-- HI and LO work at border 0: every job live with 0 given
abbrev pub hi_at_start : Plan → List ℕ
hi_at_start p = map (λ j. hi_left j true 0) (jobs_of p)

abbrev pub lo_at_start : Plan → List ℕ
lo_at_start p = map (λ j. lo_left j true 0) (jobs_of p)

-- a refused analysis gives no intervals and spares of 0
abbrev pub refused_analysis : Answer → Analysis
refused_analysis a = record { answer = a; count = 0; interval = replicate max_intervals blank_interval; hi = no_spares; lo = no_spares }

abbrev pub accepted_analysis : Plan → Analysis
accepted_analysis p = record {
  answer = Accepted;
  count = length (intervals p);
  interval = filled max_intervals blank_interval (intervals p);
  hi = row p 0 (hi_at_start p);
  lo = row p 0 (lo_at_start p);
}

-- the analysis of any plan record
unfoldable pub analysis : Plan → Analysis
analysis p =
    let answer = acceptance p in
    if accepted answer then accepted_analysis p else refused_analysis answer
