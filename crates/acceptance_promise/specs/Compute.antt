-- `unfolding planned` lets every definition of the plan, its intervals, spares and acceptance compute. It is made of their names alone.
use mathlib.Core.List.{zip_with}
use Rattle.words.specs.Words.{sum, every, count_up}
use Rattle.answers.specs.Answer.{accepted, first_refusal}
use Rattle.plan.specs.Plan.{naming, counts_at}
use Rattle.plan.specs.Rules.{check2, check3, window_holds, budget_holds, windows_hold}
use Rattle.intervals.specs.Intervals.{insert, rising, least_release, intervals_from, intervals, past}
use Rattle.spares.specs.Spares.{hi_left, lo_left, remaining, spare, spares, row, current}
use Rattle.acceptance.specs.Acceptance.{along_table, check9, acceptance}
use Rattle.acceptance.specs.Analysis.{analysis}
use Rattle.well_formed.specs.WellFormed.{check4, check5, slot_holds, check6, check7, check17, well_formed}
use Rattle.well_formed.specs.Runs.{rows_of, runs_of, runs_hold}
use Rattle.window_sums.specs.WindowSums.{hi_within, hi_jobs, check8_at, check8}

unfoldable pub planned : Unit {0}
unfolding sum every count_up accepted first_refusal naming counts_at check2 check3 window_holds budget_holds windows_hold insert rising least_release intervals_from intervals past hi_left lo_left remaining spare spares row current check4 check5 slot_holds check6 check7 rows_of runs_of runs_hold check17 well_formed hi_within hi_jobs check8_at check8 along_table check9 acceptance analysis zip_with
planned = tt
