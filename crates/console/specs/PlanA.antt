-- Plan A and its eight reports: the whole output of both programs, as document 01 prints it, by computation.
use Rattle.std.specs.Prelude.{ℕ, ◌≡◌, refl}
use mathlib.Core.List.{List, ◌++◌, zip_with, flat_map}
use Rattle.words.specs.Words.{sum, every, count_up}
use Rattle.answers.specs.Answer.{accepted, first_refusal}
use Rattle.lines.specs.Lines.{bytes, digits_in, digits, same_bytes, number_from, number, many, line_length, begins, value_in, field, nothing_after}
use Rattle.plan.specs.Plan.{naming, counts_at}
use Rattle.plan.specs.Rules.{check2, check3, window_holds, budget_holds, windows_hold}
use Rattle.plan_text.specs.Read.{level_in, next_job, next_plan, only_plan, read_plan}
use Rattle.intervals.specs.Intervals.{insert, rising, least_release, intervals_from, intervals, past}
use Rattle.spares.specs.Spares.{hi_left, lo_left, remaining, spare, spares, row, current, same_row}
use Rattle.well_formed.specs.WellFormed.{check4, check5, slot_holds, check6, check7, check17, well_formed}
use Rattle.well_formed.specs.Runs.{rows_of, runs_of, runs_hold}
use Rattle.window_sums.specs.WindowSums.{hi_within, hi_jobs, check8_at, check8}
use Rattle.acceptance.specs.Acceptance.{along_table, check9, acceptance}
use Rattle.acceptance.specs.Analysis.{analysis}
use Rattle.spares.specs.Work.{work_each, work_left}
use Rattle.executive.specs.Run.{hi_work, lo_work, fresh_hi, fresh_lo, start}
use Rattle.entries.specs.Entry.{standing_holds, standing_after, ran_on, expired_entry, past_lo, settled}
use Rattle.executive.specs.Coherent.{entries_hold, coherent}
use Rattle.executive.specs.Choice.{ready, ready_hi, chosen_t, chosen_h, chosen, can_go_on}
use Rattle.ready.specs.Ready.{goes_before, better, earliest_from, earliest}
use Rattle.executive.specs.Step.{reported, expired_entries, expired, overrun, every_settled, can_return, judged, refreshed, next_run, kind_fits, report_answer, step}
use Rattle.console.specs.Print.{signed, commas, refused_line}
use Rattle.console.specs.Check.{interval_lines, analysis_lines, check_output}
use Rattle.console.specs.Run.{kind_in, before_comma, report_in, reports_in, step_line, job_lines_from, job_lines, go_on, run_output}

-- lets every definition compute; it is made of their names alone
unfoldable everything : Unit {0}
unfolding sum every count_up accepted first_refusal digits_in digits same_bytes number_from number many line_length begins value_in field nothing_after naming counts_at check2 check3 window_holds budget_holds windows_hold level_in next_job next_plan only_plan read_plan insert rising least_release intervals_from intervals past hi_left lo_left remaining spare spares row current check4 check5 slot_holds check6 check7 rows_of runs_of runs_hold check17 well_formed hi_within hi_jobs check8_at check8 along_table check9 acceptance analysis hi_work work_each work_left lo_work fresh_hi fresh_lo start standing_holds entries_hold same_row coherent ready ready_hi goes_before better earliest_from earliest chosen_t chosen_h chosen can_go_on standing_after ran_on reported expired_entry expired_entries expired past_lo overrun settled every_settled can_return judged refreshed next_run kind_fits report_answer step signed commas refused_line interval_lines analysis_lines check_output kind_in before_comma report_in reports_in step_line job_lines_from job_lines go_on run_output zip_with flat_map
everything = tt

abbrev pub plan_a : List ℕ
plan_a = bytes "slots=8\njobs=2\nlevel=HI\nrelease=0\ndeadline=8\nlo=2\nhi=4\nlevel=LO\nrelease=0\ndeadline=4\nlo=2\nhi=2\nslot=2\nslot=1\nslot=2\nslot=1\nslot=0\nslot=0\nslot=0\nslot=0\n"

abbrev pub reports_a : List ℕ
reports_a = bytes "report=0,more\nreport=1,more\nreport=2,end\nreport=3,more\nreport=4,more\nreport=5,end\nreport=6,none\nreport=7,none\n"

pub check_A : check_output plan_a ≡ bytes "interval=0,4,4,2\ninterval=4,8,0,2\nanswer=0\n"
unfolding everything
check_A = refl

pub run_A : run_output (plan_a ++ reports_a) ≡ bytes "step=0,2,T,4,2\nstep=1,1,T,3,2\nstep=2,2,T,2,1\nstep=3,1,T,1,1\nstep=4,1,H,2,4\nstep=5,1,H,2,3\nstep=6,0,T,2,2\nstep=7,0,T,1,1\njob=1,F,4\njob=2,F,2\n"
unfolding everything
run_A = refl
