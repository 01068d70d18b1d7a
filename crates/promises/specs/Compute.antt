-- `unfolding everything` lets every definition of the plan, its acceptance and its runs compute. It is made of their names alone.
use Rattle.acceptance_promise.specs.Compute.{planned}
use Rattle.executive.specs.Choice.{ready, ready_hi, chosen_t, chosen_h, chosen, can_go_on, choose, made_choice}
use Rattle.executive.specs.Coherent.{entries_hold, coherent}
use Rattle.spares.specs.Spares.{same_row}
use Rattle.ready.specs.Ready.{set_of, how_many, goes_before, better, earliest_from, earliest}
use Rattle.entries.specs.Entry.{standing_holds, standing_after, ran_on, expired_entry, past_lo, settled}
use Rattle.spares.specs.Work.{work_each, work_left}
use Rattle.executive.specs.Run.{hi_work, lo_work, fresh_hi, fresh_lo, start}
use Rattle.executive.specs.Step.{reported, expired_entries, expired, overrun, every_settled, can_return, judged, refreshed, next_run, kind_fits, report_answer, step}

unfoldable pub everything : Unit {0}
unfolding planned ready ready_hi set_of how_many goes_before better earliest_from earliest chosen_t chosen_h chosen can_go_on choose made_choice standing_holds entries_hold same_row coherent hi_work work_each work_left lo_work fresh_hi fresh_lo start standing_after ran_on reported expired_entry expired_entries expired past_lo overrun settled every_settled can_return judged refreshed next_run kind_fits report_answer step
everything = tt
