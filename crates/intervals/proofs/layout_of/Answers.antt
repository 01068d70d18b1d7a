-- `intervals::layout_of` meets its contract: the plan's intervals laid out, with its jobs at home.
use Rattle.intervals.specs.LaidLaws.{laid_homed}
use Rattle.intervals.proofs.layout_of.Goals as goal

pub returns : goal.returns
returns c =
    laid_homed c.args.p.now c.plan_intervals-bare.result _ _ c.plan_intervals-bare.ensures (rw c.listed.ensures.all at c.places_by_end-place.ensures) (rw c.jobs_of.ensures.jobs at c.homes_by-home.ensures)
