-- `is_short` meets its contract: the sums are those of the work along the table.
use Rattle.std.proofs.Common.{arith, ap, ◌∙◌}
use Rattle.spares.specs.Debt.{sums_by_home}
use Rattle.acceptance.specs.WorkLaws.{along_layout}
use Rattle.acceptance.proofs.along.Border.is_short.Goals as goal

pub returns : goal.returns
returns c =
    let b = c.args.self in
    let ok = b.of.now.in_order in
    c.in_debt.ensures ∙ along_layout b.of.now.plan.now b.t b.of.now.layout b.counts _ (omega (arith, ok.job_array, ok.jobs)) b.of.now.whole b.of.now.laid b.counted (c.work_by_home-sums.ensures ∙ ap (sums_by_home b.of.now.layout.home) c.work_along-work.ensures)
