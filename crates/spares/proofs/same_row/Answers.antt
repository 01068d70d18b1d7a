-- `same_row` meets its contract.
use Rattle.std.proofs.Common.{rules, ◌≡◌, length, ◌∙◌, sym}
use Rattle.intervals.specs.Intervals.{max_intervals}
use Rattle.spares.specs.InLayoutLaws.{same_row_lem}
use Rattle.spares.proofs.same_row.Goals as goal

pub returns : goal.returns
returns c =
    let a : length c.args.a.now ≡ max_intervals = search rules in
    let b : length c.args.b.now ≡ max_intervals = search rules in
    c.eq.ensures ∙ same_row_lem c.args.a.now c.args.b.now (a ∙ sym b)
