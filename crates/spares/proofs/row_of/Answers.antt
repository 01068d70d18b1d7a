-- `spares::row_of` meets its contract. The loop's invariant: the row from place i on is made, and the debt is that of the intervals from there on.
use Rattle.std.proofs.Common.{rules, arith, ◌-◌, ◌∙◌, w32, to_z-of_z}
use Rattle.spares.specs.InLayout.{row_in}
use Rattle.spares.specs.Debt.{ByHome}
use Rattle.spares.specs.RowLaws.{by_home, row_start, row_turn, row_end}
use Rattle.spares.proofs.row_of.Goals as goal
use Rattle.spares.proofs.row_of.Goals.{After-work_by_home-sums}

-- the sums are those of the jobs, and small
sums-of : (c : After-work_by_home-sums) → ByHome c.before.before.args.l.now.home c.before.before.args.work.now c.work_by_home-sums.result
sums-of c =
    by_home c.before.before.args.l.now.home c.before.before.args.work.now _ c.work_by_home-sums.ensures c.before.before.told-work (λ k h. omega (arith, c.before.before.fits-work k))

pub loop-i-init : goal.loop-i-init
loop-i-init c = rw c.blank_row-row.ensures (row_start c.args.t c.args.l.now.home c.args.work.now c.listed-listed.result.now c.listed-listed.ensures.few)

pub asked_of-ask-requires : goal.asked_of-ask-requires
asked_of-ask-requires c =
    omega (arith, c.loop-i.invariant.small, c.listed-listed.ensures.few)

pub signed-requires : goal.signed-requires
signed-requires c =
    let l = c.loop-i in
    (search rules, omega (arith, l.invariant.small, c.listed-listed.ensures.few, c.asked_of-ask.ensures.1, (sums-of (goal.at.signed-requires c).After-work_by_home-sums).1 (l.i - 1) (omega arith)))

pub loop-i-preserved : goal.loop-i-preserved
loop-i-preserved c =
    let l = c.loop-i in
    row_turn c.args.t c.args.l.now.home c.args.work.now c.listed-listed.result.now c.listed-listed.ensures.few c.work_by_home-sums.result l.row l.debt l.i _ _ _ _ l.invariant (omega arith) (sums-of (goal.at.loop-i-preserved c).After-work_by_home-sums)
    c.room_left-free.ensures.0 c.asked_of-ask.ensures.0 (to_z-of_z {w = w32} (search rules) ∙ c.signed.ensures) c.saturating_sub-debt.ensures

pub returns : goal.returns
unfolding row_in
returns c =
    let l = c.loop-i in
    rw (← c.listed-listed.ensures.all) (row_end c.args.t c.args.l.now.home c.args.work.now c.listed-listed.result.now c.listed-listed.ensures.few l.row l.debt l.i l.invariant (omega arith))
