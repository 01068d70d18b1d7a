-- `spares::debt::in_debt` meets its contract. The loop's invariant: the debt is that of the intervals from place i on.
use Rattle.std.proofs.Common.{rules, arith, ◌≡◌, ◌-◌, length}
use Rattle.intervals.specs.Layout.{listed, past_in}
use Rattle.spares.specs.Debt.{of_sums, in_debt}
use Rattle.spares.specs.DebtLaws.{debt_back, debt_small, debt_none, past_within}
use Rattle.spares.proofs.debt.in_debt.Goals as goal

pub loop-i-init : goal.loop-i-init
unfolding past_in
loop-i-init c = (rw (c.past_of-i-start.ensures, c.listed-listed.ensures.all) (past_within c.args.t (listed c.args.l.now)), search rules, debt_none c.args.t (of_sums c.args.sums.now) c.listed-listed.result.now)

pub asked_of-requires : goal.asked_of-requires
asked_of-requires c = omega (arith, c.loop-i.invariant.1, c.listed-listed.ensures.few)

pub loop-i-preserved : goal.loop-i-preserved
loop-i-preserved c =
    let l = c.loop-i in
    let xs = c.listed-listed.result.now in (
      omega arith,
      debt_small l.debt c.saturating_sub-debt.result (length xs) l.i (omega (arith, c.fits-sums (l.i - 1), c.asked_of.ensures.1)) l.invariant.1 (omega arith) (search rules),
      rw (c.saturating_sub-debt.ensures, debt_back c.args.t l.i (of_sums c.args.sums.now) xs (omega arith) (search rules), ← l.invariant.2, c.asked_of.ensures.0, c.room_left.ensures.0) (search rules),
    )

pub returns : goal.returns
unfolding in_debt
returns c =
    let l = c.loop-i in
    let e : l.i ≡ c.past_of-i-start.result = omega arith in
    rw (l.invariant.2, e, c.past_of-i-start.ensures, c.listed-listed.ensures.all)
