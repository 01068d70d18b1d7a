-- `earliest` meets its contract. The invariant: the walk from the best so far over what is left is the whole walk. The measure is the set itself.
use Rattle.std.proofs.Common.{◌≡◌, ◌<◌, ◌*◌, ◌^◌, ◌%◌, arith, rules, refl, sym, ◌∙◌}
use Rattle.std.specs.Int.Count.{count_trailing_zeros}
use Rattle.ready.specs.Ready.{earliest}
use Rattle.ready.specs.ReadyLaws.{Lowest, lowest, one_shl, turn, turn_among, walk_end}
use Rattle.ready.proofs.earliest.Goals as goal
use Rattle.ready.proofs.earliest.Goals.{In-loop-rest}

-- the lowest member is within the set
low : (c : In-loop-rest) → Lowest 32 c.before.loop-rest.rest (count_trailing_zeros 32 c.before.loop-rest.rest)
low c = lowest 32 _ (omega (arith, c.loop-rest-test.true)) c.before.loop-rest.invariant.1

shl : (c : In-loop-rest) → (1 * 2 ^ count_trailing_zeros 32 c.before.loop-rest.rest) % 4294967296 ≡ 2 ^ count_trailing_zeros 32 c.before.loop-rest.rest
shl c = one_shl 32 _ (low c).within

pub loop-rest-init : goal.loop-rest-init
unfolding earliest
loop-rest-init c = (search rules, search rules, refl)

pub overflow_sub-rest : goal.overflow_sub-rest
overflow_sub-rest c = rw (shl (goal.at.overflow_sub-rest c).In-loop-rest) (low (goal.at.overflow_sub-rest c).In-loop-rest).here

pub loop-rest-preserved : goal.loop-rest-preserved
loop-rest-preserved c =
    let v = c.loop-rest in
    let some : 0 < v.rest = omega (arith, c.loop-rest-test.true) in
    rw (shl (goal.at.loop-rest-preserved c).In-loop-rest)
    (turn_among c.args.job.now 32 v.best v.rest _ some v.invariant.1 c.better-best.ensures v.invariant.0, omega (arith, v.invariant.1), turn c.args.job.now 32 v.best v.rest _ some v.invariant.1 c.better-best.ensures ∙ v.invariant.2)

pub returns : goal.returns
returns c =
    let v = c.loop-rest in
    sym (walk_end c.args.job.now v.best 1 32) ∙ (rw c.loop-rest-test.false at v.invariant.2)
