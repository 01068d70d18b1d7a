-- `earliest` meets its contract. The invariant: the walk from the best so far over what is left is the whole walk. The measure is the set itself.
use Rattle.std.proofs.Common.{◌≡◌, ◌^◌, ◌<◌}
use Rattle.plan.specs.Limits.{max_jobs}
use Rattle.ready.specs.Ready.{among, earliest_from, earliest, members_of}
use Rattle.ready.proofs.earliest.Given as goal

abbrev pub invariant-loop-rest : goal.invariant-loop-rest
invariant-loop-rest l = among max_jobs l.best × (l.rest < 2 ^ max_jobs) × (earliest_from l.job l.best 1 (members_of max_jobs l.rest) ≡ earliest l.job (members_of max_jobs l.set))

abbrev pub decreases-loop-rest : goal.decreases-loop-rest
decreases-loop-rest l = l.rest
