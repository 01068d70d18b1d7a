-- S1 at work: the borders count from the end of the current interval on, be that a deadline or not. By computation.
use Rattle.std.specs.Prelude.{◌≡◌, refl, pos}
use Rattle.spares.specs.Spares.{row, current}
use Rattle.acceptance.specs.Analysis.{hi_at_start}
use Rattle.acceptance_promise.specs.Plans.{late}
use Rattle.acceptance_promise.specs.Compute.{planned}
use Rattle.spare_theory.specs.Spares.{current_end}

-- the current interval ends at 5, and the spare is the 5 slots up to there; up to the one deadline, 8, it would be 7
pub empty_first : (current_end late 0 ≡ 5) × (current late 0 (row late 0 (hi_at_start late)) ≡ pos 5)
unfolding planned
empty_first = (refl, refl)
