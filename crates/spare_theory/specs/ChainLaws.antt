-- The intervals of a plan in order stand end to end from 0 to N, and no deadline lies inside one: the laws of intervals, as the spares need them.
use Rattle.std.specs.Prelude.{ℕ, ◌<◌}
use Rattle.std.proofs.Common.{arith, ⊎_elim}
use mathlib.Core.List.Memᴰ
use mathlib.Core.List.{List, [], ◌∷◌, Memᴰ}
use Rattle.plan.specs.declared.Plan.{Plan}
use Rattle.intervals.specs.declared.Interval.{Interval}
use Rattle.intervals.specs.Intervals.{intervals}
use Rattle.intervals.specs.Covers.{Covers, ends}
use Rattle.intervals.specs.IntervalLaws.{end_over, intervals_cover, deadline_is_end}
use Rattle.well_formed.specs.InOrder.{job_at, InOrder}
use Rattle.well_formed.specs.InOrderLaws.{job_in, windows_hold_lem}
use Rattle.spare_theory.specs.Chain.{Quiet, Chain, done, link}

-- intervals that cover a to N, and end at each deadline above a
chain_of : (p : Plan) (a : ℕ) (xs : List Interval) → Covers a xs p.slots
    → ((k : ℕ) → k < p.jobs → a < (job_at p k).deadline → Memᴰ (job_at p k).deadline (ends xs)) → Chain p a xs
chain_of p a [] covers among = done covers
chain_of p a (x ∷ xs) covers among = link covers.0 covers.1 quiet (chain_of p x.end xs covers.2 later)
  where
    quiet : Quiet p a x.end
    quiet k l d = ⊎_elim (λ e. omega arith) (λ m. omega (arith, end_over x.end xs p.slots (job_at p k).deadline covers.2 m)) (Memᴰ.cases_cons (among k l d))

    later : (k : ℕ) → k < p.jobs → x.end < (job_at p k).deadline → Memᴰ (job_at p k).deadline (ends xs)
    later k l d = ⊎_elim (λ e. absurd (omega arith)) (λ m. m) (Memᴰ.cases_cons (among k l (omega (arith, covers.1))))

-- the intervals of a plan in order
pub intervals_chain : (p : Plan) → InOrder p → Chain p 0 (intervals p)
intervals_chain p ok = chain_of p 0 (intervals p) (intervals_cover p (windows_hold_lem p ok)) (λ k l d. deadline_is_end p (windows_hold_lem p ok) (job_at p k) (job_in p ok k l))
