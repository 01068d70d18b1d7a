-- Laws of borders along the table, for check 9: a slot in which the code sees no end has none.
use Rattle.std.specs.Prelude.{ℕ, suc, ◌+◌, ◌-◌, ◌<◌, ◌≡◌, true, get_or}
use Rattle.std.proofs.Common.{arith, le-leb, eq-eqb}
use Rattle.words.specs.Cases.{never}
use Rattle.plan.specs.declared.Plan.{Plan}
use Rattle.plan.specs.Limits.{max_jobs}
use Rattle.plan.specs.Plan.{table_at, counts_at}
use Rattle.plan.specs.CountLaws.{counts_at_lem}
use Rattle.well_formed.specs.InOrder.{job_at, tab, InOrder}
use Rattle.spare_theory.specs.Promise.{EndsIn, NoEnd}
use Rattle.acceptance.specs.Borders.{ends_at, NoneEnds}

module _ (p : Plan) (ok : InOrder p) where
  -- a HI job that ends in slot s is seen
  seen : (s k : ℕ) → k < p.jobs → EndsIn p s k → ends_at p.job (counts_at p s) (table_at p s) ≡ true
  unfolding ends_at
  seen s k l ends =
      let few : k < max_jobs = omega (arith, ok.jobs) in
      let at : table_at p s - 1 ≡ k = omega (arith, ends.1) in
      let one : 1 + k ≡ suc k = omega arith in
      let count : get_or (counts_at p s) k 0 ≡ tab p k s = rw one at (counts_at_lem p s k few) in
      rw (le-leb 1 (table_at p s) (omega (arith, ends.1)), le-leb (table_at p s) max_jobs (omega (arith, ends.1)), at, ends.0, eq-eqb (get_or (counts_at p s) k 0) ((job_at p k).lo - 1) (omega (arith, count, ends.2)))

  -- so where none is seen there is none
  pub no_end : (a b : ℕ) → NoneEnds p a b → NoEnd p a b
  no_end a b none s k h l m ends = never (seen s k m ends) (none s h l)
