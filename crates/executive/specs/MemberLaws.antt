-- Laws of a run's members: the ready jobs or the ready HI jobs, how many, which.
use Rattle.std.specs.Prelude.{ℕ, ◌≤◌, ◌<◌, Bool, true, false, ◌≡◌, refl, length, get_or}
use Rattle.std.proofs.Common.{arith}
use Rattle.plan.specs.declared.Job.{Job}
use Rattle.plan.specs.Limits.{max_jobs}
use Rattle.entries.specs.declared.Entry.{Entry}
use Rattle.ready.specs.Ready.{is_member, members_among}
use Rattle.ready.specs.ReadyLaws.{among_length, among_at}
use Rattle.executive.specs.declared.Run.{Run}
use Rattle.executive.specs.Choice.{ready, ready_hi, members}

-- the members are the ready jobs, or the ready HI jobs
pub members_all : (r : Run) → members false r ≡ ready r
unfolding members members_among is_member ready
members_all r = refl

pub members_hi : (r : Run) → members true r ≡ ready_hi r
unfolding members members_among is_member ready_hi
members_hi r = refl

-- a run's arrays have all their places, and its plan no more jobs than these
pub record Full (r : Run) : Type 0 where
  pub few : r.plan.jobs ≤ max_jobs
  pub jobs : length r.plan.job ≡ max_jobs
  pub entries : length r.entry ≡ max_jobs

module _ (hi : Bool) (r : Run) (full : Full r) where
  pub members_length : length (members hi r) ≡ r.plan.jobs
  unfolding members
  members_length = among_length hi r.t r.plan.job r.entry r.plan.jobs (omega arith) (omega arith)

  pub member_at : (i : ℕ) (j : Job) (e : Entry) → i < r.plan.jobs → get_or (members hi r) i false ≡ is_member hi r.t (get_or r.plan.job i j) (get_or r.entry i e)
  unfolding members
  member_at = among_at hi r.t r.plan.job r.entry r.plan.jobs (omega arith) (omega arith)
