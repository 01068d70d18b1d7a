-- The rules for a plan's numbers, job by job: limits, windows, budgets.
use Rattle.std.specs.Prelude.{ℕ, Bool, ◌&&◌, ◌||◌, map}
use Rattle.words.specs.Words.{◌≤?◌, ◌<?◌, ◌=?◌, every}
use Rattle.answers.specs.Answer.{Answer, SlotLimit, JobLimit, ◌unless◌}
use Rattle.plan.specs.declared.Job.{Job}
use Rattle.plan.specs.declared.Plan.{Plan}
use Rattle.plan.specs.Limits.{max_slots, max_jobs, one_to}
use Rattle.plan.specs.Plan.{jobs_of, is_hi}

-- 2: N not 1..512
unfoldable pub check2 : Plan → Answer
check2 p = SlotLimit unless one_to max_slots p.slots

-- 3: n not 1..32
unfoldable pub check3 : Plan → Answer
check3 p = JobLimit unless one_to max_jobs p.jobs

-- a window: r < d <= N
unfoldable pub window_holds : ℕ → Job → Bool
window_holds N j = (j.release <? j.deadline) && (j.deadline ≤? N)

-- budgets: 1 <= lo <= hi <= N, and a LO job has lo = hi
unfoldable pub budget_holds : ℕ → Job → Bool
budget_holds N j = (1 ≤? j.lo) && (j.lo ≤? j.hi) && (j.hi ≤? N) && (is_hi j || (j.lo =? j.hi))

-- N and n are within their limits and every window holds: only then has a plan intervals
unfoldable pub windows_hold : Plan → Bool
windows_hold p = one_to max_slots p.slots && one_to max_jobs p.jobs && every (map (window_holds p.slots) (jobs_of p))
