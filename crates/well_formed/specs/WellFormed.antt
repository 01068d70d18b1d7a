-- Checks 2 to 7 and 17, in their order: what the record of a plan, and of a run, must pass.
use Rattle.std.specs.Prelude.{ℕ, Bool, ◌&&◌, ◌||◌}
use Rattle.words.specs.Words.{◌≤?◌, ◌<?◌, ◌=?◌}
use Rattle.answers.specs.Answer.{Answer, Window, Budget, TableSlot, TableCount, Chopped, ◌unless◌, ◌and_then◌, first_refusal}
use Rattle.plan.specs.declared.Plan.{Plan}
use Rattle.plan.specs.Plan.{jobs_of, slots_of, job_no, naming}
use Rattle.plan.specs.Rules.{check2, check3, window_holds, budget_holds}
use Rattle.well_formed.specs.Runs.{runs_hold}

-- 4: a window breaks r < d <= N; the first such job
unfoldable pub check4 : Plan → Answer
check4 p = first_refusal (λ k j. Window k unless window_holds p.slots j) 1 (jobs_of p)

-- 5: a budget rule is broken; the first such job
unfoldable pub check5 : Plan → Answer
check5 p = first_refusal (λ k j. Budget k unless budget_holds p.slots j) 1 (jobs_of p)

-- 6: a slot names a job above n or outside its window; the first such slot
unfoldable pub slot_holds : Plan → ℕ → ℕ → Bool
slot_holds p t k = (k =? 0) || ((k ≤? p.jobs) && ((job_no p k).release ≤? t) && (t <? (job_no p k).deadline))

unfoldable pub check6 : Plan → Answer
check6 p = first_refusal (λ t k. TableSlot t unless slot_holds p t k) 0 (slots_of p)

-- 7: a job's table slots are not lo in number; the first such job
unfoldable pub check7 : Plan → Answer
check7 p = first_refusal (λ k j. TableCount k unless (naming k (slots_of p) =? j.lo)) 1 (jobs_of p)

-- 17: the table slots of one job form more than four runs; the first such job
unfoldable pub check17 : Plan → Answer
check17 p = first_refusal (λ k _. Chopped k unless runs_hold p k) 1 (jobs_of p)

-- checks 2 to 7 and 17: the part of acceptance that a run's record must pass as well
unfoldable pub well_formed : Plan → Answer
well_formed p = check2 p and_then check3 p and_then check4 p and_then check5 p and_then check6 p and_then check7 p and_then check17 p
