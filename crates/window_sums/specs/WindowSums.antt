-- Check 8: the hi of the HI jobs in a window, summed, against the window's length. The sums are over any list of jobs.
use Rattle.std.specs.Prelude.{ℕ, ◌-◌, ◌&&◌, ◌||◌, List, [], ◌∷◌, map, if◌then◌else◌}
use Rattle.words.specs.Words.{◌≤?◌, sum}
use Rattle.answers.specs.Answer.{Answer, Overfull, ◌unless◌, first_refusal}
use Rattle.plan.specs.declared.Job.{Job}
use Rattle.plan.specs.declared.Plan.{Plan}
use Rattle.plan.specs.Plan.{jobs_of, is_hi}
use Rattle.intervals.specs.Intervals.{rising}

-- the hi of the HI jobs with r >= a and d <= b, summed
unfoldable pub hi_within : List Job → ℕ → ℕ → ℕ
hi_within js a b = sum (map (λ j. if is_hi j && (a ≤? j.release) && (j.deadline ≤? b) then j.hi else 0) js)

unfoldable pub hi_jobs : List Job → List Job
hi_jobs [] = []
hi_jobs (j ∷ js) = if is_hi j then j ∷ hi_jobs js else hi_jobs js

-- the HI releases and the HI deadlines, least first
abbrev pub hi_releases : Plan → List ℕ
hi_releases p = rising (map (λ j. j.release) (hi_jobs (jobs_of p)))

abbrev pub hi_deadlines : Plan → List ℕ
hi_deadlines p = rising (map (λ j. j.deadline) (hi_jobs (jobs_of p)))

-- 8 at a HI release a: for a HI deadline b > a they sum to more than b - a; least b
unfoldable pub check8_at : Plan → ℕ → Answer
check8_at p a = first_refusal (λ _ b. Overfull a b unless ((b ≤? a) || (hi_within (jobs_of p) a b ≤? b - a))) 0 (hi_deadlines p)

-- 8: least a, then least b
unfoldable pub check8 : Plan → Answer
check8 p = first_refusal (λ _ a. check8_at p a) 0 (hi_releases p)
