-- The parts that the writer's checks and the round trip speak of: the numbers of a job, what is said of one, which plans can be
-- written, and the plan cleared beyond n and N. The laws of them are in RoundLaws and WriteLaws.
use Rattle.std.specs.Prelude.{ℕ, ◌≤◌, ◌≡◌, true, List, [], ◌∷◌}
use Rattle.words.specs.Words.{◌≤?◌, filled}
use Rattle.answers.specs.Answer.{Answer, Form, ◌unless◌}
use Rattle.plan.specs.declared.Job.{Job}
use Rattle.plan.specs.declared.Plan.{Plan}
use Rattle.plan.specs.Limits.{max_slots, max_jobs, max_number, one_to}
use Rattle.plan.specs.Plan.{jobs_of, slots_of, blank_job}
use Rattle.lines.specs.RoundLaws.{All}

-- the number on each line of a job, 0 for the level's
abbrev pub numbers_in : Job → List ℕ
numbers_in j = 0 ∷ j.release ∷ j.deadline ∷ j.lo ∷ j.hi ∷ []

-- at most four digits
abbrev pub Small : ℕ → Type 0
Small n = n ≤ max_number

-- no number of the job has more
abbrev pub SmallJob : Job → Type 0
SmallJob j = All Small (numbers_in j)

-- what the writer says of the number on a line
abbrev pub four_digits : ℕ → ℕ → Answer
four_digits line n = Form line unless (n ≤? max_number)

-- what the text of a plan needs to be read again: N and n within their limits, and no number above 9999
pub record Writable (p : Plan) : Type 0 where
  pub slots_fit : one_to max_slots p.slots ≡ true
  pub jobs_fit : one_to max_jobs p.jobs ≡ true
  pub small_jobs : All SmallJob (jobs_of p)
  pub small_slots : All Small (slots_of p)

-- the plan with 0 and LO beyond n and N
abbrev pub cleared : Plan → Plan
cleared p = record { slots = p.slots; jobs = p.jobs; job = filled max_jobs blank_job (jobs_of p); table = filled max_slots 0 (slots_of p) }
