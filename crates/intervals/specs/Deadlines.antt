-- The words of deadlines that rise: windows that hold, rising numbers, those above a border. The laws are in DeadlineLaws.
use Rattle.std.specs.Prelude.{ℕ, ◌≤◌, ◌<◌, List, [], ◌∷◌, map, if◌then◌else◌}
use Rattle.words.specs.Words.{◌<?◌}
use Rattle.plan.specs.declared.Job.{Job}
use Rattle.plan.specs.declared.Plan.{Plan}
use Rattle.plan.specs.Limits.{max_slots, max_jobs}
use Rattle.plan.specs.Plan.{jobs_of}
use Rattle.intervals.specs.Intervals.{rising}

-- every window is r < d <= N
abbrev pub Windowed : ℕ → List Job → Type 0
Windowed N [] = Unit
Windowed N (j ∷ js) = (j.release < j.deadline) × (j.deadline ≤ N) × Windowed N js

pub record WithinLimits (p : Plan) : Type 0 where
  pub some_slots : 1 ≤ p.slots
  pub few_slots : p.slots ≤ max_slots
  pub some_jobs : 1 ≤ p.jobs
  pub few_jobs : p.jobs ≤ max_jobs
  pub windows : Windowed p.slots (jobs_of p)

-- the distinct deadlines of some jobs, least first
abbrev pub rising_deadlines : List Job → List ℕ
rising_deadlines js = rising (map (λ j. j.deadline) js)

-- every number is above b, each above the one before, none above top
abbrev pub Rises : ℕ → List ℕ → ℕ → Type 0
Rises b [] top = b ≤ top
Rises b (x ∷ xs) top = (b < x) × Rises x xs top

-- the numbers above m
unfoldable pub above : ℕ → List ℕ → List ℕ
above m [] = []
above m (x ∷ xs) =
    let later = above m xs in
    if m <? x then x ∷ later else later
