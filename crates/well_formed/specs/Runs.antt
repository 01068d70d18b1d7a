-- Runs of table slots: the table as its longest rows of adjoining slots of one job, and the rule of check 17.
use Rattle.std.specs.Prelude.{ℕ, suc, Bool, List, [], ◌∷◌, map, if◌then◌else◌}
use Rattle.words.specs.Words.{◌≤?◌, ◌=?◌}
use Rattle.plan.specs.declared.Plan.{Plan}
use Rattle.plan.specs.Plan.{slots_of, naming}

-- more than four runs are refused
abbrev pub max_runs : ℕ
max_runs = 4

-- a row of adjoining slots that name the same job
pub record Row : Type 0 where
  pub job : ℕ
  pub long : ℕ

-- a slot before these rows: part of the first if that is its job's, else a row of its own
abbrev pub slot_before : ℕ → List Row → List Row
slot_before s [] = record { job = s; long = 1 } ∷ []
slot_before s (x ∷ xs) = if x.job =? s then record { job = s; long = suc x.long } ∷ xs else record { job = s; long = 1 } ∷ x ∷ xs

-- a table as its longest rows, in order
unfoldable pub rows_of : List ℕ → List Row
rows_of [] = []
rows_of (s ∷ ss) = slot_before s (rows_of ss)

-- a run is a longest row of its adjoining slots: so many runs has job k
unfoldable pub runs_of : ℕ → List ℕ → ℕ
runs_of k slots = naming k (map (λ (x : Row). x.job) (rows_of slots))

-- the table slots of job k form at most four runs
unfoldable pub runs_hold : Plan → ℕ → Bool
runs_hold p k = runs_of k (slots_of p) ≤? max_runs
