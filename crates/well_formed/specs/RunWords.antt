-- The runs of all jobs counted in one pass over the table, with the slot before.
use Rattle.std.specs.Prelude.{ℕ, List, [], ◌∷◌, replicate, if◌then◌else◌}
use Rattle.words.specs.Words.{◌=?◌}
use Rattle.plan.specs.Limits.{max_jobs}
use Rattle.plan.specs.Counts.{counted_with}

-- before the first slot: 0 for each job
abbrev pub no_runs : List ℕ
no_runs = replicate max_jobs 0

-- the counts after slot s: one that does not go on the row of the slot before counts for its job
unfoldable pub runs_with : List ℕ → ℕ → ℕ → List ℕ
runs_with runs before s = if s =? before then runs else counted_with runs s

-- the counts after these slots; `before` is what the slot before them names, 0 at the start
unfoldable pub runs_from : ℕ → List ℕ → List ℕ → List ℕ
runs_from before runs [] = runs
runs_from before runs (s ∷ ss) = runs_from s (runs_with runs before s) ss
