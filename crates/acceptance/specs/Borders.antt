-- Words of the code of check 9: where a HI job is about to end, and check 9 from a border on. The rule is in Acceptance.
use Rattle.std.specs.Prelude.{ℕ, ◌-◌, ◌≤◌, ◌<◌, ◌≡◌, Bool, false, not, ◌&&◌, List, drop, get_or}
use Rattle.words.specs.Words.{◌=?◌, below0}
use Rattle.answers.specs.Answer.{Answer, Overdrawn, ◌unless◌, first_refusal}
use Rattle.plan.specs.declared.Job.{Job}
use Rattle.plan.specs.declared.Plan.{Plan}
use Rattle.plan.specs.Limits.{max_jobs, one_to}
use Rattle.plan.specs.Plan.{blank_job, is_hi, slots_of, table_at, counts_at}
use Rattle.spares.specs.Spares.{row, current}
use Rattle.acceptance.specs.Acceptance.{along_table}

-- a slot that names k is the last of a HI job: it has had all its table slots but one
unfoldable pub ends_at : List Job → List ℕ → ℕ → Bool
ends_at job counts k = one_to max_jobs k && is_hi (get_or job (k - 1) blank_job) && (get_or counts (k - 1) 0 =? (get_or job (k - 1) blank_job).lo - 1)

-- no slot from border a to border b is the last of a HI job
abbrev pub NoneEnds : Plan → ℕ → ℕ → Type 0
NoneEnds p a b = (s : ℕ) → a ≤ s → s < b → ends_at p.job (counts_at p s) (table_at p s) ≡ false

-- the test of check 9: along the table, the current HI spare is below 0 at border t
abbrev pub overdrawn : Plan → ℕ → Bool
overdrawn p t = below0 (current p t (row p t (along_table p t)))

-- check 9 from border t on
abbrev pub overdrawn_from : Plan → ℕ → Answer
overdrawn_from p t = first_refusal (λ t _. Overdrawn t unless not (overdrawn p t)) t (drop t (slots_of p))
