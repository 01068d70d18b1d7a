-- Check 9, and acceptance: all checks in their order. 2 to 7 and 17 are in well_formed, 8 is in window_sums.
use Rattle.std.specs.Prelude.{ℕ, not}
use mathlib.Core.List.{List, zip_with}
use Rattle.words.specs.Words.{◌<?◌, below0}
use Rattle.answers.specs.Answer.{Answer, Overdrawn, ◌unless◌, ◌and_then◌, first_refusal}
use Rattle.plan.specs.declared.Plan.{Plan}
use Rattle.plan.specs.Plan.{jobs_of, slots_of, counts_at}
use Rattle.spares.specs.Spares.{hi_left, row, current}
use Rattle.well_formed.specs.WellFormed.{well_formed}
use Rattle.window_sums.specs.WindowSums.{check8}

-- along the table: at border t each job has had its table slots before t, and has ended on its lo-th
unfoldable pub along_table : Plan → ℕ → List ℕ
along_table p t = zip_with (λ j count. hi_left j (count <? j.lo) count) (jobs_of p) (counts_at p t)

-- 9: along the table, the current HI spare is below 0 at a border 0..N-1; the first border
unfoldable pub check9 : Plan → Answer
check9 p = first_refusal (λ t _. Overdrawn t unless not (below0 (current p t (row p t (along_table p t))))) 0 (slots_of p)

-- acceptance, in this order
unfoldable pub acceptance : Plan → Answer
acceptance p = well_formed p and_then check8 p and_then check9 p
