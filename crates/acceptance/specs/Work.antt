-- Words of the code of check 9 and of the analysis: the work of one job and of all, and its sums by home. The rules are in Acceptance and Analysis.
use Rattle.std.specs.Prelude.{ℕ}
use mathlib.Core.List.{List, zip_with}
use Rattle.words.specs.Words.{◌<?◌}
use Rattle.plan.specs.declared.Job.{Job}
use Rattle.spares.specs.Spares.{hi_left}
use Rattle.spares.specs.Debt.{sums_by_home}

-- the HI work of a job that has had so many table slots and ends on its lo-th
abbrev pub left_along : Job → ℕ → ℕ
left_along j count = hi_left j (count <? j.lo) count

-- the HI work along the table, a number a job, and its sums by home
abbrev pub work_along : List Job → List ℕ → List ℕ
work_along job counts = zip_with left_along job counts

abbrev pub sums_along : List ℕ → List Job → List ℕ → List ℕ
sums_along home job counts = sums_by_home home (work_along job counts)
