-- `spares::work::work_each` meets its contract. The invariant: the array begins with what the jobs passed have left and has 0 beyond.
use Rattle.std.proofs.Common.{◌≡◌, ℕ, take}
use mathlib.Core.List.{zip_with}
use Rattle.words.specs.Words.{filled}
use Rattle.plan.specs.Limits.{max_jobs}
use Rattle.plan.specs.declared.Job.{Job}
use Rattle.entries.specs.declared.Entry.{Entry}
use Rattle.spares.proofs.work.work_each.Given as goal

abbrev pub invariant-loop-i : goal.invariant-loop-i
invariant-loop-i g l = (each : Job → Entry → ℕ) → ((j : Job) → (e : Entry) → (n : ℕ) → goal.F-post g l.left j e n → n ≡ each j e) → l.work ≡ filled max_jobs 0 (take l.i (zip_with each l.job l.entry))
