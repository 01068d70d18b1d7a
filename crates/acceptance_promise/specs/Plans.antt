-- The plans of document 01, written as the document writes them, and two smaller ones. Definitions only.
use Rattle.std.specs.Prelude.{ℕ, List, [], ◌∷◌, length}
use Rattle.words.specs.Words.{filled}
use Rattle.plan.specs.declared.Level.TheVariants.{Lo, Hi}
use Rattle.plan.specs.declared.Job.{Job}
use Rattle.plan.specs.declared.Plan.{Plan}
use Rattle.plan.specs.Limits.{max_jobs, max_slots}
use Rattle.plan.specs.Plan.{blank_job}

abbrev pub HI : ℕ → ℕ → ℕ → ℕ → Job
HI r d lo hi = record { level = Hi; release = r; deadline = d; lo = lo; hi = hi }

abbrev pub LO : ℕ → ℕ → ℕ → ℕ → Job
LO r d lo hi = record { level = Lo; release = r; deadline = d; lo = lo; hi = hi }

abbrev pub plan : ℕ → List Job → List ℕ → Plan
plan N js table = record { slots = N; jobs = length js; job = filled max_jobs blank_job js; table = filled max_slots 0 table }

abbrev pub A : Plan
A = plan 8 (HI 0 8 2 4 ∷ LO 0 4 2 2 ∷ []) (2 ∷ 1 ∷ 2 ∷ 1 ∷ [])

abbrev pub B : ℕ → Plan
B h = plan 4 (LO 0 2 2 2 ∷ HI 0 4 1 h ∷ []) (1 ∷ 1 ∷ 2 ∷ [])

abbrev pub C : Plan
C = plan 8 (HI 0 6 1 5 ∷ LO 0 4 3 3 ∷ []) (1 ∷ 2 ∷ 2 ∷ 2 ∷ [])

-- one job HI, 2, 4, 1, h, table with slot 2 its own
abbrev pub one : ℕ → Plan
one h = plan 8 (HI 2 4 1 h ∷ []) (0 ∷ 0 ∷ 1 ∷ [])

abbrev pub borrowing : Plan
borrowing = plan 12 (HI 5 8 1 1 ∷ HI 0 12 10 10 ∷ []) []

-- one job HI, 5, 8, 1, 1: the first interval is empty and ends at its release
abbrev pub late : Plan
late = plan 8 (HI 5 8 1 1 ∷ []) (0 ∷ 0 ∷ 0 ∷ 0 ∷ 0 ∷ 1 ∷ [])

-- one slot, and one job that has it
abbrev pub one_slot : Plan
one_slot = plan 1 (HI 0 1 1 1 ∷ []) (1 ∷ [])

-- one job LO, 0, 10, 5, 5, with these table slots
abbrev pub camera : List ℕ → Plan
camera table = plan 10 (LO 0 10 5 5 ∷ []) table

-- a job HI, 0, 12, lo, hi before it, which has six slots of twelve
abbrev pub shared : ℕ → ℕ → List ℕ → Plan
shared lo hi table = plan 12 (HI 0 12 lo hi ∷ LO 0 12 6 6 ∷ []) table
