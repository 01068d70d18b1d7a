-- The words in which a row is worked out in naturals: from last to first a debt is carried, what the intervals from here on ask beyond their room.
-- The spares themselves are defined in Spares; that both agree is proved in RowLaws and DebtLaws.
use Rattle.std.specs.Prelude.{ℕ, suc, ◌+◌, ◌-◌, ◌*◌, ◌≤◌, ◌<◌, max, Bool, ◌≡◌, List, [], ◌∷◌, ◌++◌, map, ℤ, pos, get_or, set, length, drop, replicate, if◌then◌else◌}
use Rattle.words.specs.Words.{◌≤?◌, ◌<?◌, count_up}
use Rattle.plan.specs.Limits.{max_jobs}
use Rattle.intervals.specs.declared.Interval.{Interval}
use Rattle.intervals.specs.declared.Layout.{Layout}
use Rattle.intervals.specs.Intervals.{max_intervals}
use Rattle.intervals.specs.Layout.{listed, past_in}
use Rattle.spares.specs.InLayout.{work_at, spares_from}

-- the most work that one job's number holds, and that one place can have
abbrev pub max_work : ℕ
max_work = 65535

abbrev pub max_place_work : ℕ
max_place_work = max_jobs * max_work

-- the largest number that a sum's type holds
abbrev pub max_sum : ℕ
max_sum = 4294967295

-- what an interval has left at border t
abbrev pub room : ℕ → Interval → ℕ
room t x = x.end - max x.start t

-- what is asked of an interval: its own work and the debt of the later ones, nothing once it is past
unfoldable pub asked : ℕ → Interval → ℕ → ℕ → ℕ
asked t x work debt = if x.end ≤? t then 0 else (work + debt)

-- the debt of the intervals from place i on, `work` being that of each place
unfoldable pub debt_from : ℕ → ℕ → (ℕ → ℕ) → List Interval → ℕ
debt_from t i work [] = 0
debt_from t i work (x ∷ xs) = asked t x (work i) (debt_from t (suc i) work xs) - room t x

-- the work of each place: by the jobs' homes, and by sums
abbrev pub of_jobs : List ℕ → List ℕ → ℕ → ℕ
of_jobs hs ws i = work_at i hs ws

abbrev pub of_sums : List ℕ → ℕ → ℕ
of_sums sums i = get_or sums i 0

-- at border t the current interval of a layout is in debt
unfoldable pub in_debt : Layout → ℕ → List ℕ → Bool
in_debt l t sums = 0 <? debt_from t (past_in l t) (of_sums sums) (drop (past_in l t) (listed l))

-- no place has more than the bound
abbrev pub SumsBelow : ℕ → List ℕ → Type 0
SumsBelow bound sums = (i : ℕ) → i < max_intervals → get_or sums i 0 ≤ bound

-- the sums of work by home, one for each place
unfoldable pub sums_by_home : List ℕ → List ℕ → List ℕ
sums_by_home hs ws = map (of_jobs hs ws) (count_up 0 max_intervals)

-- these are those sums, and they are small
abbrev pub ByHome : List ℕ → List ℕ → List ℕ → Type 0
ByHome hs ws sums = (sums ≡ sums_by_home hs ws) × SumsBelow max_place_work sums

-- the sums with the work of one more job; a home beyond the last place counts nowhere
unfoldable pub with_work : List ℕ → ℕ → ℕ → List ℕ
with_work sums home work = if home <? max_intervals then set sums home (get_or sums home 0 + work) else sums

-- after the first k jobs: a place's sum and the work still to come for it are all its work
pub record SumsSoFar (hs ws sums : List ℕ) (k : ℕ) : Type 0 where
  pub size : length sums ≡ max_intervals
  pub within : k ≤ max_jobs
  pub whole : (i : ℕ) → i < max_intervals → get_or sums i 0 + work_at i (drop k hs) (drop k ws) ≡ work_at i hs ws
  pub small : SumsBelow (k * max_work) sums

-- the row of the intervals xs from place i on is made, and the debt is known
pub record RowSoFar (t : ℕ) (hs ws : List ℕ) (xs : List Interval) (row : List ℤ) (debt i : ℕ) : Type 0 where
  pub size : length row ≡ max_intervals
  pub within : i ≤ length xs
  pub owed : debt ≡ debt_from t i (of_jobs hs ws) (drop i xs)
  pub small : debt ≤ (length xs - i) * max_place_work
  pub made : drop i row ≡ spares_from t i hs ws (drop i xs) ++ replicate (max_intervals - length xs) (pos 0)
