-- What it means that intervals cover a stretch without gap or overlap, and that one of them holds a slot. The laws are in IntervalLaws.
use Rattle.std.specs.Prelude.{ℕ, ◌≤◌, ◌<◌, ◌≡◌, List, [], ◌∷◌, map, length, get_or, drop}
use Rattle.intervals.specs.declared.Interval.{Interval}
use Rattle.intervals.specs.Intervals.{past}
use Rattle.intervals.specs.Layout.{blank_interval}

-- the intervals cover a to b: each starts where the one before ends, and each has a length
abbrev pub Covers : ℕ → List Interval → ℕ → Type 0
Covers a [] b = a ≡ b
Covers a (x ∷ xs) b = (x.start ≡ a) × (a < x.end) × Covers x.end xs b

-- where they end
abbrev pub ends : List Interval → List ℕ
ends xs = map (λ x. x.end) xs

-- the i-th interval
abbrev pub interval_at : List Interval → ℕ → Interval
interval_at xs i = get_or xs i blank_interval

-- the interval that holds slot t, and those after it
pub record Holding (t : ℕ) (xs : List Interval) (b : ℕ) : Type 0 where
  pub now : Interval
  pub later : List Interval
  pub from : drop (past t xs) xs ≡ now ∷ later
  pub within : past t xs < length xs
  pub at : interval_at xs (past t xs) ≡ now
  pub begun : now.start ≤ t
  pub still : t < now.end
  pub covers : Covers now.end later b
