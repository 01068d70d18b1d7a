-- The row of a layout: the same recurrence, by the places of the jobs' homes. Of a plan's own layout it is the plan's row (InLayoutLaws).
use Rattle.std.specs.Prelude.{ℕ, suc, ◌+◌, List, [], ◌∷◌, ℤ, pos, get_or, if◌then◌else◌}
use Rattle.words.specs.Words.{◌=?◌, filled}
use Rattle.intervals.specs.declared.Interval.{Interval}
use Rattle.intervals.specs.declared.Layout.{Layout}
use Rattle.intervals.specs.Intervals.{max_intervals}
use Rattle.intervals.specs.Layout.{listed, past_in}
use Rattle.spares.specs.Spares.{Spare, next_spare, spare}

-- the work of those whose home is place i
unfoldable pub work_at : ℕ → List ℕ → List ℕ → ℕ
work_at i [] ws = 0
work_at i (h ∷ hs) [] = 0
work_at i (h ∷ hs) (w ∷ ws) = (if h =? i then w else 0) + work_at i hs ws

-- the spares of the intervals from place i on, worked out last first
unfoldable pub spares_from : ℕ → ℕ → List ℕ → List ℕ → List Interval → List ℤ
spares_from t i hs ws [] = []
spares_from t i hs ws (x ∷ xs) =
    let later : List ℤ = spares_from t (suc i) hs ws xs in
    spare t x (work_at i hs ws) (next_spare later) ∷ later

-- the row of a layout at border t; of a plan's own layout it is the plan's row (InLayoutLaws)
unfoldable pub row_in : Layout → ℕ → List ℕ → List ℤ
row_in l t ws = filled max_intervals (pos 0) (spares_from t 0 l.home ws (listed l))

-- the current spare of a row: that of the interval which holds slot t
unfoldable pub current_in : Layout → ℕ → List Spare → Spare
current_in l t zs = get_or zs (past_in l t) (pos 0)
