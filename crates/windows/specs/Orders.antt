-- Orders of slots: who has each slot, how many slots of a window are one job's, and the order that serves all work.
-- Definitions only: SlotLaws and OrderLaws have the laws.
use Rattle.std.specs.Prelude.{ℕ, zero, suc, ◌+◌, ◌≤◌, ◌<◌, max, ◌≡◌}
use Rattle.windows.specs.Sums.{gate, same}
use Rattle.windows.specs.Windows.{Windows}

-- who has slot s: 0 is nobody, and the job at place k of the windows has the name suc k. The slots in [a, b) that name k:
unfoldable pub given : (ℕ → ℕ) → ℕ → ℕ → ℕ → ℕ
given who k a zero = 0
given who k a (suc b) = given who k a b + gate a b (same (who b) k)

-- each job has its work inside its window, in the slots from border t on
abbrev pub ServedBy : Windows → ℕ → (ℕ → ℕ) → (ℕ → ℕ) → Type 0
ServedBy w t left who = (k : ℕ) → k < w.count → given who (suc k) (max (w.release k) t) (w.deadline k) ≡ left k

-- an order of the slots from border t on, each idle or a job's, that serves the work left
pub record Order (w : Windows) (t : ℕ) (left : ℕ → ℕ) : Type 0 where
  pub who : ℕ → ℕ
  pub named : (s : ℕ) → who s ≤ w.count
  pub serves : ServedBy w t left who
