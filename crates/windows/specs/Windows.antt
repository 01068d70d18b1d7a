-- Work in windows: the work due by a border, the work within a window, and when no window is overfull. Definitions only: WindowLaws has the laws.
use Rattle.std.specs.Prelude.{ℕ, ◌-◌, ◌≤◌, ◌<◌}
use Rattle.windows.specs.Sums.{total, gate}

-- the windows of some jobs, one at each place below `count`: from the release to the deadline
pub record Windows : Type 0 where
  pub count : ℕ
  pub release : ℕ → ℕ
  pub deadline : ℕ → ℕ

-- the work due by border e, where `left k` slots of work are left at place k
abbrev pub due_at : Windows → (ℕ → ℕ) → ℕ → ℕ → ℕ
due_at w left e k = gate (w.deadline k) e (left k)

unfoldable pub due_by : Windows → (ℕ → ℕ) → ℕ → ℕ
due_by w left e = total w.count (due_at w left e)

-- the work that is released at a or later and due by b
abbrev pub inside_at : Windows → (ℕ → ℕ) → ℕ → ℕ → ℕ → ℕ
inside_at w left a b k = gate a (w.release k) (gate (w.deadline k) b (left k))

unfoldable pub within : Windows → (ℕ → ℕ) → ℕ → ℕ → ℕ
within w left a b = total w.count (inside_at w left a b)

-- from border t on there is room for the work due by each border e; so nothing is left of what was due by t
abbrev pub InTime : Windows → ℕ → (ℕ → ℕ) → Type 0
InTime w t left = (e : ℕ) → due_by w left e ≤ e - t

-- no window from border t on is overfull
abbrev pub Feasible : Windows → ℕ → (ℕ → ℕ) → Type 0
Feasible w t left = InTime w t left × ((a b : ℕ) → t < a → within w left a b ≤ b - a)

-- nobody has more left than before
abbrev pub NoMore : Windows → (ℕ → ℕ) → (ℕ → ℕ) → Type 0
NoMore w left' left = (k : ℕ) → k < w.count → left' k ≤ left k

-- place k is ready at border t: released, with work left
abbrev pub Ready : Windows → ℕ → (ℕ → ℕ) → ℕ → Type 0
Ready w t left k = (w.release k ≤ t) × (0 < left k)
