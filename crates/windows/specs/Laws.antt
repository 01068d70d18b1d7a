-- The main statements of the theory of work in windows, W1 to W8. Nothing here but statements: each is proved by the law that it cites.
use Rattle.std.specs.Prelude.{ℕ, suc, ◌+◌, ◌-◌, ◌≤◌, ◌<◌, max, ◌≡◌, ◌↔◌}
use Rattle.windows.specs.Sums.{total}
use Rattle.windows.specs.Windows.{Windows, due_by, within, InTime, Feasible, NoMore, Ready}
use Rattle.windows.specs.WindowLaws.{due_less, within_less, feasible_mono, met, earliest_keeps, nobody_keeps, spare_keeps}
use Rattle.windows.specs.Orders.{given, Order}
use Rattle.windows.specs.SlotLaws.{counting}
use Rattle.windows.specs.OrderLaws.{order_exists, order_shows, feasible_exactly}

module _ (w : Windows) where
  -- W1, one slot less: nobody has more left and j has less. Then less is due by every border from its deadline on,
  pub W1_due : (left left' : ℕ → ℕ) → NoMore w left' left → (j : ℕ) → j < w.count → left' j + 1 ≤ left j →
      (e : ℕ) → w.deadline j ≤ e → due_by w left' e + 1 ≤ due_by w left e
  W1_due = due_less w

  -- and less lies within every window that holds its own
  pub W1_within : (left left' : ℕ → ℕ) → NoMore w left' left → (j : ℕ) → j < w.count → left' j + 1 ≤ left j →
      (a b : ℕ) → a ≤ w.release j → w.deadline j ≤ b → within w left' a b + 1 ≤ within w left a b
  W1_within = within_less w

  -- W2, monotone: with less work no window is overfull where none was
  pub W2 : (t : ℕ) (left left' : ℕ → ℕ) → NoMore w left' left → Feasible w t left → Feasible w t left'
  W2 = feasible_mono w

  -- W3, deadline: nothing is left at t of a job that is due by t
  pub W3 : (t : ℕ) (left : ℕ → ℕ) → InTime w t left → (k : ℕ) → k < w.count → w.deadline k ≤ t → left k ≡ 0
  W3 = met w

  -- W4, earliest deadline: slot t to a job that no ready job's deadline is before
  pub W4 : (t : ℕ) (left left' : ℕ → ℕ) → Feasible w t left → NoMore w left' left → (j : ℕ) → j < w.count → left' j + 1 ≤ left j →
      ((k : ℕ) → k < w.count → Ready w t left k → w.deadline j ≤ w.deadline k) → Feasible w (t + 1) left'
  W4 = earliest_keeps w

  -- W5, nothing ready: slot t to anyone else, or idle
  pub W5 : (t : ℕ) (left left' : ℕ → ℕ) → Feasible w t left → NoMore w left' left →
      ((k : ℕ) → k < w.count → Ready w t left k → ⊥) → Feasible w (t + 1) left'
  W5 = nobody_keeps w

  -- W6, slack: one slot to spare up to every border. Slot t to anyone, or idle
  pub W6 : (t : ℕ) (left left' : ℕ → ℕ) → Feasible w t left → NoMore w left' left → InTime w (t + 1) left → Feasible w (t + 1) left'
  W6 = spare_keeps w

  -- W7, construction: where no window from t on is overfull and all is due by N, an order of the slots serves the work left
  pub W7 : (N t : ℕ) (left : ℕ → ℕ) → ((k : ℕ) → k < w.count → w.deadline k ≤ N) → Feasible w t left → Order w t left
  W7 = order_exists w

  -- W8, so: slots that give each job its work, or more, inside its window show that no window is overfull
  pub W8_windows : (t : ℕ) (left who : ℕ → ℕ) →
      ((k : ℕ) → k < w.count → left k ≤ given who (suc k) (max (w.release k) t) (w.deadline k)) → Feasible w t left
  W8_windows = order_shows w

  -- W7 and W8: an order of the coming slots exists exactly when no window is overfull
  pub W7_W8 : (N t : ℕ) (left : ℕ → ℕ) → ((k : ℕ) → k < w.count → w.deadline k ≤ N) → Feasible w t left ↔ Order w t left
  W7_W8 = feasible_exactly w

-- W8, counting: of any slots, those in [a, b) that name one of n jobs are b - a at most
pub W8 : (who : ℕ → ℕ) (n a b : ℕ) → total n (λ k. given who (suc k) a b) ≤ b - a
W8 = counting
