-- The laws of work in windows: one slot less, less work, the deadline, and what one slot keeps (W1 to W6). Orders of slots are in OrderLaws.
use Rattle.std.specs.Prelude.{ℕ, ◌+◌, ◌-◌, ◌≤◌, ◌<◌, ◌≡◌}
use Rattle.std.proofs.Math.Decide.{dec_le}
use Rattle.std.proofs.Common.{arith}
use Rattle.windows.specs.SumLaws.{total_mono, total_less, total_member, gate_open, gate_shut, gate_mono}
use Rattle.windows.specs.Windows.{Windows, due_at, due_by, inside_at, within, InTime, Feasible, NoMore, Ready}

module _ (w : Windows) where
  -- less work, place by place
  due_at_mono : (left left' : ℕ → ℕ) → NoMore w left' left → (e k : ℕ) → k < w.count → due_at w left' e k ≤ due_at w left e k
  due_at_mono left left' fewer e k h = gate_mono (w.deadline k) e (left' k) (left k) (fewer k h)

  inside_at_mono : (left left' : ℕ → ℕ) → NoMore w left' left → (a b k : ℕ) → k < w.count → inside_at w left' a b k ≤ inside_at w left a b k
  inside_at_mono left left' fewer a b k h = gate_mono a (w.release k) (due_at w left' b k) (due_at w left b k) (due_at_mono left left' fewer b k h)

  -- ---- W1: one slot less
  -- the work due by e has fallen by one, where the one with less is due by e
  pub due_less : (left left' : ℕ → ℕ) → NoMore w left' left → (j : ℕ) → j < w.count → left' j + 1 ≤ left j
      → (e : ℕ) → w.deadline j ≤ e → due_by w left' e + 1 ≤ due_by w left e
  unfolding due_by
  due_less left left' fewer j l one e d =
      total_less w.count (due_at w left' e) (due_at w left e) (due_at_mono left left' fewer e) j l
      (omega (arith, gate_open (left' j) d, gate_open (left j) d))

  -- and so has the work within a window, where its window lies in that one
  pub within_less : (left left' : ℕ → ℕ) → NoMore w left' left → (j : ℕ) → j < w.count → left' j + 1 ≤ left j
      → (a b : ℕ) → a ≤ w.release j → w.deadline j ≤ b → within w left' a b + 1 ≤ within w left a b
  unfolding within
  within_less left left' fewer j l one a b r d =
      total_less w.count (inside_at w left' a b) (inside_at w left a b) (inside_at_mono left left' fewer a b) j l
      (omega (arith, gate_open {b = w.release j} (due_at w left' b j) r, gate_open {b = w.release j} (due_at w left b j) r, gate_open (left' j) d, gate_open (left j) d))

  -- ---- W2: less work
  -- of less work no more is due
  pub due_mono : (left left' : ℕ → ℕ) → NoMore w left' left → (e : ℕ) → due_by w left' e ≤ due_by w left e
  unfolding due_by
  due_mono left left' fewer e =
      total_mono w.count (due_at w left' e) (due_at w left e) (due_at_mono left left' fewer e)

  -- and no more lies within a window
  pub within_mono : (left left' : ℕ → ℕ) → NoMore w left' left → (a b : ℕ) → within w left' a b ≤ within w left a b
  unfolding within
  within_mono left left' fewer a b =
      total_mono w.count (inside_at w left' a b) (inside_at w left a b)
      (inside_at_mono left left' fewer a b)

  -- so less work is in time where more is
  pub in_time_mono : (t : ℕ) (left left' : ℕ → ℕ) → NoMore w left' left → InTime w t left → InTime w t left'
  in_time_mono t left left' fewer now e = let n = now e in omega (arith, due_mono left left' fewer e)

  -- and fills no window more
  pub feasible_mono : (t : ℕ) (left left' : ℕ → ℕ) → NoMore w left' left → Feasible w t left → Feasible w t left'
  feasible_mono t left left' fewer f = (in_time_mono t left left' fewer f.0, λ a b h. omega (arith, f.1 a b h, within_mono left left' fewer a b))

  -- ---- W3: at its deadline a job has nothing left
  pub met : (t : ℕ) (left : ℕ → ℕ) → InTime w t left → (k : ℕ) → k < w.count → w.deadline k ≤ t → left k ≡ 0
  unfolding due_by
  met t left now k l h =
      let m = total_member w.count (due_at w left t) k l in
      let n = now t in
      omega (arith, gate_open (left k) h)

  -- ---- what one slot keeps: no window overfull at t, and nobody with more left at t + 1
  module _ (t : ℕ) (left left' : ℕ → ℕ) (now : Feasible w t left) (fewer : NoMore w left' left) where
    -- only the windows from the next border need an argument
    pub feasible_next : InTime w (t + 1) left' → Feasible w (t + 1) left'
    feasible_next next = (next, λ a b h. omega (arith, now.1 a b (omega arith), within_mono left left' fewer a b))

    -- where nothing due by e is ready, all that is due by e is released later
    not_ready : (e : ℕ) → ((k : ℕ) → k < w.count → w.release k ≤ t → w.deadline k ≤ e → left k ≡ 0) → due_by w left' e ≤ e - (t + 1)
    unfolding due_by within
    not_ready e none =
        let m = total_mono w.count (due_at w left' e) (inside_at w left (t + 1) e) (λ k l. each k l (dec_le (w.release k) t) (dec_le (w.deadline k) e)) in
        omega (arith, now.1 (t + 1) e (omega arith))
      where
        each : (k : ℕ) → k < w.count → Dec (w.release k ≤ t) → Dec (w.deadline k ≤ e) → due_at w left' e k ≤ inside_at w left (t + 1) e k
        each k l r (no q) = omega (arith, gate_shut {a = w.deadline k} {b = e} (left' k) (omega arith))
        each k l (yes r) (yes q) = omega (arith, gate_open (left' k) q, none k l r q, fewer k l)
        each k l (no r) (yes q) = omega (arith, due_at_mono left left' fewer e k l, gate_open {a = t + 1} {b = w.release k} (due_at w left e k) (omega arith))

    -- W4: slot t to a ready job of the earliest deadline
    pub earliest_keeps : (j : ℕ) → j < w.count → left' j + 1 ≤ left j
        → ((k : ℕ) → k < w.count → Ready w t left k → w.deadline j ≤ w.deadline k) → Feasible w (t + 1) left'
    earliest_keeps j l one first = feasible_next (λ e. go e (dec_le (w.deadline j) e))
      where
        go : (e : ℕ) → Dec (w.deadline j ≤ e) → due_by w left' e ≤ e - (t + 1)
        go e (yes q) = omega (arith, due_less left left' fewer j l one e q, now.0 e)
        go e (no q) = not_ready e (λ k h r d. nothing k h r d (dec_le (left k) 0))
          where
            nothing : (k : ℕ) → k < w.count → w.release k ≤ t → w.deadline k ≤ e → Dec (left k ≤ 0) → left k ≡ 0
            nothing k h r d (yes z) = omega arith
            nothing k h r d (no z) = absurd (omega (arith, first k h (r, omega arith)))

    -- W5: nobody is ready
    pub nobody_keeps : ((k : ℕ) → k < w.count → Ready w t left k → ⊥) → Feasible w (t + 1) left'
    nobody_keeps none = feasible_next (λ e. not_ready e (λ k l r d. nothing k l r (dec_le (left k) 0)))
      where
        nothing : (k : ℕ) → k < w.count → w.release k ≤ t → Dec (left k ≤ 0) → left k ≡ 0
        nothing k l r (yes z) = omega arith
        nothing k l r (no z) = absurd (none k l (r, omega arith))

    -- W6: one slot to spare up to every border, so slot t may go to anyone, or idle
    pub spare_keeps : InTime w (t + 1) left → Feasible w (t + 1) left'
    spare_keeps spare = feasible_next (in_time_mono (t + 1) left left' fewer spare)
