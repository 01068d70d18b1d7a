-- Which windows need be tried: where none from a job's release to a job's deadline is overfull, the jobs having work left, no window is.
use Rattle.std.specs.Prelude.{ℕ, zero, suc, ◌+◌, ◌-◌, ◌≤◌, ◌<◌, ◌≡◌, ◌⊎◌}
use Rattle.std.proofs.Math.Decide.{dec_le, ℕ_discrete}
use Rattle.std.proofs.Common.{not-suc-le-zero, arith, inl, inr}
use Rattle.std.proofs.Math.Logic.{⊎_elim}
use Rattle.windows.specs.SumLaws.{total_mono, total_none, gate_open, gate_case}
use Rattle.windows.specs.Windows.{Windows, due_at, inside_at, within}

-- a place below n with a property, or none
abbrev pub Found : (ℕ → Type 0) → ℕ → Type 0
Found P n = ((k : ℕ) × (k < n) × P k) ⊎ ((k : ℕ) → k < n → P k → ⊥)

-- one can be found where the property can be tested
pub found : (P : ℕ → Type 0) → ((k : ℕ) → Dec (P k)) → (n : ℕ) → Found P n
found P dec zero = inr (λ k l. absurd (not-suc-le-zero l))
found P dec (suc n) = go (found P dec n) (dec n)
  where
    go : Found P n → Dec (P n) → Found P (suc n)
    go (inl w) d = inl (w.0, omega (arith, w.1), w.2)
    go (inr q) (yes h) = inl (n, omega arith, h)
    go (inr q) (no h) = inr (λ k l e. below k l e (dec_le n k))
      where
        below : (k : ℕ) → k < suc n → P k → Dec (n ≤ k) → ⊥
        below k l e (yes m) = let s : k ≡ n = omega arith in h (rw s at e)
        below k l e (no m) = q k (omega arith) e

module _ (w : Windows) (left : ℕ → ℕ) (proper : (k : ℕ) → k < w.count → w.release k < w.deadline k) where
  -- place k has work left, in a window that lies from a to b
  record Inside (a b k : ℕ) : Type 0 where
    released : a ≤ w.release k
    due : w.deadline k ≤ b
    some : 0 < left k
    all : inside_at w left a b k ≡ left k

  -- by cases: it has, or it adds nothing
  inside_case : (a b k : ℕ) → Inside a b k ⊎ (inside_at w left a b k ≡ 0)
  inside_case a b k =
      ⊎_elim
      (λ u. ⊎_elim (λ v. go u v (dec_le 1 (left k))) (λ v. inr (omega (arith, u.1, v.1))) (gate_case (w.deadline k) b (left k)))
      (λ u. inr u.1)
      (gate_case a (w.release k) (due_at w left b k))
    where
      go : (a ≤ w.release k) × (inside_at w left a b k ≡ due_at w left b k) → (w.deadline k ≤ b) × (due_at w left b k ≡ left k) → Dec (1 ≤ left k)
          → Inside a b k ⊎ (inside_at w left a b k ≡ 0)
      go u v (yes q) = inl (record { released = u.0; due = v.0; some = q; all = omega (arith, u.1, v.1) })
      go u v (no q) = inr (omega (arith, u.1, v.1))

  -- an empty window has no work
  empty : (a b : ℕ) → b ≤ a → within w left a b ≡ 0
  unfolding within
  empty a b h = total_none w.count (inside_at w left a b) (λ k l. ⊎_elim (λ u. absurd (omega (arith, u.released, u.due, proper k l))) (λ u. u) (inside_case a b k))

  -- a window that keeps every job with work has no less
  narrower : (a b a' b' : ℕ) → ((k : ℕ) → k < w.count → Inside a b k → (a' ≤ w.release k) × (w.deadline k ≤ b')) → within w left a b ≤ within w left a' b'
  unfolding within
  narrower a b a' b' h = total_mono w.count (inside_at w left a b) (inside_at w left a' b') (λ k l. ⊎_elim (each k l) (λ u. omega arith) (inside_case a b k))
    where
      each : (k : ℕ) → k < w.count → Inside a b k → inside_at w left a b k ≤ inside_at w left a' b' k
      each k l u =
          let i = h k l u in
          omega (arith, u.all, gate_open {a = a'} {b = w.release k} (due_at w left b' k) i.0, gate_open {a = w.deadline k} {b = b'} (left k) i.1)

  -- no window from a release to a deadline of jobs with work is overfull
  abbrev pub Tried : Type 0
  Tried =
      (i k : ℕ) → i < w.count → k < w.count → 0 < left i → 0 < left k → w.release i < w.deadline k →
      within w left (w.release i) (w.deadline k) ≤ w.deadline k - w.release i

  -- a job with work left is released at a; one is due at b
  abbrev Starts : ℕ → ℕ → Type 0
  Starts a k = (0 < left k) × (w.release k ≡ a)

  abbrev Ends : ℕ → ℕ → Type 0
  Ends b k = (0 < left k) × (w.deadline k ≡ b)

  -- both can be tested
  both? : (m n k : ℕ) → Dec (1 ≤ left k) → Dec (m ≡ n) → Dec ((0 < left k) × (m ≡ n))
  both? m n k (yes p) (yes q) = yes (p, q)
  both? m n k (yes p) (no q) = no (λ r. q r.1)
  both? m n k (no p) q = no (λ r. p r.0)

  starts? : (a k : ℕ) → Dec (Starts a k)
  starts? a k = both? (w.release k) a k (dec_le 1 (left k)) (ℕ_discrete (w.release k) a)

  ends? : (b k : ℕ) → Dec (Ends b k)
  ends? b k = both? (w.deadline k) b k (dec_le 1 (left k)) (ℕ_discrete (w.deadline k) b)

  -- a window of n slots at most: where no job starts or ends it, it is no fuller than a shorter one
  all_tried : Tried → (n a b : ℕ) → b ≤ a + n → within w left a b ≤ b - a
  all_tried tried zero a b h = let z = empty a b (omega arith) in omega arith
  all_tried tried (suc n) a b h =
      go (dec_le b a) (found (Starts a) (starts? a) w.count) (found (Ends b) (ends? b) w.count)
      (all_tried tried n (a + 1) b (omega arith)) (all_tried tried n a (b - 1) (omega arith))
    where
      go : Dec (b ≤ a) → Found (Starts a) w.count → Found (Ends b) w.count
          → within w left (a + 1) b ≤ b - (a + 1) → within w left a (b - 1) ≤ b - 1 - a → within w left a b ≤ b - a
      go (yes p) x y r s = let z = empty a b p in omega arith
      go (no q) (inr x) y r s =
          let m = narrower a b (a + 1) b (λ k l u. (let n : w.release k ≡ a → ⊥ = (λ e. x k l (u.some, e)) in omega (arith, u.released), u.due)) in
          omega arith
      go (no q) (inl x) (inr y) r s =
          let m = narrower a b a (b - 1) (λ k l u. (u.released, let n : w.deadline k ≡ b → ⊥ = (λ e. y k l (u.some, e)) in omega (arith, u.due))) in
          omega arith
      go (no q) (inl x) (inl y) r s = rw (← x.2.1, ← y.2.1) (tried x.0 y.0 x.1 y.1 x.2.0 y.2.0 (omega (arith, x.2.1, y.2.1)))

  -- so no window is overfull
  pub tried_enough : Tried → (a b : ℕ) → within w left a b ≤ b - a
  tried_enough tried a b = all_tried tried b a b (omega arith)
