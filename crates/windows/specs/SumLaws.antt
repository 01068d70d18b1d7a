-- Laws of totals and gates: comparison place by place, one place of a total, and the two cases of a gate.
use Rattle.std.specs.Prelude.{ℕ, zero, suc, ◌+◌, ◌≤◌, ◌<◌, ◌≡◌, refl, ◌⊎◌}
use Rattle.std.proofs.Common.{suc-le-suc, zero-le, not-suc-le-zero, le_of_suc-le-suc, arith, inl, inr, ⊎_elim, le-leb, eq-eqb, ne_eqb}
use Rattle.std.proofs.Math.Decide.{dec_le, ℕ_discrete}
use Rattle.std.proofs.lemmas.Bool.{lt-leb}
use Rattle.words.specs.Cases.{by_less}
use Rattle.windows.specs.Sums.{total, gate, same}

-- ---- totals
-- at most, place by place
pub total_mono : (n : ℕ) (f g : ℕ → ℕ) → ((k : ℕ) → k < n → f k ≤ g k) → total n f ≤ total n g
unfolding total
total_mono zero f g h = zero-le
total_mono (suc n) f g h =
    let r = total_mono n (λ k. f (suc k)) (λ k. g (suc k)) (λ k l. h (suc k) (suc-le-suc l)) in
    let z = h 0 (suc-le-suc zero-le) in
    omega arith

-- at most place by place, and less at one
pub total_less : (n : ℕ) (f g : ℕ → ℕ) → ((k : ℕ) → k < n → f k ≤ g k) → (j : ℕ) → j < n → f j + 1 ≤ g j → total n f + 1 ≤ total n g
unfolding total
total_less zero f g h j l s = absurd (not-suc-le-zero l)
total_less (suc n) f g h zero l s =
    let r = total_mono n (λ k. f (suc k)) (λ k. g (suc k)) (λ k l. h (suc k) (suc-le-suc l)) in
    omega arith
total_less (suc n) f g h (suc j) l s =
    let r = total_less n (λ k. f (suc k)) (λ k. g (suc k)) (λ k l. h (suc k) (suc-le-suc l)) j (le_of_suc-le-suc l) s in
    let z = h 0 (suc-le-suc zero-le) in
    omega arith

-- equal place by place
pub total_same : (n : ℕ) (f g : ℕ → ℕ) → ((k : ℕ) → k < n → f k ≡ g k) → total n f ≡ total n g
total_same n f g h =
    let a = total_mono n f g (λ k l. let e = h k l in omega arith) in
    let b = total_mono n g f (λ k l. let e = h k l in omega arith) in
    omega arith

-- nothing at any place
pub total_none : (n : ℕ) (f : ℕ → ℕ) → ((k : ℕ) → k < n → f k ≡ 0) → total n f ≡ 0
unfolding total
total_none zero f h = refl
total_none (suc n) f h =
    let r = total_none n (λ k. f (suc k)) (λ k l. h (suc k) (suc-le-suc l)) in
    let z = h 0 (suc-le-suc zero-le) in
    omega arith

-- one place is at most the total
pub total_member : (n : ℕ) (f : ℕ → ℕ) (k : ℕ) → k < n → f k ≤ total n f
unfolding total
total_member zero f k l = absurd (not-suc-le-zero l)
total_member (suc n) f zero l = omega arith
total_member (suc n) f (suc k) l = let r = total_member n (λ i. f (suc i)) k (le_of_suc-le-suc l) in omega arith

-- a total of sums
pub total_add : (n : ℕ) (f g : ℕ → ℕ) → total n (λ k. f k + g k) ≡ total n f + total n g
unfolding total
total_add zero f g = omega arith
total_add (suc n) f g = let r = total_add n (λ k. f (suc k)) (λ k. g (suc k)) in omega arith

-- one number more
pub total_last : (n : ℕ) (f : ℕ → ℕ) → total (suc n) f ≡ total n f + f n
unfolding total
total_last zero f = omega arith
total_last (suc n) f = let r = total_last n (λ k. f (suc k)) in omega arith

-- a total over more places is no less
pub total_up : (f : ℕ → ℕ) (m n : ℕ) → m ≤ n → total m f ≤ total n f
total_up f m zero h = let e : m ≡ 0 = omega arith in rw e (omega arith)
total_up f m (suc n) h =
    by_less n m
    (λ l. let e : m ≡ suc n = omega arith in rw e (omega arith))
    (λ l. omega (arith, total_up f m n l, total_last n f))

-- ---- gates
-- an open gate lets n through
pub gate_open : {a b : ℕ} (n : ℕ) → a ≤ b → gate a b n ≡ n
unfolding gate
gate_open {a} {b} n h = rw (le-leb a b h)

-- a shut one nothing
pub gate_shut : {a b : ℕ} (n : ℕ) → b < a → gate a b n ≡ 0
unfolding gate
gate_shut {a} {b} n h = rw (lt-leb a b h)

-- by cases on the gate
pub gate_case : (a b n : ℕ) → ((a ≤ b) × (gate a b n ≡ n)) ⊎ ((b < a) × (gate a b n ≡ 0))
gate_case a b n = go (dec_le a b)
  where
    go : Dec (a ≤ b) → ((a ≤ b) × (gate a b n ≡ n)) ⊎ ((b < a) × (gate a b n ≡ 0))
    go (yes p) = inl (p, gate_open n p)
    go (no q) = let l : b < a = omega arith in inr (l, gate_shut n l)

-- less behind the same gate
pub gate_mono : (a b m n : ℕ) → m ≤ n → gate a b m ≤ gate a b n
gate_mono a b m n h = ⊎_elim (λ w. omega (arith, gate_open n w.0)) (λ w. omega arith) (gate_case a b m)

-- nothing behind a gate
pub gate_none : (a b n : ℕ) → n ≡ 0 → gate a b n ≡ 0
gate_none a b n z = ⊎_elim (λ w. omega arith) (λ w. w.1) (gate_case a b n)

-- ---- one or nothing
-- 1 where x is k
pub same_yes : (x k : ℕ) → x ≡ k → same x k ≡ 1
unfolding same
same_yes x k e = rw (eq-eqb x k e)

-- 0 where it is not
pub same_no : (x k : ℕ) → (x ≡ k → ⊥) → same x k ≡ 0
unfolding same
same_no x k q = rw (ne_eqb x k q)

-- never more than 1
pub same_le : (x k : ℕ) → same x k ≤ 1
same_le x k = go (ℕ_discrete x k)
  where
    go : Dec (x ≡ k) → same x k ≤ 1
    go (yes p) = omega (arith, same_yes x k p)
    go (no q) = omega (arith, same_no x k q)
