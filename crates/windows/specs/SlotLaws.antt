-- Laws of counting slots: windows cut and joined, two orders compared, and the counting law (W8).
use Prim.Native.Nat.{ℕ, zero, suc, ◌+◌, ◌-◌, ◌≤◌, ◌<◌, max, zero-le}
use Rattle.std.proofs.Math.Decide.{dec_le, ℕ_discrete}
use native.Mathlib.Omega.{arith}
use Rattle.std.specs.Prelude.{◌≡◌}
use Rattle.std.proofs.Math.Path.{refl}
use Rattle.windows.specs.Sums.{total, gate, same}
use Rattle.windows.specs.SumLaws.{total_mono, total_none, total_add, total_last, gate_open, gate_shut, same_yes, same_no, same_le}
use Rattle.windows.specs.Orders.{given}

module _ (who : ℕ → ℕ) (k : ℕ) where
  -- ---- windows cut and joined
  -- one slot more at the end of the window
  pub given_last : (a b : ℕ) → a ≤ b → given who k a (suc b) ≡ given who k a b + same (who b) k
  unfolding given
  given_last a b h = omega (arith, gate_open (same (who b) k) h)

  -- an empty window
  pub given_empty : (a b : ℕ) → b ≤ a → given who k a b ≡ 0
  unfolding given
  given_empty a zero h = refl
  given_empty a (suc b) h = omega (arith, given_empty a b (omega arith), gate_shut {a = a} {b = b} (same (who b) k) h)

  -- two windows end to end
  pub given_split : (a m b : ℕ) → a ≤ m → m ≤ b → given who k a b ≡ given who k a m + given who k m b
  unfolding given
  given_split a m zero h l = omega (arith, given_empty a m (omega arith))
  given_split a m (suc b) h l = go (dec_le m b) (given_split a m b h)
    where
      go : Dec (m ≤ b) → (m ≤ b → given who k a b ≡ given who k a m + given who k m b)
          → given who k a b + gate a b (same (who b) k) ≡ given who k a m + (given who k m b + gate m b (same (who b) k))
      go (yes p) r = omega (arith, r p, gate_open {a = a} {b = b} (same (who b) k) (omega arith), gate_open {a = m} {b = b} (same (who b) k) p)
      go (no q) r =
          let e : m ≡ suc b = omega arith in
          rw e (omega (arith, given_empty (suc b) b (omega arith), gate_shut {a = suc b} {b = b} (same (who b) k) (omega arith)))

  -- the first slot of the window
  pub given_first : (a b : ℕ) → a < b → given who k a b ≡ same (who a) k + given who k (suc a) b
  given_first a b h = omega (arith, given_split a (suc a) b (omega arith) h, given_last a a (omega arith), given_empty a a (omega arith))

  -- a wider window has no fewer
  pub given_wider : (a b a' b' : ℕ) → a' ≤ a → b ≤ b' → given who k a b ≤ given who k a' b'
  given_wider a b a' b' h l = go (dec_le a b)
    where
      go : Dec (a ≤ b) → given who k a b ≤ given who k a' b'
      go (yes p) = omega (arith, given_split a' a b' h (omega arith), given_split a b b' p l)
      go (no q) = omega (arith, given_empty a b (omega arith))

  -- no slot of the window names k
  pub given_none : (a b : ℕ) → ((s : ℕ) → a ≤ s → s < b → who s ≡ k → ⊥) → given who k a b ≡ 0
  unfolding given
  given_none a zero h = refl
  given_none a (suc b) h = go (dec_le a b) (given_none a b (λ s l m. h s l (omega arith)))
    where
      go : Dec (a ≤ b) → given who k a b ≡ 0 → given who k a b + gate a b (same (who b) k) ≡ 0
      go (yes p) r = omega (arith, gate_open (same (who b) k) p, same_no (who b) k (h b p (omega arith)))
      go (no q) r = omega (arith, gate_shut {a = a} {b = b} (same (who b) k) (omega arith))

  -- where the slots before t that name k all lie in the window, they and the window's slots from t on are all of it
  pub given_joined : (a b t : ℕ) → a ≤ b → ((s : ℕ) → s < t → who s ≡ k → (a ≤ s) × (s < b)) → given who k a b ≡ given who k 0 t + given who k (max a t) b
  given_joined a b t h inside = go (dec_le t a) (dec_le t b)
    where
      go : Dec (t ≤ a) → Dec (t ≤ b) → given who k a b ≡ given who k 0 t + given who k (max a t) b
      go (yes p) q =
          let e : max a t ≡ a = omega arith in
          let z = given_none 0 t (λ s l m e. absurd (let i = inside s m e in omega arith)) in
          rw e (omega arith)
      go (no p) (yes q) =
          let e : max a t ≡ t = omega arith in
          let z = given_none 0 a (λ s l m e. absurd (let i = inside s (omega arith) e in omega arith)) in
          rw e (omega (arith, given_split 0 a t (omega arith) (omega arith), given_split a t b (omega arith) q))
      go (no p) (no q) =
          let z = given_none 0 a (λ s l m e. absurd (let i = inside s (omega arith) e in omega arith)) in
          let y = given_none b t (λ s l m e. absurd (let i = inside s (omega arith) e in omega arith)) in
          omega (arith, given_empty (max a t) b (omega arith), given_split 0 a t (omega arith) (omega arith), given_split a b t h (omega arith))

  -- a window from border t on: its slot t, if it has that, and what is from t + 1 on
  pub given_from : (r d t : ℕ) → given who k (max r t) d ≡ gate r t (gate (t + 1) d (same (who t) k)) + given who k (max r (t + 1)) d
  given_from r d t = go (dec_le r t) (dec_le (t + 1) d)
    where
      go : Dec (r ≤ t) → Dec (t + 1 ≤ d) → given who k (max r t) d ≡ gate r t (gate (t + 1) d (same (who t) k)) + given who k (max r (t + 1)) d
      go (yes p) (yes q) =
          let e : max r t ≡ t = omega arith in
          let f : max r (t + 1) ≡ suc t = omega arith in
          rw (e, f) (omega (arith, gate_open (gate (t + 1) d (same (who t) k)) p, gate_open (same (who t) k) q, given_first t d (omega arith)))
      go (yes p) (no q) =
          omega (
            arith,
            gate_open (gate (t + 1) d (same (who t) k)) p,
            gate_shut {a = t + 1} {b = d} (same (who t) k) (omega arith),
            given_empty (max r t) d (omega arith),
            given_empty (max r (t + 1)) d (omega arith),
          )
      go (no p) q =
          let e : max r t ≡ r = omega arith in
          let f : max r (t + 1) ≡ r = omega arith in
          rw (e, f) (omega (arith, gate_shut {a = r} {b = t} (gate (t + 1) d (same (who t) k)) (omega arith)))

  -- the m-th slot that names k
  pub given_reach : (t m : ℕ) → 0 < m → m ≤ given who k 0 t → (s : ℕ) × (s < t) × (who s ≡ k) × (given who k 0 (suc s) ≡ m)
  unfolding given
  given_reach zero m p h = absurd (omega arith)
  given_reach (suc t) m p h = go (dec_le m (given who k 0 t)) (ℕ_discrete (who t) k) (given_reach t m p)
    where
      go : Dec (m ≤ given who k 0 t) → Dec (who t ≡ k) → (m ≤ given who k 0 t → (s : ℕ) × (s < t) × (who s ≡ k) × (given who k 0 (suc s) ≡ m))
          → (s : ℕ) × (s < suc t) × (who s ≡ k) × (given who k 0 (suc s) ≡ m)
      go (yes q) w r = let x = r q in (x.0, omega (arith, x.1), x.2, x.3)
      go (no q) (yes w) r = (t, omega arith, w, omega (arith, given_last 0 t (omega arith), same_yes (who t) k w))
      go (no q) (no w) r = absurd (omega (arith, given_last 0 t (omega arith), same_no (who t) k w))

-- ---- two orders compared
-- where every slot of the window that names k in the first names k' in the second, there are no more
pub given_fewer : (who who' : ℕ → ℕ) (k k' a b : ℕ) → ((s : ℕ) → a ≤ s → s < b → who s ≡ k → who' s ≡ k') → given who k a b ≤ given who' k' a b
unfolding given
given_fewer who who' k k' a zero h = zero-le
given_fewer who who' k k' a (suc b) h = go (dec_le a b) (ℕ_discrete (who b) k) (given_fewer who who' k k' a b (λ s l m. h s l (omega arith)))
  where
    go : Dec (a ≤ b) → Dec (who b ≡ k) → given who k a b ≤ given who' k' a b → given who k a b + gate a b (same (who b) k) ≤ given who' k' a b + gate a b (same (who' b) k')
    go (yes p) (yes q) r = omega (arith, gate_open (same (who b) k) p, gate_open (same (who' b) k') p, same_yes (who b) k q, same_yes (who' b) k' (h b p (omega arith) q))
    go (yes p) (no q) r = omega (arith, gate_open (same (who b) k) p, same_no (who b) k q)
    go (no p) q r = omega (arith, gate_shut {a = a} {b = b} (same (who b) k) (omega arith))

-- where they agree in the window, there are as many
pub given_agree : (who who' : ℕ → ℕ) (k a b : ℕ) → ((s : ℕ) → a ≤ s → s < b → who s ≡ who' s) → given who k a b ≡ given who' k a b
given_agree who who' k a b h =
    let l = given_fewer who who' k k a b (λ s m n e. let f = h s m n in omega arith) in
    let r = given_fewer who' who k k a b (λ s m n e. let f = h s m n in omega arith) in
    omega arith

-- ---- W8: counting
-- of the names of n jobs a slot has one at most
pub one_name : (n x : ℕ) → total n (λ k. same x (suc k)) ≤ 1
unfolding total
one_name zero x = zero-le
one_name (suc n) x = rw (total_last n (λ k. same x (suc k))) (go (ℕ_discrete x (suc n)) (one_name n x))
  where
    go : Dec (x ≡ suc n) → total n (λ k. same x (suc k)) ≤ 1 → total n (λ k. same x (suc k)) + same x (suc n) ≤ 1
    go (yes e) r = omega (arith, total_none n (λ k. same x (suc k)) (λ k l. same_no x (suc k) (λ w. omega arith)), same_le x (suc n))
    go (no q) r = omega (arith, same_no x (suc n) q)

-- the slots in [a, b) that are some job's are b - a at most
pub counting : (who : ℕ → ℕ) (n a b : ℕ) → total n (λ k. given who (suc k) a b) ≤ b - a
unfolding given
counting who n a zero = omega (arith, total_none n (λ k. 0) (λ k l. refl))
counting who n a (suc b) = rw (total_add n (λ k. given who (suc k) a b) (λ k. gate a b (same (who b) (suc k)))) (go (dec_le a b) (counting who n a b))
  where
    go : Dec (a ≤ b) → total n (λ k. given who (suc k) a b) ≤ b - a → total n (λ k. given who (suc k) a b) + total n (λ k. gate a b (same (who b) (suc k))) ≤ suc b - a
    go (yes p) r = omega (arith, one_name n (who b), total_mono n (λ k. gate a b (same (who b) (suc k))) (λ k. same (who b) (suc k)) (λ k l. omega (arith, gate_open (same (who b) (suc k)) p)))
    go (no q) r = omega (arith, total_none n (λ k. gate a b (same (who b) (suc k))) (λ k l. gate_shut {a = a} {b = b} (same (who b) (suc k)) (omega arith)))
