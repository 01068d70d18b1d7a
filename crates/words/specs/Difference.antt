-- Signed numbers for `omega`: `Is z p m` says that z is p - m, in naturals. Sums, differences, tests and fits of signed numbers become facts of naturals.
-- The definitions of signed numbers themselves are the library's (lib.IntN, lib.Signed).
use Rattle.std.specs.Prelude.{◌≡◌, true, ℕ, zero, suc, ◌+◌, ◌≤◌, ◌<◌, ◌^◌, leb, ℤ, pos, negsuc, neg_ℤ, ◌+ℤ◌, ◌-ℤ◌}
use Rattle.std.proofs.Common.{sym, ap, ◌∙◌, arith, lt-ltb, le-ltb, le-leb, leb-true, to_z-of_z}
use Rattle.std.proofs.Math.Decide.{dec_le}
use Rattle.std.proofs.lemmas.Bool.{lt-leb}
use Rattle.std.proofs.Math.IntN.{sub_ℕ}
use Rattle.std.specs.Int.Signed.{le_z, mag}
use Rattle.std.specs.Int.{Width}
use mir.Val.{SFits, hbits, to_z, of_z}
use Rattle.std.proofs.Math.Facts.{to_z_pos}

abbrev pub is_difference : ℤ → ℕ → ℕ → Type 0
is_difference (pos n) p m = p ≡ m + n
is_difference (negsuc n) p m = m ≡ p + suc n

pub record Is (z : ℤ) (p m : ℕ) : Type 0 where
  pub is : is_difference z p m

pub is_pos : (n : ℕ) → Is (pos n) n 0
is_pos n = omega arith

pub is_sub : (a b : ℕ) → Is (sub_ℕ a b) a b
is_sub a b = go (dec_le b a)
  where
    go : Dec (b ≤ a) → Is (sub_ℕ a b) a b
    go (yes p) = rw (le-ltb a b p) (omega arith)
    go (no q) = rw (lt-ltb a b (omega arith)) (omega arith)

pub is_neg : {z : ℤ} {p m : ℕ} → Is z p m → Is (neg_ℤ z) m p
is_neg {z = pos zero} h = omega arith
is_neg {z = pos (suc n)} h = omega arith
is_neg {z = negsuc n} h = omega arith

-- one number by two differences
pub is_both : {z : ℤ} {p m p' m' : ℕ} → Is z p m → Is z p' m' → p + m' ≡ p' + m
is_both {z = pos n} h k = omega arith
is_both {z = negsuc n} h k = omega arith

-- two numbers by one difference
pub is_one : {z z' : ℤ} {p m p' m' : ℕ} → Is z p m → Is z' p' m' → p + m' ≡ p' + m → z ≡ z'
is_one {z = pos n} {z' = pos n'} h k e = ap pos (omega arith)
is_one {z = pos n} {z' = negsuc n'} h k e = absurd (omega arith)
is_one {z = negsuc n} {z' = pos n'} h k e = absurd (omega arith)
is_one {z = negsuc n} {z' = negsuc n'} h k e = ap negsuc (omega arith)

-- the same number by another difference
pub is_as : {z : ℤ} {p m p' m' : ℕ} → Is z p m → p + m' ≡ p' + m → Is z p' m'
is_as {z = pos n} h e = omega arith
is_as {z = negsuc n} h e = omega arith

pub is_add : {z z' : ℤ} {p m p' m' : ℕ} → Is z p m → Is z' p' m' → Is (z +ℤ z') (p + p') (m + m')
is_add {z = pos a} {z' = pos b} h k = omega arith
is_add {z = pos a} {z' = negsuc b} h k = is_as (is_sub a (suc b)) (omega arith)
is_add {z = negsuc a} {z' = pos b} h k = is_as (is_sub b (suc a)) (omega arith)
is_add {z = negsuc a} {z' = negsuc b} h k = omega arith

pub is_minus : {z z' : ℤ} {p m p' m' : ℕ} → Is z p m → Is z' p' m' → Is (z -ℤ z') (p + m') (m + p')
is_minus h k = is_add h (is_neg k)

-- the test of order is a test of naturals
pub is_le : {z z' : ℤ} {p m p' m' : ℕ} → Is z p m → Is z' p' m' → le_z z z' ≡ leb (p + m') (p' + m)
is_le {z} {z'} {p} {m} {p'} {m'} h k = go z z' h k (dec_le (p + m') (p' + m))
  where
    go : (z z' : ℤ) → Is z p m → Is z' p' m' → Dec (p + m' ≤ p' + m) → le_z z z' ≡ leb (p + m') (p' + m)
    go (pos a) (pos b) h k (yes l) = le-leb a b (omega arith) ∙ sym (le-leb (p + m') (p' + m) l)
    go (pos a) (pos b) h k (no l) = lt-leb a b (omega arith) ∙ sym (lt-leb (p + m') (p' + m) (omega arith))
    go (pos a) (negsuc b) h k (yes l) = absurd (omega arith)
    go (pos a) (negsuc b) h k (no l) = sym (lt-leb (p + m') (p' + m) (omega arith))
    go (negsuc a) (pos b) h k (yes l) = sym (le-leb (p + m') (p' + m) l)
    go (negsuc a) (pos b) h k (no l) = absurd (omega arith)
    go (negsuc a) (negsuc b) h k (yes l) = le-leb b a (omega arith) ∙ sym (le-leb (p + m') (p' + m) l)
    go (negsuc a) (negsuc b) h k (no l) = lt-leb b a (omega arith) ∙ sym (lt-leb (p + m') (p' + m) (omega arith))

pub is_le_of : {z z' : ℤ} {p m p' m' : ℕ} → Is z p m → Is z' p' m' → le_z z z' ≡ true → p + m' ≤ p' + m
is_le_of h k t = leb-true _ _ (sym (is_le h k) ∙ t)

pub is_le_to : {z z' : ℤ} {p m p' m' : ℕ} → Is z p m → Is z' p' m' → p + m' ≤ p' + m → le_z z z' ≡ true
is_le_to h k l = is_le h k ∙ le-leb _ _ l

-- a number of small size, its fit in a width, and what a signed local's bits read back as
pub is_mag : {z : ℤ} {p m : ℕ} (k : ℕ) → Is z p m → p < m + k → m < p + k → mag z < k
is_mag {z = pos n} k h l r = omega arith
is_mag {z = negsuc n} k h l r = omega arith

pub is_to_z : (w : Width) {n : ℕ} → n < 2 ^ hbits w → Is (to_z w n) n 0
is_to_z w {n} h = rw (to_z_pos w h) (is_pos n)

pub is_sfits : (w : Width) {z : ℤ} {p m : ℕ} → Is z p m → p < m + 2 ^ hbits w → m < p + 2 ^ hbits w → SFits w z
is_sfits w h l r = record { sfits = is_mag (2 ^ hbits w) h l r }

pub is_read : (w : Width) {z : ℤ} {p m : ℕ} → Is z p m → p < m + 2 ^ hbits w → m < p + 2 ^ hbits w → Is (to_z w (of_z w z)) p m
is_read w h l r = rw (to_z-of_z {w = w} (is_sfits w h l r)) h
