-- Two cases of a test, an order or an equality of numbers, each with its fact; the two halves of a joint test.
use Rattle.std.specs.Prelude.{ℕ, ◌≤◌, ◌<◌, Bool, true, false, ◌&&◌, ◌≡◌, refl, ltb}
use Rattle.std.proofs.Math.Decide.{ℕ_discrete}
use Rattle.std.proofs.Common.{arith, ltb-true, ltb-false}

pub by_test {ℓ} : {A : Type ℓ} (b : Bool) → (b ≡ true → A) → (b ≡ false → A) → A
by_test true holds fails = holds refl
by_test false holds fails = fails refl

pub by_less {ℓ} : {A : Type ℓ} (m n : ℕ) → (m < n → A) → (n ≤ m → A) → A
by_less m n less not-less = by_test (ltb m n) (λ h. less (ltb-true m n h)) (λ h. not-less (ltb-false m n h))

pub by_equal {ℓ} : {A : Type ℓ} (m n : ℕ) → (m ≡ n → A) → ((m ≡ n → ⊥) → A) → A
by_equal m n same other = elim (ℕ_discrete m n) [ yes p ↦ same p | no p ↦ other p ]

-- true is not false
pub never : {b : Bool} → b ≡ true → b ≡ false → ⊥
never t f = let z : ◌≡◌ {A = ℕ} 0 1 = cc in omega arith

-- both halves of a joint test hold where it does
pub both_hold : (a b : Bool) → (a && b) ≡ true → (a ≡ true) × (b ≡ true)
both_hold true b h = (refl, h)
both_hold false true h = (h, refl)
both_hold false false h = (h, h)
