-- Slots of one job set apart: what check 17 forbids, said by slots alone.
use Rattle.std.specs.Prelude.{ℕ, suc, ◌<◌, ◌≡◌, List, length, get_or}

-- so many slots of job k, rising, and between each two a slot that is not k's
pub record Apart (k : ℕ) (slots : List ℕ) (many : ℕ) : Type 0 where
  pub pick : ℕ → ℕ
  pub own : (c : ℕ) → c < many → (pick c < length slots) × (get_or slots (pick c) 0 ≡ k)
  pub cut : (c : ℕ) → suc c < many → (b : ℕ) × (pick c < b) × (b < pick (suc c)) × (get_or slots b 0 ≡ k → ⊥)
