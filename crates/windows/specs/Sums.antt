-- Totals over the numbers below n, and numbers that count only under a test. Definitions only: SumLaws has the laws.
use Rattle.std.specs.Prelude.{ℕ, zero, suc, ◌+◌, if◌then◌else◌}
use Rattle.words.specs.Words.{◌≤?◌, ◌=?◌}

-- the total of f over the numbers below n
unfoldable pub total : ℕ → (ℕ → ℕ) → ℕ
total zero f = 0
total (suc n) f = f 0 + total n (λ k. f (suc k))

-- a gate: n where a ≤ b, else 0
unfoldable pub gate : ℕ → ℕ → ℕ → ℕ
gate a b n = if a ≤? b then n else 0

-- 1 where x is k, else 0
unfoldable pub same : ℕ → ℕ → ℕ
same x k = if x =? k then 1 else 0
