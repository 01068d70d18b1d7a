-- The limits of a plan, and of the numbers that a text can hold.
use Rattle.std.specs.Prelude.{ℕ, Bool, ◌&&◌}
use Rattle.words.specs.Words.{◌≤?◌}

abbrev pub max_slots : ℕ
max_slots = 512

abbrev pub max_jobs : ℕ
max_jobs = 32

-- four digits
abbrev pub max_number : ℕ
max_number = 9999

-- 1 to the limit
abbrev pub one_to : ℕ → ℕ → Bool
one_to limit n = (1 ≤? n) && (n ≤? limit)
