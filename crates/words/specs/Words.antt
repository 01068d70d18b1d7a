-- The few words of every definition: choice, tests, sums, lists that fill an array. Nothing here is of the trade.
use Rattle.std.specs.Prelude.{ℕ, zero, suc, ◌+◌, ◌-◌, Bool, true, false, ◌&&◌, List, [], ◌∷◌, ◌++◌, leb, ltb, eqb, ℤ, pos, negsuc, length, replicate}

-- the three tests of numbers
infix 40 ◌≤?◌ ◌<?◌ ◌=?◌
abbrev pub ◌≤?◌ : ℕ → ℕ → Bool
m ≤? n = leb m n

abbrev pub ◌<?◌ : ℕ → ℕ → Bool
m <? n = ltb m n

abbrev pub ◌=?◌ : ℕ → ℕ → Bool
m =? n = eqb m n

-- the signed number is below 0; it is above 0
abbrev pub below0 : ℤ → Bool
below0 (pos n) = false
below0 (negsuc n) = true

abbrev pub above0 : ℤ → Bool
above0 (pos n) = 0 <? n
above0 (negsuc n) = false

unfoldable pub sum : List ℕ → ℕ
sum [] = 0
sum (n ∷ ns) = n + sum ns

-- all of them are true
unfoldable pub every : List Bool → Bool
every [] = true
every (b ∷ bs) = b && every bs

-- k, k + 1, and so on, n of them
unfoldable pub count_up : ℕ → ℕ → List ℕ
count_up k zero = []
count_up k (suc n) = k ∷ count_up (suc k) n

-- an array of n that begins with xs and has z beyond
abbrev pub filled : {A : Type 0} → ℕ → A → List A → List A
filled n z xs = xs ++ replicate (n - length xs) z
