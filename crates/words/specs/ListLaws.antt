-- General laws of lists that the library lacks.
use Rattle.std.specs.Prelude.{ℕ, suc, ◌≤◌, ◌<◌, ◌≡◌, List, ◌∷◌, map, length, take, drop, get_or}
use Rattle.std.proofs.Common.{sym, ◌∙◌, drop-cons, get_or-take, length-take-le}
use Rattle.std.proofs.lemmas.List.{length-map}

-- what owning an array of structs tells is said of a mapped list (for `search`: the arguments are explicit)
pub long : (X Y : Type 0) (f : X → Y) (l : List X) (n : ℕ) → length (map f l) ≡ n → length l ≡ n
long X Y f l n p = sym (length-map l f) ∙ p

-- the first n from place i on: the one at i, then the rest
pub taken_from : {A : Type 0} (xs : List A) (n i : ℕ) (d : A) → n ≤ length xs → i < n → drop i (take n xs) ≡ get_or xs i d ∷ drop (suc i) (take n xs)
taken_from xs n i d le h = let l : i < length (take n xs) = (rw (length-take-le n xs le) h) in rw (drop-cons (take n xs) i d l, get_or-take)
