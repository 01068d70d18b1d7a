-- `every` is the library's test of all members.
use Rattle.std.specs.Prelude.{Bool, ◌&&◌, ◌≡◌, refl, List, [], ◌∷◌, map}
use Rattle.std.specs.List.{list_all}
use Rattle.std.proofs.Common.{ap}
use Rattle.words.specs.Words.{every}

pub every_is_all : {A : Type 0} (test : A → Bool) (xs : List A) → every (map test xs) ≡ list_all test xs
unfolding every
every_is_all test [] = refl
every_is_all test (x ∷ xs) = ap (test x &&◌) (every_is_all test xs)
