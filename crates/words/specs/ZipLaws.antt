-- Laws of two lists taken together element by element: how many, which at place i, and the test of every pair.
use Prim.Native.Nat.{ℕ, zero, suc, ◌≤◌, ◌<◌}
use Rattle.std.proofs.Common.{not-suc-le-zero, le_of_suc-le-suc, arith, ◌∙◌, get_or-take, length-take-le}
use Rattle.std.specs.Prelude.{Bool, ◌&&◌, ◌≡◌, length, take, get_or}
use Rattle.std.proofs.Math.Path.{refl, ap}
use mathlib.Core.List.{List, [], ◌∷◌, zip_with}
use Rattle.std.specs.List.{list_all, zip}
use Rattle.words.specs.Words.{every}

module _ {A B C : Type 0} (f : A → B → C) where
  pub zip_length : (xs : List A) (ys : List B) → length xs ≤ length ys → length (zip_with f xs ys) ≡ length xs
  unfolding zip_with
  zip_length [] ys h = refl
  zip_length (x ∷ xs) [] h = absurd (not-suc-le-zero h)
  zip_length (x ∷ xs) (y ∷ ys) h = ap suc (zip_length xs ys (le_of_suc-le-suc h))

  -- what stands at a place of two lists put together
  pub zip_at : (xs : List A) (ys : List B) (i : ℕ) (x : A) (y : B) (z : C) → i < length xs → i < length ys → get_or (zip_with f xs ys) i z ≡ f (get_or xs i x) (get_or ys i y)
  unfolding zip_with
  zip_at [] ys i x y z h k = absurd (not-suc-le-zero h)
  zip_at (a ∷ xs) [] i x y z h k = absurd (not-suc-le-zero k)
  zip_at (a ∷ xs) (b ∷ ys) zero x y z h k = refl
  zip_at (a ∷ xs) (b ∷ ys) (suc i) x y z h k = zip_at xs ys i x y z (le_of_suc-le-suc h) (le_of_suc-le-suc k)

-- the first n of the one list with the other
module _ {A B C : Type 0} (f : A → B → C) (xs : List A) (ys : List B) (n : ℕ) (h : n ≤ length xs) (k : n ≤ length ys) where
  pub zipped_length : length (zip_with f (take n xs) ys) ≡ n
  zipped_length = let e = length-take-le n xs h in zip_length f (take n xs) ys (omega arith) ∙ e

  pub zipped_at : (i : ℕ) (x : A) (y : B) (z : C) → i < n → get_or (zip_with f (take n xs) ys) i z ≡ f (get_or xs i x) (get_or ys i y)
  zipped_at i x y z l = let e = length-take-le n xs h in zip_at f (take n xs) ys i x y z (omega arith) (omega arith) ∙ ap (λ (a : A). f a (get_or ys i y)) (get_or-take n xs i x l)

-- the test of every pair is the library's
pub every_pair : {A B : Type 0} (test : A → B → Bool) (xs : List A) (ys : List B) → every (zip_with test xs ys) ≡ list_all (λ (p : A × B). test p.0 p.1) (zip xs ys)
unfolding every zip_with
every_pair test [] ys = refl
every_pair test (x ∷ xs) [] = refl
every_pair test (x ∷ xs) (y ∷ ys) = ap (test x y &&◌) (every_pair test xs ys)
