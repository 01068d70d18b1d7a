-- General laws that the theorems of this crate use: tests and lists joined member by member. Nothing here is of the trade.
use Prim.Native.Nat.{ℕ, zero, suc, ◌<◌, suc-le-suc, zero-le}
use Rattle.std.proofs.Common.{not-suc-le-zero, le_of_suc-le-suc}
use Rattle.std.specs.Prelude.{◌≡◌, Bool, true, false, ◌&&◌, length, get_or}
use Rattle.std.proofs.Math.Path.{refl}
use Rattle.std.proofs.lemmas.Bool.{false≢true}
use mathlib.Core.List.{List, [], ◌∷◌, zip_with}
use Rattle.words.specs.Words.{every}
use Rattle.words.specs.Cases.{both_hold}

-- ---- tests

-- both of two tests
pub joined : (a b : Bool) → a ≡ true → b ≡ true → (a && b) ≡ true
joined a b p q = rw (p, q)

-- ---- lists

module _ {A B : Type 0} (f : A → B → Bool) (a : A) (b : B) where
  -- a test that holds for one pair of the joined list is of members
  pub zip_member : (xs : List A) (ys : List B) (i : ℕ) → get_or (zip_with f xs ys) i false ≡ true → (i < length xs) × (i < length ys) × (f (get_or xs i a) (get_or ys i b) ≡ true)
  unfolding zip_with
  zip_member [] ys i h = absurd (false≢true h)
  zip_member (x ∷ xs) [] i h = absurd (false≢true h)
  zip_member (x ∷ xs) (y ∷ ys) zero h = (suc-le-suc zero-le, suc-le-suc zero-le, h)
  zip_member (x ∷ xs) (y ∷ ys) (suc i) h = let r = zip_member xs ys i h in (suc-le-suc r.0, suc-le-suc r.1, r.2)

  -- a test that holds for every pair holds for one
  pub every_zip : (xs : List A) (ys : List B) → every (zip_with f xs ys) ≡ true → (i : ℕ) → i < length xs → i < length ys → f (get_or xs i a) (get_or ys i b) ≡ true
  unfolding zip_with every
  every_zip [] ys e i h l = absurd (not-suc-le-zero h)
  every_zip (x ∷ xs) [] e i h l = absurd (not-suc-le-zero l)
  every_zip (x ∷ xs) (y ∷ ys) e zero h l = (both_hold (f x y) (every (zip_with f xs ys)) e).0
  every_zip (x ∷ xs) (y ∷ ys) e (suc i) h l = every_zip xs ys (both_hold (f x y) (every (zip_with f xs ys)) e).1 i (le_of_suc-le-suc h) (le_of_suc-le-suc l)

  -- and the other way
  pub zip_every : (xs : List A) (ys : List B) → ((i : ℕ) → i < length xs → i < length ys → f (get_or xs i a) (get_or ys i b) ≡ true) → every (zip_with f xs ys) ≡ true
  unfolding zip_with every
  zip_every [] ys e = refl
  zip_every (x ∷ xs) [] e = refl
  zip_every (x ∷ xs) (y ∷ ys) e =
      joined (f x y) (every (zip_with f xs ys)) (e 0 (suc-le-suc zero-le) (suc-le-suc zero-le)) (zip_every xs ys (λ i h l. e (suc i) (suc-le-suc h) (suc-le-suc l)))
