-- Laws of an array that is filled from the front: one more entry, the entries so far, and the last.
use Rattle.std.specs.Prelude.{ℕ, suc, ◌+◌, ◌-◌, ◌<◌, ◌≡◌, List, [], ◌∷◌, ◌++◌, map, length, take, set, get_or, replicate}
use Rattle.std.proofs.Common.{sym, ap, ◌∙◌, add-one, arith, length-append, length-take-le, take-suc}
use Rattle.std.proofs.lemmas.List.{map-append, length-map}
use Rattle.std.proofs.Math.Seq.{append_snoc, set-append_seam, take-append_seam}
use Rattle.words.specs.Words.{filled}

module _ {A : Type 0} (n : ℕ) (z : A) (xs : List A) where
  -- the entries so far are those it was filled with
  pub filled_so_far : take (length xs) (filled n z xs) ≡ xs
  filled_so_far = take-append_seam xs (replicate (n - length xs) z)

  -- a store behind them is one entry more
  pub filled_more : (x : A) → length xs < n → set (filled n z xs) (length xs) x ≡ filled n z (xs ++ x ∷ [])
  filled_more x h =
      let m = n - suc (length xs) in
      let more : n - length xs ≡ suc m = omega arith in
      let less : n - length (xs ++ x ∷ []) ≡ m = omega (arith, length-append xs (x ∷ [])) in
      rw (more, less, append_snoc xs x (replicate m z)) (set-append_seam xs z (replicate m z) x)

-- filled by f from the first i of a list, then from one more
pub filled_map : {A B : Type 0} (f : A → B) (n : ℕ) (z : B) (xs : List A) (i : ℕ) (d : A) → i < length xs → i < n
    → set (filled n z (map f (take i xs))) i (f (get_or xs i d)) ≡ filled n z (map f (take (i + 1) xs))
filled_map f n z xs i d l h =
    let size : length (map f (take i xs)) ≡ i = length-map (take i xs) f ∙ length-take-le i xs (omega arith) in
    let more : map f (take (i + 1) xs) ≡ map f (take i xs) ++ (f (get_or xs i d) ∷ []) = rw (add-one i, take-suc xs i d l) (map-append f (take i xs) (get_or xs i d ∷ [])) in
    rw more (ap (λ k. set (filled n z (map f (take i xs))) k (f (get_or xs i d))) (sym size) ∙ filled_more n z (map f (take i xs)) (f (get_or xs i d)) (omega arith))
