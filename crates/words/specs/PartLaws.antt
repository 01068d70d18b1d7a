-- Laws of the first or the last part of an array.
use Rattle.std.specs.Prelude.{ℕ, zero, suc, ◌-◌, ◌<◌, min, ◌≡◌, List, ◌∷◌, length, take, drop, set, replicate}
use Rattle.std.proofs.Common.{sym, ◌∙◌, arith, take_all, lt-length-set, get_or-set_same, drop-cons, drop-set-lt}
use Rattle.words.specs.Cases.{by_less}

-- a count beyond an array takes all of it
pub take_min : {A : Type 0} (n m : ℕ) (xs : List A) → length xs ≡ m → take (min n m) xs ≡ take n xs
take_min n m xs l =
    by_less n m
    (λ h. let e : min n m ≡ n = omega arith in rw e)
    (λ h. take_all (min n m) xs (omega arith) ∙ sym (take_all n xs (omega arith)))

-- the last part of one value repeated
pub drop_replicate : {A : Type 0} (n m : ℕ) (a : A) → drop n (replicate m a) ≡ replicate (m - n) a
drop_replicate zero m a = let e : m - 0 ≡ m = omega arith in rw e
drop_replicate (suc n) zero a = let e : 0 - suc n ≡ 0 = omega arith in rw e
drop_replicate (suc n) (suc m) a = let e : suc m - suc n ≡ m - n = omega arith in rw e (drop_replicate n m a)

-- the part from a place on, after a store there
pub drop_set : {A : Type 0} (l : List A) (i : ℕ) (a d : A) → i < length l → drop i (set l i a) ≡ a ∷ drop (suc i) l
drop_set l i a d h = rw (drop-cons (set l i a) i d (lt-length-set l i a h), get_or-set_same l i a d h, drop-set-lt (suc i) l i a (omega arith))
