-- Laws of the first refusal for a loop over a slice: the answer from place i on.
use Rattle.std.specs.Prelude.{ℕ, ◌+◌, ◌≤◌, ◌<◌, Bool, true, false, ◌≡◌, List, length, drop, get_or, Err}
use Rattle.std.proofs.Common.{drop-cons, drop_of_length-le}
use Rattle.std.proofs.Math.Numerals.{add-one}
use Rattle.answers.specs.declared.Refusal.{Refusal}
use Rattle.answers.specs.Answer.{Answer, Accepted, accepted, ◌unless◌, first_refusal}

module _ {A : Type 0} (judge : ℕ → A → Answer) (xs : List A) (i k : ℕ) (d : A) (h : i < length xs) where
  -- the one at i is accepted: the answer from here is the answer from the next on
  pub slice_goes_on : judge k (get_or xs i d) ≡ Accepted → first_refusal judge (k + 1) (drop (i + 1) xs) ≡ first_refusal judge k (drop i xs)
  unfolding first_refusal accepted
  slice_goes_on p = rw (drop-cons xs i d h, p, add-one i, add-one k)

  -- the one at i is refused: that is the answer
  pub slice_stops : (e : Refusal) → judge k (get_or xs i d) ≡ Err e → Err e ≡ first_refusal judge k (drop i xs)
  unfolding first_refusal accepted
  slice_stops e p = rw (drop-cons xs i d h, p)

-- none is left: accepted
pub slice_ends : {A : Type 0} (judge : ℕ → A → Answer) (xs : List A) (i k : ℕ) → length xs ≤ i → Accepted ≡ first_refusal judge k (drop i xs)
unfolding first_refusal
slice_ends judge xs i k h = rw (drop_of_length-le xs h)

-- ---- a rule that each member must keep
module _ {A : Type 0} (refusal : ℕ → A → Refusal) (holds : ℕ → A → Bool) (xs : List A) (i k : ℕ) (d : A) (h : i < length xs) where
  abbrev judge : ℕ → A → Answer
  judge k x = Err (refusal k x) unless holds k x

  -- the rule holds at i: the answer from here is the answer from the next on
  pub slice_keeps : holds k (get_or xs i d) ≡ true → first_refusal judge (k + 1) (drop (i + 1) xs) ≡ first_refusal judge k (drop i xs)
  slice_keeps p = slice_goes_on judge xs i k d h (rw p)

  -- the rule is broken at i: that is the answer
  pub slice_breaks : holds k (get_or xs i d) ≡ false → Err (refusal k (get_or xs i d)) ≡ first_refusal judge k (drop i xs)
  slice_breaks p = slice_stops judge xs i k d h (refusal k (get_or xs i d)) (rw p)
