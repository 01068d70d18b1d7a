-- Laws of numbers in text: the digits of a number from the last to the first, how many there are, and that writing and reading undo each other.
use Rattle.std.specs.Prelude.{ℕ, zero, suc, ◌+◌, ◌-◌, ◌*◌, ◌/◌, ◌%◌, ◌≤◌, ◌<◌, ◌≡◌, refl, Bool, true, false, ◌&&◌, ◌||◌, List, [], ◌∷◌, ◌++◌, length, if◌then◌else◌}
use Rattle.std.proofs.Common.{arith, sym, ap, ◌∙◌, lt-ltb, le-ltb, le-leb, ne_eqb, leb-true, ltb-false}
use Rattle.std.proofs.Math.Decide.{dec_lt}
use Rattle.std.specs.Prelude.{None, Some}
use Rattle.std.proofs.lemmas.Bool.{eqb-false}
use Rattle.words.specs.Words.{◌≤?◌, ◌<?◌, ◌=?◌}
use Rattle.lines.specs.Lines.{digits_in, digits, number_from, number}

-- none is not some
pub nothing : {A X : Type 0} {a : A} → None ≡ Some a → X
nothing e = absurd (let z : ◌≡◌ {A = ℕ} 0 1 = cc in omega arith)

-- ---- the digits

-- a number below ten has one digit
in_one : (k n : ℕ) → n < 10 → digits_in k n ≡ (48 + n) ∷ []
unfolding digits_in
in_one zero n h = refl
in_one (suc k) n h = rw (lt-ltb n 10 h)

-- any other has those of its tenth, and its last one
in_more : (k n : ℕ) → 10 ≤ n → digits_in (suc k) n ≡ digits_in k (n / 10) ++ (48 + n % 10) ∷ []
unfolding digits_in
in_more k n h = rw (le-ltb n 10 h)

-- where there are enough, it does not matter how many there may be
in_enough : (j k n : ℕ) → n ≤ j → n ≤ k → digits_in j n ≡ digits_in k n
in_enough zero k n h l = let s : n < 10 = omega arith in in_one zero n s ∙ sym (in_one k n s)
in_enough (suc j) zero n h l = let s : n < 10 = omega arith in in_one (suc j) n s ∙ sym (in_one zero n s)
in_enough (suc j) (suc k) n h l =
    elim (dec_lt n 10) [
      | yes s ↦ in_one (suc j) n s ∙ sym (in_one (suc k) n s)
      | no s ↦ let t : 10 ≤ n = omega arith in
          in_more j n t ∙ ap (λ (ds : List ℕ). ds ++ (48 + n % 10) ∷ []) (in_enough j k (n / 10) (omega arith) (omega arith)) ∙ sym (in_more k n t)
    ]

pub digits_one : (n : ℕ) → n < 10 → digits n ≡ (48 + n) ∷ []
unfolding digits
digits_one n h = in_one n n h

pub digits_more : (n : ℕ) → 10 ≤ n → digits n ≡ digits (n / 10) ++ (48 + n % 10) ∷ []
unfolding digits
digits_more zero h = absurd (omega arith)
digits_more (suc n) h = in_more n (suc n) h ∙ ap (λ (ds : List ℕ). ds ++ (48 + suc n % 10) ∷ []) (in_enough n (suc n / 10) (suc n / 10) (omega arith) (omega arith))

pub digits_two : (n : ℕ) → 10 ≤ n → n < 100 → digits n ≡ (48 + n / 10) ∷ (48 + n % 10) ∷ []
digits_two n l h = digits_more n l ∙ rw (digits_one (n / 10) (omega arith))

pub digits_three : (n : ℕ) → 100 ≤ n → n < 1000 → digits n ≡ (48 + n / 100) ∷ (48 + n / 10 % 10) ∷ (48 + n % 10) ∷ []
digits_three n l h =
    let e : n / 10 / 10 ≡ n / 100 = omega arith in
    digits_more n (omega arith) ∙ rw (digits_two (n / 10) (omega arith) (omega arith), e)

pub digits_four : (n : ℕ) → 1000 ≤ n → n < 10000 → digits n ≡ (48 + n / 1000) ∷ (48 + n / 100 % 10) ∷ (48 + n / 10 % 10) ∷ (48 + n % 10) ∷ []
digits_four n l h =
    let e : n / 10 / 100 ≡ n / 1000 = omega arith in
    let f : n / 10 / 10 ≡ n / 100 = omega arith in
    digits_more n (omega arith) ∙ rw (digits_three (n / 10) (omega arith) (omega arith), e, f)

-- a number of four digits at most has at most four
pub digits_few : (n : ℕ) → n ≤ 9999 → length (digits n) ≤ 4
digits_few n h =
    elim (dec_lt n 10) [
      | yes a ↦ rw (digits_one n a) (omega arith)
      | no a ↦ elim (dec_lt n 100) [
        | yes b ↦ rw (digits_two n (omega arith) b) (omega arith)
        | no b ↦ elim (dec_lt n 1000) [
          | yes c ↦ rw (digits_three n (omega arith) c) (omega arith)
          | no c ↦ rw (digits_four n (omega arith) (omega arith)) (omega arith)
        ]
      ]
    ]

-- ---- what is written is read

-- reading goes on after digits that were read
from_append : (a m : ℕ) (s t : List ℕ) → number_from a s ≡ Some m → number_from a (s ++ t) ≡ number_from m t
unfolding number_from
from_append a m [] t e = let q : a ≡ m = cc in rw q
from_append a m (b ∷ s) t e = step ((48 ≤? b) && (b ≤? 57)) (from_append (a * 10 + (b - 48)) m s t) e
  where
    step : (x : Bool) → (number_from (a * 10 + (b - 48)) s ≡ Some m → number_from (a * 10 + (b - 48)) (s ++ t) ≡ number_from m t)
        → (if x then number_from (a * 10 + (b - 48)) s else None) ≡ Some m → (if x then number_from (a * 10 + (b - 48)) (s ++ t) else None) ≡ number_from m t
    step true ih e = ih e
    step false ih e = nothing e

from_digit : (a d : ℕ) → d ≤ 9 → number_from a ((48 + d) ∷ []) ≡ Some (a * 10 + d)
unfolding number_from
from_digit a d h = rw (le-leb 48 (48 + d) (omega arith), le-leb (48 + d) 57 (omega arith)) (ap Some (omega arith))

from_digits : (k n : ℕ) → n ≤ k → number_from 0 (digits n) ≡ Some n
from_digits zero n h = rw (digits_one n (omega arith)) (from_digit 0 n (omega arith) ∙ ap Some (omega arith))
from_digits (suc k) n h =
    elim (dec_lt n 10) [
      | yes s ↦ rw (digits_one n s) (from_digit 0 n (omega arith) ∙ ap Some (omega arith))
      | no s ↦ rw (digits_more n (omega arith), from_append 0 (n / 10) (digits (n / 10)) ((48 + n % 10) ∷ []) (from_digits k (n / 10) (omega arith)))
          (from_digit (n / 10) (n % 10) (omega arith) ∙ ap Some (omega arith))
    ]

-- more digits than one begin with no zero
number_long : (b c : ℕ) (s : List ℕ) → (b ≡ 48 → ⊥) → length s ≤ 2 → number (b ∷ c ∷ s) ≡ number_from 0 (b ∷ c ∷ s)
unfolding number
number_long b c s h l = rw (ne_eqb b 48 h, le-ltb 2 (length s) l)

-- what is read of the digits of a number is the number
pub number_digits : (n : ℕ) → n ≤ 9999 → number (digits n) ≡ Some n
unfolding number
number_digits n h =
    let r : number_from 0 (digits n) ≡ Some n = from_digits n n (omega arith) in
    elim (dec_lt n 10) [
      | yes a ↦ rw (digits_one n a) (rw (digits_one n a) at r)
      | no a ↦ elim (dec_lt n 100) [
        | yes b ↦ let e = digits_two n (omega arith) b in rw e (number_long _ _ _ (omega arith) (omega arith) ∙ rw e at r)
        | no b ↦ elim (dec_lt n 1000) [
          | yes c ↦ let e = digits_three n (omega arith) c in rw e (number_long _ _ _ (omega arith) (omega arith) ∙ rw e at r)
          | no c ↦ let e = digits_four n (omega arith) (omega arith) in rw e (number_long _ _ _ (omega arith) (omega arith) ∙ rw e at r)
        ]
      ]
    ]

-- ---- what is read is what is written

-- a digit that let the reading go on
from_step : (a b n : ℕ) (s : List ℕ) → number_from a (b ∷ s) ≡ Some n → (48 ≤ b) × (b ≤ 57) × (number_from (a * 10 + (b - 48)) s ≡ Some n)
unfolding number_from
from_step a b n s e = pick (48 ≤? b) (b ≤? 57) (leb-true 48 b) (leb-true b 57) e
  where
    pick : (x y : Bool) → (x ≡ true → 48 ≤ b) → (y ≡ true → b ≤ 57) → (if x && y then number_from (a * 10 + (b - 48)) s else None) ≡ Some n
        → (48 ≤ b) × (b ≤ 57) × (number_from (a * 10 + (b - 48)) s ≡ Some n)
    pick true true f g e = (f refl, g refl, e)
    pick true false f g e = nothing e
    pick false y f g e = nothing e

from_end : (a n : ℕ) → number_from a [] ≡ Some n → a ≡ n
unfolding number_from
from_end a n e = cc

-- two digits or more: no zero in front, and four at most
number_open : (b c n : ℕ) (s : List ℕ) → number (b ∷ c ∷ s) ≡ Some n → (b ≡ 48 → ⊥) × (length s ≤ 2) × (number_from 0 (b ∷ c ∷ s) ≡ Some n)
unfolding number
number_open b c n s e = pick (b =? 48) (2 <? length s) (eqb-false b 48) (ltb-false 2 (length s)) e
  where
    pick : (x y : Bool) → (x ≡ false → b ≡ 48 → ⊥) → (y ≡ false → length s ≤ 2) → (if x || y then None else number_from 0 (b ∷ c ∷ s)) ≡ Some n
        → (b ≡ 48 → ⊥) × (length s ≤ 2) × (number_from 0 (b ∷ c ∷ s) ≡ Some n)
    pick false false f g e = (f refl, g refl, e)
    pick false true f g e = nothing e
    pick true y f g e = nothing e

module _ (n : ℕ) where
  back_one : (a : ℕ) → number_from 0 (a ∷ []) ≡ Some n → (digits n ≡ a ∷ []) × (n ≤ 9999)
  back_one a e =
      let p = from_step 0 a n [] e in
      let v = from_end _ n p.2 in
      (rw (digits_one n (omega arith)) (ap (λ (x : ℕ). x ∷ []) (omega arith)), omega arith)

  back_two : (a b : ℕ) → (a ≡ 48 → ⊥) → number_from 0 (a ∷ b ∷ []) ≡ Some n → (digits n ≡ a ∷ b ∷ []) × (n ≤ 9999)
  back_two a b z e =
      let p = from_step 0 a n (b ∷ []) e in
      let q = from_step _ b n [] p.2 in
      let v : (0 * 10 + (a - 48)) * 10 + (b - 48) ≡ n = from_end _ n q.2 in
      let x : 48 + n / 10 ≡ a = omega arith in
      let y : 48 + n % 10 ≡ b = omega arith in
      (rw (digits_two n (omega arith) (omega arith), x, y), omega arith)

  back_three : (a b c : ℕ) → (a ≡ 48 → ⊥) → number_from 0 (a ∷ b ∷ c ∷ []) ≡ Some n → (digits n ≡ a ∷ b ∷ c ∷ []) × (n ≤ 9999)
  back_three a b c z e =
      let p = from_step 0 a n (b ∷ c ∷ []) e in
      let q = from_step _ b n (c ∷ []) p.2 in
      let r = from_step _ c n [] q.2 in
      let v : ((0 * 10 + (a - 48)) * 10 + (b - 48)) * 10 + (c - 48) ≡ n = from_end _ n r.2 in
      let x : 48 + n / 100 ≡ a = omega arith in
      let y : 48 + n / 10 % 10 ≡ b = omega arith in
      let w : 48 + n % 10 ≡ c = omega arith in
      (rw (digits_three n (omega arith) (omega arith), x, y, w), omega arith)

  back_four : (a b c d : ℕ) → (a ≡ 48 → ⊥) → number_from 0 (a ∷ b ∷ c ∷ d ∷ []) ≡ Some n → (digits n ≡ a ∷ b ∷ c ∷ d ∷ []) × (n ≤ 9999)
  back_four a b c d z e =
      let p = from_step 0 a n (b ∷ c ∷ d ∷ []) e in
      let q = from_step _ b n (c ∷ d ∷ []) p.2 in
      let r = from_step _ c n (d ∷ []) q.2 in
      let s = from_step _ d n [] r.2 in
      let v : (((0 * 10 + (a - 48)) * 10 + (b - 48)) * 10 + (c - 48)) * 10 + (d - 48) ≡ n = from_end _ n s.2 in
      let x : 48 + n / 1000 ≡ a = omega arith in
      let y : 48 + n / 100 % 10 ≡ b = omega arith in
      let w : 48 + n / 10 % 10 ≡ c = omega arith in
      let u : 48 + n % 10 ≡ d = omega arith in
      (rw (digits_four n (omega arith) (omega arith), x, y, w, u), omega arith)

-- a text that reads as a number is the number's digits
pub digits_number : (n : ℕ) (s : List ℕ) → number s ≡ Some n → (digits n ≡ s) × (n ≤ 9999)
unfolding number
digits_number n [] e = nothing e
digits_number n (a ∷ []) e = back_one n a e
digits_number n (a ∷ b ∷ []) e = let o = number_open a b n [] e in back_two n a b o.0 o.2
digits_number n (a ∷ b ∷ c ∷ []) e = let o = number_open a b n (c ∷ []) e in back_three n a b c o.0 o.2
digits_number n (a ∷ b ∷ c ∷ d ∷ []) e = let o = number_open a b n (c ∷ d ∷ []) e in back_four n a b c d o.0 o.2
digits_number n (a ∷ b ∷ c ∷ d ∷ f ∷ s) e = let o = number_open a b n (c ∷ d ∷ f ∷ s) e in absurd (omega (arith, o.1))
