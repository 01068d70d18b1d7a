-- Laws of the first refusal for a search: the first member that breaks a rule, by its place.
use Rattle.std.specs.Prelude.{ℕ, suc, ◌+◌, ◌≡◌, refl, Bool, not, Option, None, Some, Ok, Err, List, [], ◌∷◌, length, ltb, if◌then◌else◌}
use Rattle.std.specs.List.{position_or_len}
use Rattle.std.specs.Option.{MatchOption}
use Rattle.std.specs.Result.{IsErrAnd}
use Rattle.std.proofs.Common.{arith, ap, sym, ◌∙◌, add-zero, lt-ltb, le-ltb}
use Rattle.words.specs.Cases.{by_test, by_less}
use Rattle.answers.specs.declared.Refusal.{Refusal}
use Rattle.answers.specs.Answer.{Answer, Accepted, accepted, ◌unless◌, first_refusal}

module _ {A : Type 0} (refusal : ℕ → Refusal) (holds : A → Bool) where
  abbrev judge : ℕ → A → Answer
  judge k x = Err (refusal k) unless holds x

  -- how many members stand before the first that breaks the rule
  abbrev first : List A → ℕ
  first xs = position_or_len (λ x. not (holds x)) xs

  -- the same one member later
  later : (k p n : ℕ) → (if ltb p n then Err (refusal (suc k + p)) else Accepted) ≡ (if ltb (1 + p) (suc n) then Err (refusal (k + (1 + p))) else Accepted)
  later k p n =
      by_less p n
      (λ h. let e : suc k + p ≡ k + (1 + p) = omega arith in rw (lt-ltb p n h, lt-ltb (1 + p) (suc n) (omega arith), e))
      (λ h. rw (le-ltb p n h, le-ltb (1 + p) (suc n) (omega arith)))

  first_at : (k : ℕ) (xs : List A) → first_refusal judge k xs ≡ (if ltb (first xs) (length xs) then Err (refusal (k + first xs)) else Accepted)
  unfolding first_refusal accepted
  first_at k [] = refl
  first_at k (x ∷ xs) =
      by_test (holds x)
      (λ h. rw h (first_at (suc k) xs ∙ later k (first xs) (length xs)))
      (λ h. rw (h, lt-ltb 0 (suc (length xs)) (omega arith), add-zero))

  -- the answer a is the refusal with the number, from 1, of the place that was found
  pub told_at : (Told : ℕ → Refusal → Type 0) (means : (i : ℕ) (e : Refusal) → Told i e → e ≡ refusal (i + 1)) (xs : List A) (place : Option ℕ) (a : Answer)
      → place ≡ (if ltb (first xs) (length xs) then Some (first xs) else None)
      → MatchOption place (a ≡ Accepted) (λ i. IsErrAnd a (λ e. Told i e))
      → a ≡ first_refusal judge 1 xs
  told_at Told means xs place a e h =
      by_less (first xs) (length xs)
      (λ l.
      let p : place ≡ Some (first xs) = e ∙ rw (lt-ltb (first xs) (length xs) l) in
      let s : first xs + 1 ≡ 1 + first xs = omega arith in
      let r : first_refusal judge 1 xs ≡ Err (refusal (1 + first xs)) = first_at 1 xs ∙ rw (lt-ltb (first xs) (length xs) l) in
      rw s at (some (first xs) p) ∙ sym r)
      (λ l.
      let p : place ≡ None = e ∙ rw (le-ltb (first xs) (length xs) l) in
      let r : first_refusal judge 1 xs ≡ Accepted = first_at 1 xs ∙ rw (le-ltb (first xs) (length xs) l) in
      none p ∙ sym r)
    where
      none : place ≡ None → a ≡ Accepted
      none q = rw q at h

      given : (i : ℕ) (b : Answer) → IsErrAnd b (λ e. Told i e) → b ≡ Err (refusal (i + 1))
      given i (Ok u) p = absurd p
      given i (Err e) p = ap Err (means i e p)

      some : (i : ℕ) → place ≡ Some i → a ≡ Err (refusal (i + 1))
      some i q = given i a (rw q at h)
