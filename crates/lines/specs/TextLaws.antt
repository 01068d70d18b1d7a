-- The definitions of a line in the library's words: what a line's length, a key and the lines of a text are to `position`,
-- `starts_with` and `filter`.
use Rattle.std.specs.Prelude.{ℕ, ◌-◌, ◌≤◌, ◌<◌, min, ◌≡◌, refl, Bool, true, false, not, ◌&&◌, List, [], ◌∷◌, eqb, length, take, drop, Option, Some, None, unwrap_or, position, filter}
use Rattle.std.specs.List.{starts_with, list_any, position_or_len}
use Rattle.std.proofs.Common.{one-add, arith, sym, ap, ◌∙◌, take_all, length-drop, lt-ltb, le-ltb, le-leb, length-take}
use Rattle.std.proofs.lemmas.Option.{none-some, same_Some}
use Rattle.std.proofs.lemmas.List.{drop_min}
use Rattle.std.proofs.lemmas.List.Recursion.{is_position_or_len}
use Rattle.std.proofs.lemmas.List.Sums.{prefix_len-le-length}
use Rattle.std.proofs.lemmas.Bool.{eqb-true, eq-eqb, ne_eqb, lt-leb}
use Rattle.words.specs.Words.{◌≤?◌}
use Rattle.words.specs.Cases.{by_test, by_less}
use Rattle.lines.specs.Lines.{line_length, lines_in, begins}
use Rattle.lines.specs.Reading.{line_here}

-- ---- the part of a text from a place on

-- a place past the end has none
pub rest_is : (t : List ℕ) (at i : ℕ) → i ≡ min at (length t) → take (length t - i) (drop i t) ≡ drop at t
rest_is t at i e = take_all (length t - i) (drop i t) (omega (arith, length-drop i t)) ∙ rw e (drop_min at t)

-- ---- the end of a line

pub length_is : (s : List ℕ) → line_length s ≡ position_or_len (λ b. eqb b 10) s
unfolding line_length
length_is = is_position_or_len line_length (λ b. eqb b 10) refl (λ b s. rw one-add)

-- the first LF, and what it tells of the line
module _ (s : List ℕ) where
  pub lf_at : (n : ℕ) → Some n ≡ position (λ b. eqb b 10) s → (n ≡ line_length s) × (line_length s < length s)
  lf_at n e = by_less (line_length s) (length s) within beyond
    where
      within : line_length s < length s → (n ≡ line_length s) × (line_length s < length s)
      within h = (same_Some n (line_length s) (e ∙ rw (← length_is s, lt-ltb (line_length s) (length s) h)), h)

      beyond : length s ≤ line_length s → (n ≡ line_length s) × (line_length s < length s)
      beyond h = absurd (none-some n (sym (e ∙ rw (← length_is s, le-ltb (line_length s) (length s) h))))

  pub lf_nowhere : None ≡ position (λ b. eqb b 10) s → length s ≤ line_length s
  lf_nowhere e = by_less (line_length s) (length s) within (λ h. h)
    where
      within : line_length s < length s → length s ≤ line_length s
      within h = absurd (none-some (line_length s) (e ∙ rw (← length_is s, lt-ltb (line_length s) (length s) h)))

pub length_within : (s : List ℕ) → line_length s ≤ length s
length_within s = rw length_is (prefix_len-le-length _ s)

-- the line ends at its first LF, or where the text ends
pub length_found : (s : List ℕ) (o : Option ℕ) → o ≡ position (λ b. eqb b 10) s → unwrap_or o (length s) ≡ line_length s
length_found s (Some n) e = (lf_at s n e).0
length_found s None e = let a = lf_nowhere s e in let b = length_within s in omega (arith, a, b)

-- ---- the key

and_no : (a : Bool) → a && false ≡ false
and_no true = refl
and_no false = refl

-- a line has no LF, so a key that has one begins none
pub key_is : (key s : List ℕ) → begins key (take (line_length s) s) ≡ (starts_with eqb s key && not (list_any (λ b. eqb b 10) key))
unfolding begins line_length
key_is [] s = refl
key_is (k ∷ key) [] = refl
key_is (k ∷ key) (b ∷ s) = by_test (eqb b 10) ends (goes (key_is key s))
  where
    key_test : Bool
    key_test = starts_with eqb (b ∷ s) (k ∷ key) && not (list_any (λ c. eqb c 10) (k ∷ key))

    ends : eqb b 10 ≡ true → begins (k ∷ key) (take (line_length (b ∷ s)) (b ∷ s)) ≡ key_test
    ends e =
        rw e
        (by_test (eqb k b)
        (λ f. let h : eqb k 10 ≡ true = eq-eqb k 10 (eqb-true k b f ∙ eqb-true b 10 e) in rw h (sym (and_no _)))
        (λ f. rw f))

    goes : begins key (take (line_length s) s) ≡ (starts_with eqb s key && not (list_any (λ c. eqb c 10) key))
        → eqb b 10 ≡ false → begins (k ∷ key) (take (line_length (b ∷ s)) (b ∷ s)) ≡ key_test
    goes later e =
        rw e
        (by_test (eqb k b)
        (λ f. let h : eqb k 10 ≡ false = rw (eqb-true k b f) e in rw (f, h) later)
        (λ f. rw f))

pub key_here : (key t : List ℕ) (at : ℕ) → begins key (line_here t at) ≡ (starts_with eqb (drop at t) key && not (list_any (λ b. eqb b 10) key))
unfolding line_here
key_here key t at = key_is key (drop at t)

-- ---- complete lines

pub lines_are : (s : List ℕ) → lines_in s ≡ length (filter (λ b. eqb b 10) s)
unfolding lines_in
lines_are [] = refl
lines_are (b ∷ s) = by_test (eqb b 10) (λ e. rw (e, lines_are s)) (λ e. rw (e, lines_are s))

pub lines_enough : (n : ℕ) (s : List ℕ) (k : ℕ) → k ≡ length (take n (filter (λ b. eqb b 10) s)) → eqb k n ≡ (n ≤? lines_in s)
lines_enough n s k e =
    by_less (lines_in s) n
    (λ h. let a : k ≡ n → ⊥ = (λ z. omega (arith, z, many, h)) in rw (ne_eqb k n a, lt-leb n (lines_in s) h))
    (λ h. let a : k ≡ n = omega (arith, many, h) in rw (eq-eqb k n a, le-leb n (lines_in s) h))
  where
    many : k ≡ min n (lines_in s)
    many = e ∙ length-take n (filter (λ b. eqb b 10) s) ∙ ap (λ m. min n m) (sym (lines_are s))
