-- Laws of reading by place: the ways to find a value, which texts are numbers, and that a field at a place is the definitions' field.
use Rattle.std.proofs.Math.Path.{◌≡◌, refl}
use Rattle.std.proofs.Common.{sym, ap, zero-le, suc-le-suc, length-take, take_all}
use Rattle.std.specs.Prelude.{List, [], ◌∷◌, Bool, ◌&&◌, ◌||◌, get_or, take, drop, eqb, Option, None, Some, position, option_map, option_and_then, if◌then◌else◌}
use Rattle.std.proofs.lemmas.Option.{none-some, same_Some}
use Rattle.std.proofs.Math.Bool.{true, false}
use Prim.Native.Nat.{ℕ, zero, suc, ◌+◌, ◌-◌, ◌≤◌, ◌<◌}
use Rattle.std.proofs.Math.Nat.{sub-zero}
use native.Mathlib.Omega.{arith}
use Rattle.std.proofs.Math.ListN.{length, length-drop}
use Rattle.std.proofs.Math.Seq.{drop-drop, take-nil}
use borrow.Author.Tests.{eq-eqb, ne_eqb, le-ltb, lt-ltb, ltb-true}
use Rattle.answers.specs.Answer.{Form}
use Rattle.words.specs.Words.{◌<?◌}
use Rattle.lines.specs.Lines.{LF, got, refused, line_length, begins, same_bytes, number, number_from, or_form, value_in}
use Rattle.lines.specs.Reading.{line_with, line_after, line_here, value_at, field_at, standing}
use Rattle.lines.specs.TextLaws.{lf_at, lf_nowhere}
use Rattle.lines.specs.declared.reading.ValueAt.{ValueAt}

differ : false ≡ true → ⊥
differ e = let z : ◌≡◌ {A = ℕ} 0 1 = cc in omega arith

and_right : (a b : Bool) → a && b ≡ true → b ≡ true
and_right true b h = h
and_right false b h = absurd (differ h)

pub begins_length : (key s : List ℕ) → begins key s ≡ true → length key ≤ length s
unfolding begins
begins_length [] s h = zero-le
begins_length (k ∷ key) [] h = absurd (differ h)
begins_length (k ∷ key) (b ∷ s) h = suc-le-suc (begins_length key s (and_right (eqb k b) (begins key s) h))

-- ---- the same bytes

pub same_length : (s word : List ℕ) → (length s ≡ length word → ⊥) → false ≡ same_bytes s word
unfolding same_bytes
same_length [] [] h = absurd (h refl)
same_length [] (b ∷ word) h = refl
same_length (a ∷ s) [] h = refl
same_length (a ∷ s) (b ∷ word) h = rw (← same_length s word (λ e. h (ap suc e))) (sym (and_no (eqb a b)))
  where
    and_no : (c : Bool) → c && false ≡ false
    and_no true = refl
    and_no false = refl

-- ---- where a value stands: the line has the key, and the LF is looked for behind it

-- what is left of a line behind its key is as long as the line without the key
pub key_length : (key s : List ℕ) → begins key (take (line_length s) s) ≡ true → line_length s ≡ length key + line_length (drop (length key) s)
unfolding begins line_length
key_length [] s h = omega arith
key_length (k ∷ key) [] h = absurd (differ h)
key_length (k ∷ key) (b ∷ s) h = inner (eqb b LF) (λ e. key_length key s e) h
  where
    inner : (z : Bool) → (begins key (take (line_length s) s) ≡ true → line_length s ≡ length key + line_length (drop (length key) s))
        → begins (k ∷ key) (take (if z then 0 else suc (line_length s)) (b ∷ s)) ≡ true
        → (if z then 0 else suc (line_length s)) ≡ suc (length key) + line_length (drop (length key) s)
    inner true on e = absurd (differ e)
    inner false on e = omega (arith, on (and_right (eqb k b) (begins key (take (line_length s) s)) e))

-- where the value stands if the line is closed and has the key
abbrev found : List ℕ → ℕ → List ℕ → ValueAt
found t at key = record { start = at + length key; len = line_length (drop at t) - length key; next = line_after t at }

module _ (t : List ℕ) (at : ℕ) (key : List ℕ) where
  pub value_other : begins key (line_here t at) ≡ false → value_at t at key ≡ None
  unfolding value_at line_here
  value_other b = rw b (either (line_length (drop at t) <? length (drop at t)))
    where
      either : (z : Bool) → (if z && false then Some (found t at key) else None) ≡ None
      either true = refl
      either false = refl

  module _ (b : begins key (line_here t at) ≡ true) where
    -- the key is within the text
    pub key_fits : length key ≤ length t - at
    unfolding line_here
    key_fits = omega (arith, simp (length-take, length-drop) at (begins_length key (line_here t at) b))

    -- the rest of the text behind the key, in which the LF is looked for
    behind : drop (at + length key) t ≡ take (length t - (at + length key)) (drop (at + length key) t)
    behind = sym (take_all (length t - (at + length key)) (drop (at + length key) t) (omega (arith, length-drop (at + length key) t)))

    same : line_length (drop at t) ≡ length key + line_length (drop (at + length key) t)
    unfolding line_here
    same = rw drop-drop at (key_length key (drop at t) b)

    longer : length (drop at t) ≡ length key + length (drop (at + length key) t)
    longer = let f = key_fits in omega (arith, f, length-drop at t, length-drop (at + length key) t)

    pub value_unclosed : None ≡ position (λ c. eqb c 10) (take (length t - (at + length key)) (drop (at + length key) t)) → value_at t at key ≡ None
    unfolding value_at
    value_unclosed e =
        let h = lf_nowhere (drop (at + length key) t) (rw behind e) in
        rw (le-ltb (line_length (drop at t)) (length (drop at t)) (omega (arith, same, longer, h)))

    pub value_found : (n : ℕ) → Some n ≡ position (λ c. eqb c 10) (take (length t - (at + length key)) (drop (at + length key) t))
        → value_at t at key ≡ Some (record { start = at + length key; len = n; next = at + length key + n + 1 })
    unfolding value_at line_here
    value_found n e =
        let h = lf_at (drop (at + length key) t) n (rw behind e) in
        let closed : (line_length (drop at t) <? length (drop at t)) ≡ true = lt-ltb (line_length (drop at t)) (length (drop at t)) (omega (arith, same, longer, h.1)) in
        let l : line_length (drop at t) - length key ≡ n = omega (arith, same, h.0) in
        let m : line_after t at ≡ at + length key + n + 1 = omega (arith, same, h.0) in
        rw (closed, b, l, m)

-- ---- which texts are numbers

pub number_long : (s : List ℕ) → 4 < length s → number s ≡ None
unfolding number
number_long [] h = refl
number_long (b ∷ []) h = absurd (omega arith)
number_long (b ∷ c ∷ bs) h =
    let l : (2 <? length bs) ≡ true = lt-ltb 2 (length bs) (omega arith) in
    rw l (either (eqb b 48))
  where
    either : (z : Bool) → (if z || true then None else number_from 0 (b ∷ c ∷ bs)) ≡ None
    either true = refl
    either false = refl

pub number_none : (s : List ℕ) → length s ≡ 0 → number s ≡ None
unfolding number
number_none [] h = refl
number_none (b ∷ s) h = absurd (omega arith)

pub number_zero : (s : List ℕ) → 1 < length s → get_or s 0 0 ≡ 48 → number s ≡ None
unfolding number
number_zero [] h e = refl
number_zero (b ∷ []) h e = absurd (omega arith)
number_zero (b ∷ c ∷ s) h e = rw (eq-eqb b 48 e)

pub number_one : (s : List ℕ) → length s ≤ 1 → (length s ≡ 0 → ⊥) → number s ≡ number_from 0 s
unfolding number
number_one [] h n = absurd (n refl)
number_one (b ∷ []) h n = refl
number_one (b ∷ c ∷ s) h n = absurd (omega arith)

pub number_more : (s : List ℕ) → length s ≤ 4 → 1 < length s → (get_or s 0 0 ≡ 48 → ⊥) → number s ≡ number_from 0 s
unfolding number
number_more [] l h e = absurd (omega arith)
number_more (b ∷ []) l h e = absurd (omega arith)
number_more (b ∷ c ∷ s) l h e = rw (ne_eqb b 48 e, le-ltb 2 (length s) (omega arith))

-- ---- a value that was found, whatever it is to mean

drop_taken : (k n : ℕ) (s : List ℕ) → drop k (take n s) ≡ take (n - k) (drop k s)
drop_taken zero n s = rw sub-zero
drop_taken (suc k) zero s = let z : 0 - suc k ≡ 0 = omega arith in rw z
drop_taken (suc k) (suc n) [] = sym (take-nil (suc n - suc k))
drop_taken (suc k) (suc n) (b ∷ s) = let z : suc n - suc k ≡ n - k = omega arith in rw z (drop_taken k n s)

module _ {A : Type 0} (meaning : List ℕ → Option A) (t : List ℕ) (at : ℕ) (key : List ℕ) where
  -- a value that stands at a place: the line's value, and the line after it
  pub value_there : (v : ValueAt) → Some v ≡ value_at t at key
      → (value_in meaning key (drop at t) ≡ meaning (take v.len (drop v.start t))) × (v.next ≡ line_after t at)
  unfolding value_at value_in
  value_there v e = inner (line_length (drop at t) <? length (drop at t)) (begins key (take (line_length (drop at t)) (drop at t))) e
    where
      n : ℕ
      n = line_length (drop at t)

      inner : (b d : Bool) → Some v ≡ (if b && d then Some (found t at key) else None)
          → ((if b && d then meaning (drop (length key) (take n (drop at t))) else None) ≡ meaning (take v.len (drop v.start t)))
          × (v.next ≡ line_after t at)
      inner true true e = rw (same_Some v (found t at key) e) (rw (drop_taken, drop-drop), refl)
      inner true false e = absurd (none-some v (sym e))
      inner false d e = absurd (none-some v (sym e))

  pub value_none : None ≡ value_at t at key → value_in meaning key (drop at t) ≡ None
  unfolding value_at value_in
  value_none e = inner (line_length (drop at t) <? length (drop at t)) (begins key (take (line_length (drop at t)) (drop at t))) e
    where
      n : ℕ
      n = line_length (drop at t)

      inner : (b d : Bool) → None ≡ (if b && d then Some (found t at key) else None)
          → (if b && d then meaning (drop (length key) (take n (drop at t))) else None) ≡ None
      inner true true e = absurd (none-some _ e)
      inner true false e = refl
      inner false d e = refl

  -- a field read: its value is found, and has a meaning
  pub field_steps : (o : Option ValueAt) → o ≡ value_at t at key → field_at meaning t at key
      ≡ option_and_then (λ v. option_map (λ a. (a, v.next)) (meaning (take v.len (drop v.start t)))) o
  unfolding field_at
  field_steps (Some v) e = let w = value_there v e in rw (w.0, ← w.1)
  field_steps None e = rw (value_none e)

-- ---- a field at a place is the definitions' field

module _ {A : Type 0} (meaning : List ℕ → Option A) (key : List ℕ) (t : List ℕ) (at l m : ℕ) where
  -- the line of a value is closed
  pub value_within : (v : A) → value_in meaning key (drop at t) ≡ Some v → line_after t at ≤ length t
  unfolding value_in
  value_within v e = inner (line_length (drop at t) <? length (drop at t)) (begins key (take (line_length (drop at t)) (drop at t))) refl e
    where
      inner : (b d : Bool) → (line_length (drop at t) <? length (drop at t)) ≡ b
          → (if b && d then meaning (drop (length key) (take (line_length (drop at t)) (drop at t))) else None) ≡ Some v
          → line_after t at ≤ length t
      inner true d p e = omega (arith, simp length-drop at (ltb-true (line_length (drop at t)) (length (drop at t)) p))
      inner false d p e = absurd (none-some v e)

  -- a value that was read, and the place after its line: the reader then stands before the next line, m
  pub field_got : m ≡ suc l → (v : A × ℕ) → Some v ≡ field_at meaning t at key
      → (line_with meaning key (standing t at l) ≡ got v.0 (standing t v.1 m)) × (v.1 ≤ length t)
  unfolding field_at
  field_got n v e = inner (value_in meaning key (drop at t)) refl e
    where
      inner : (o : Option A) → value_in meaning key (drop at t) ≡ o → Some v ≡ option_map (λ a. (a, line_after t at)) o
          → (or_form o (standing t at l) ≡ got v.0 (standing t v.1 m)) × (v.1 ≤ length t)
      inner (Some a) p e =
          let w : v ≡ (a, line_after t at) = same_Some v (a, line_after t at) e in
          let k : at + suc (line_length (drop at t)) ≡ line_after t at = omega arith in
          rw w (rw (drop-drop, k, n), value_within a p)
      inner None p e = absurd (none-some v (sym e))

  pub field_refused : None ≡ field_at meaning t at key → line_with meaning key (standing t at l) ≡ refused (Form l)
  unfolding field_at
  field_refused e = inner (value_in meaning key (drop at t)) e
    where
      inner : (o : Option A) → ◌≡◌ {A = Option (A × ℕ)} None (option_map (λ a. (a, line_after t at)) o) → or_form o (standing t at l) ≡ refused (Form l)
      inner (Some a) e = absurd (none-some _ e)
      inner None e = refl
