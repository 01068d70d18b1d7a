-- Laws of reading and writing: bytes that come one part after the other, and go out so; which of the system's error numbers pass.
use Rattle.std.specs.Prelude.{ℕ, ◌+◌, ◌-◌, ◌≡◌, ◌++◌, length, take, drop, Option, Some, None, ℤ, refl, Bool, true, false, not, ◌&&◌, ◌||◌, suc, List, [], ◌∷◌, pos, negsuc, int_lt, if◌then◌else◌}
use Rattle.std.proofs.Common.{arith, eq-eqb, ne_eqb, ap, sym, subst, ◌∙◌}
use Rattle.std.proofs.lemmas.Bool.{false≢true, lt-leb}
use Rattle.std.proofs.Math.Seq.{take-add}
use Rattle.std.proofs.lemmas.List.{take_rest}
use Rattle.std.proofs.KnownBytes.{Consumes-trans, Appends-trans}
use Rattle.std.specs.Io.KnownBytes.{Consumes, Appends}
use Rattle.std.specs.IoError.{os_error_kind, os_error_kinds, kind_in}
use Rattle.std.specs.declared.io.ErrorKind.{ErrorKind}
use Rattle.std.specs.declared.io.ErrorKind.TheVariants.{Interrupted, WouldBlock, Uncategorized}
use Rattle.words.specs.Words.{◌=?◌}
use Rattle.words.specs.Cases.{by_equal, by_test, both_hold}
use Rattle.streams.specs.Streams.{passes, passing}

-- ---- one part after the other

module _ (a b c : Option (List ℕ)) (n more : ℕ) where
  pub came_on : (held after : List ℕ) → Consumes a b (take n held) → take n after ≡ take n held → Consumes b c (take more (drop n after)) → Consumes a c (take (n + more) after)
  came_on held after p stays q = subst (Consumes a c) (sym (take-add n more after ∙ ap (λ (l : List ℕ). l ++ take more (drop n after)) stays)) (Consumes-trans a b c (take n held) (take more (drop n after)) p q)

  -- the part from n on, as it is lent; m have gone out then
  pub gone_on : (text : List ℕ) (m : ℕ) → m ≡ n + more → Appends a b (take n text) → Appends b c (take more (take (length text - n) (drop n text))) → Appends a c (take m text)
  gone_on text m e p q =
      let all : take m text ≡ take n text ++ take more (take (length text - n) (drop n text)) = rw (e, take_rest text n) (take-add n more text) in
      subst (Appends a c) (sym all) (Appends-trans a b c (take n text) (take more (take (length text - n) (drop n text))) p q)

-- ---- a table of numbers and kinds: EINTR is 4 and EAGAIN is 11

abbrev stays_broken : ℕ × ErrorKind → Bool
stays_broken row = not (passes row.1) || (row.0 =? 4) || (row.0 =? 11)

abbrev others_broken : List (ℕ × ErrorKind) → Bool
others_broken [] = true
others_broken (row ∷ rows) = stays_broken row && others_broken rows

row_broken : (row : ℕ × ErrorKind) → stays_broken row ≡ true → (row.0 ≡ 4 → ⊥) → (row.0 ≡ 11 → ⊥) → passes row.1 ≡ false
row_broken row h a b = by_test (passes row.1) (λ p. absurd (false≢true (rw (p, ne_eqb row.0 4 a, ne_eqb row.0 11 b) at h))) (λ p. p)

not_in : (rows : List (ℕ × ErrorKind)) → others_broken rows ≡ true → (n : ℕ) → (n ≡ 4 → ⊥) → (n ≡ 11 → ⊥) → passes (kind_in rows n) ≡ false
not_in [] h n a b = refl
not_in (row ∷ rows) h n a b =
    let both = both_hold (stays_broken row) (others_broken rows) h in
    by_equal n row.0
    (λ e. rw (eq-eqb n row.0 e) (row_broken row both.0 (rw e at a) (rw e at b)))
    (λ e. rw (ne_eqb n row.0 e) (not_in rows both.1 n a b))

-- ---- the system's

not_below : (n : ℕ) → int_lt (pos n) (pos 0) ≡ false
not_below n = lt-leb (suc n) 0 (omega arith)

in_table : (n : ℕ) → os_error_kind (pos n) ≡ kind_in os_error_kinds n
unfolding os_error_kind
in_table n = ap (λ (b : Bool). if b then Uncategorized else kind_in os_error_kinds n) (not_below n)

pub passing_numbers : (n : ℕ) → passes (os_error_kind (pos n)) ≡ ((n =? 4) || (n =? 11))
passing_numbers n =
    ap passes (in_table n)
    ∙ by_equal n 4
    (λ e. rw e refl)
    (λ a. by_equal n 11 (λ e. rw e refl) (λ b. not_in os_error_kinds refl n a b ∙ sym (rw (ne_eqb n 4 a, ne_eqb n 11 b) refl)))

pub no_negative_passes : (n : ℕ) → passes (os_error_kind (negsuc n)) ≡ false
unfolding os_error_kind
no_negative_passes n = refl

-- an error of the system's passes as its kind does
pub passing_is : (n : ℤ) (kind : ErrorKind) → passing (Some n) kind ≡ (if passes kind then Some kind else None)
passing_is n Interrupted = refl
passing_is n WouldBlock = refl
passing_is n kind = refl

-- 4 says that a signal came first, 11 that nothing can be moved yet
pub told_apart : (passing (Some (pos 4)) (os_error_kind (pos 4)) ≡ Some Interrupted) × (passing (Some (pos 11)) (os_error_kind (pos 11)) ≡ Some WouldBlock)
unfolding os_error_kind
told_apart = (refl, refl)
