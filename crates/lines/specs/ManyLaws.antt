-- The loop that reads things of one kind into an array, once for every kind of thing.
-- A loop's invariant is `Filling`; its laws are the start, one thing more, a refusal, and the end.
use Rattle.std.specs.Prelude.{◌≡◌, List, [], ◌∷◌, ◌++◌, ℕ, suc, ◌+◌, ◌-◌, ◌≤◌, ◌<◌, length, take, set}
use Rattle.std.proofs.Math.Path.{refl}
use Rattle.std.proofs.Common.{sym, ap, ◌∙◌, append-nil, add-one, arith, length-set, take-suc-set, take_all}
use Rattle.std.proofs.Math.Nat.{sub-zero}
use Rattle.std.proofs.Math.Seq.{append_snoc}
use Rattle.answers.specs.Answer.{Answer}
use Rattle.lines.specs.Lines.{Cursor, Read, got, refused, Reader, give, onward, many}

module _ {A : Type 0} where
  -- the things that were read before, in front
  abbrev pub after : List A → Read (List A) → Read (List A)
  after front (got xs here) = got (front ++ xs) here
  after front (refused answer) = refused answer

  after_none : (r : Read (List A)) → r ≡ after [] r
  after_none (got xs here) = refl
  after_none (refused answer) = refl

  after_one : (front : List A) (x : A) (r : Read (List A))
      → after front (onward r (λ others. give (x ∷ others))) ≡ after (front ++ (x ∷ [])) r
  after_one front x (got xs here) = ap (λ (ys : List A). got ys here) (sym (append_snoc front x xs))
  after_one front x (refused answer) = refl

  module _ (one : Reader A) (count : ℕ) (start : Cursor) where
    many_on : (k : ℕ) (here there : Cursor) (x : A) → one here ≡ got x there
        → many (suc k) one here ≡ onward (many k one there) (λ others. give (x ∷ others))
    unfolding many
    many_on k here there x e = rw e

    many_stop : (k : ℕ) (here : Cursor) (answer : Answer) → one here ≡ refused answer → many (suc k) one here ≡ refused answer
    unfolding many
    many_stop k here answer e = rw e

    many_end : (here : Cursor) → many 0 one here ≡ got [] here
    unfolding many
    many_end here = refl

    -- what holds at the loop's head: i things stand in front in the array, the reader stands at `here`
    pub record Filling (array : List A) (here : Cursor) (i : ℕ) : Type 0 where
      pub low : i ≤ count
      pub read : many count one start ≡ after (take i array) (many (count - i) one here)
      pub long : length array ≡ count

    pub filling_starts : (array : List A) → length array ≡ count → Filling array start 0
    filling_starts array h =
        record {
          low = omega arith;
          read = rw sub-zero (after_none (many count one start));
          long = h;
        }

    module _ (array : List A) (here : Cursor) (i : ℕ) (inv : Filling array here i) where
      pub filling_on : (x : A) (there : Cursor) → i < count → one here ≡ got x there → Filling (set array i x) there (i + 1)
      filling_on x there h e =
          let left : count - i ≡ suc (count - (i + 1)) = omega arith in
          let d : i < length array = rw inv.long h in
          let front : take (i + 1) (set array i x) ≡ take i array ++ (x ∷ []) = rw add-one (take-suc-set array i x d) in
          record {
            low = omega arith;
            read = inv.read ∙ rw (left, many_on (count - (i + 1)) here there x e, after_one (take i array) x, front);
            long = length-set array i x ∙ inv.long;
          }

      pub filling_stops : (answer : Answer) → i < count → one here ≡ refused answer → many count one start ≡ refused answer
      filling_stops answer h e =
          let left : count - i ≡ suc (count - (i + 1)) = omega arith in
          rw (inv.read, left, many_stop (count - (i + 1)) here answer e)

      pub filling_ends : count ≤ i → many count one start ≡ got array here
      filling_ends h =
          let none : count - i ≡ 0 = omega arith in
          let all : take i array ≡ array = take_all i array (omega (arith, inv.long)) in
          rw (inv.read, none, many_end here, append-nil, all)
