-- Laws of arrays that the library makes place by place: by a function of the place, or of the element of another array.
use Rattle.std.specs.Prelude.{ℕ, zero, suc, ◌+◌, ◌≤◌, ◌<◌, ◌≡◌, List, map, length, get_or}
use Rattle.std.specs.Array.{IsFromFnResultFrom, IsFromFnResult, IsMapOf}
use Rattle.std.specs.Fn.{Called}
use Rattle.std.proofs.Common.{arith, sym, ◌∙◌, subst}
use Rattle.std.proofs.lemmas.List.{ext_get_or, get_or-map, length-map}
use denote.Param.Members.{Mut}
use Rattle.words.specs.Cases.{by_equal}

-- by a function that gives at each place what stands there in zs
module _ {F B : Type 0} (g : Mut F (ℕ × Unit {0}) B) (f : F) (ys zs : List B) (d : B) (gives : (i : ℕ) (y : B) (q : F) → Called g f (i, tt) y q → (q ≡ f) × (i < length zs → y ≡ get_or zs i d)) where
  from_each : (n i : ℕ) → i + n ≤ length zs → IsFromFnResultFrom g f ys i n → (j : ℕ) → i ≤ j → j < i + n → get_or ys j d ≡ get_or zs j d
  from_each zero i l e j a b = absurd (omega arith)
  from_each (suc n) i l e j a b =
      let s = gives i e.1 e.0 e.3 in
      by_equal j i
      (λ h. rw h (e.2.1 d ∙ s.1 (omega arith)))
      (λ h. from_each n (i + 1) (omega arith) (subst (λ (w : F). IsFromFnResultFrom g w ys (i + 1) n) s.0 e.4) j (omega arith) (omega arith))

  pub from_fn_is : (n : ℕ) → length zs ≡ n → IsFromFnResult g f ys n → ys ≡ zs
  from_fn_is n l m = ext_get_or d ys zs (m.long ∙ sym l) (λ i h. from_each n 0 (omega arith) m.each i (omega arith) (omega (arith, m.long)))

-- by a function of each element
module _ {F A B : Type 0} (g : Mut F (A × Unit {0}) B) (f : F) (h : A → B) (gives : (p : F) (x : A) (y : B) (q : F) → Called g p (x, tt) y q → y ≡ h x) where
  pub map_is : (xs : List A) (ys : List B) (n : ℕ) (d : A) → length xs ≡ n → IsMapOf g f xs ys n → ys ≡ map h xs
  map_is xs ys n d l m =
      ext_get_or (h d) ys (map h xs) (m.long ∙ sym l ∙ sym (length-map xs h))
      (λ i k.
      let c = m.at i d (h d) (omega (arith, m.long)) in
      gives c.0 (get_or xs i d) (get_or ys i (h d)) c.1 c.2 ∙ sym (get_or-map h xs i d (h d) (omega (arith, m.long))))
