-- Laws of a spare printed: its sign and its size.
use mathlib.Core.Path.{◌≡◌, refl, sym, ap, subst, ◌∙◌}
use mathlib.Core.Bool.{Bool, true, false}
use mathlib.Core.List.{List, [], ◌∷◌, ◌++◌}
use Prim.Native.Nat.{ℕ, zero, suc}
use native.Mathlib.Omega.{arith}
use lib.IntN.{ℤ, pos, negsuc, nat_abs}
use lib.Signed.{lt_z}
use lib.Dec.{T}
use borrow.Author.Tests.{le-ltb}
use Rattle.words.specs.Words.{below0}
use Rattle.lines.specs.Lines.{bytes, digits}
use Rattle.console.specs.Print.{signed}

pub below_zero : (a : ℤ) → lt_z a (pos 0) ≡ below0 a
below_zero (pos zero) = refl
below_zero (pos (suc n)) = le-ltb (suc n) 0 (omega arith)
below_zero (negsuc n) = refl

-- a spare is its sign and the digits of its size
pub signed_below : (z : ℤ) → below0 z ≡ true → bytes "-" ++ digits (nat_abs z) ≡ signed z
unfolding signed
signed_below (pos n) h = absurd (let z : ◌≡◌ {A = Bool} false true = h in subst T (sym z) tt)
signed_below (negsuc n) h = refl

pub signed_from_zero : (z : ℤ) → below0 z ≡ false → digits (nat_abs z) ≡ signed z
unfolding signed
signed_from_zero (pos n) h = refl
signed_from_zero (negsuc n) h = absurd (let z : ◌≡◌ {A = Bool} true false = h in subst T z tt)

-- with the byte that closes it; y is what the bits of z read back as
module _ (y z : ℤ) (n close : ℕ) (same : y ≡ z) (size : n ≡ nat_abs y) where
  pub spare_below : below0 y ≡ true → bytes "-" ++ (digits n ++ close ∷ []) ≡ signed z ++ close ∷ []
  spare_below h = ap (λ (w : List ℕ). w ++ close ∷ []) (ap (λ (k : ℕ). bytes "-" ++ digits k) size ∙ signed_below y h ∙ ap signed same)

  pub spare_from_zero : below0 y ≡ false → digits n ++ close ∷ [] ≡ signed z ++ close ∷ []
  spare_from_zero h = ap (λ (w : List ℕ). w ++ close ∷ []) (ap digits size ∙ signed_from_zero y h ∙ ap signed same)

pub closed_same : {y z : ℤ} (close : ℕ) → y ≡ z → signed y ++ close ∷ [] ≡ signed z ++ close ∷ []
closed_same close e = ap (λ (x : ℤ). signed x ++ close ∷ []) e
