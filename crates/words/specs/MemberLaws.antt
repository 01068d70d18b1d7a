-- Members of a list: by place, and through a map.
use Rattle.std.specs.Prelude.{ℕ, zero, suc, ◌<◌, refl, length, get_or}
use Rattle.std.proofs.Common.{not-suc-le-zero, le_of_suc-le-suc, ap}
use mathlib.Core.List.{List, [], ◌∷◌, map, Memᴰ}

-- ---- by place
-- what stands at a place is a member
pub member_at : {A : Type 0} (d : A) (xs : List A) (i : ℕ) → i < length xs → Memᴰ (get_or xs i d) xs
member_at d [] i l = absurd (not-suc-le-zero l)
member_at d (x ∷ xs) zero l = Memᴰ.head refl
member_at d (x ∷ xs) (suc i) l = Memᴰ.tail (member_at d xs i (le_of_suc-le-suc l))

-- ---- through a map
pub member_map : {A B : Type 0} (f : A → B) {x : A} {xs : List A} → Memᴰ x xs → Memᴰ (f x) (map f xs)
member_map f (Memᴰ.head e) = Memᴰ.head (ap f e)
member_map f (Memᴰ.tail m) = Memᴰ.tail (member_map f m)
