-- Members of lists: through rising order, and along a list of answers. Nothing here is of the trade.
use Rattle.std.specs.Prelude.{ℕ, suc, ◌<◌, ◌≡◌, refl, true, if◌then◌else◌}
use Rattle.std.proofs.Math.Decide.{dec_lt, ℕ_discrete}
use Rattle.std.proofs.Common.{arith, lt-ltb, le-ltb, eq-eqb, ne_eqb}
use mathlib.Core.List.{List, [], ◌∷◌, Memᴰ}
use Rattle.words.specs.Words.{◌<?◌, ◌=?◌}
use Rattle.answers.specs.Answer.{Answer, accepted, first_refusal}
use Rattle.intervals.specs.Intervals.{insert, rising}
use Rattle.answers.specs.RefusalLaws.{both_accept}

-- ---- in rising order
-- the three ways of an insertion
inserted : {A : Type 0} (x y : ℕ) (a b c : A) (P : A → Type 0) → (x < y → P a) → (x ≡ y → P b) → (y < x → P c) → P (if x <? y then a else if x =? y then b else c)
inserted x y a b c P less same more = go (dec_lt x y) (ℕ_discrete x y)
  where
    go : Dec (x < y) → Dec (x ≡ y) → P (if x <? y then a else if x =? y then b else c)
    go (yes l) e = rw (lt-ltb x y l) (less l)
    go (no l) (yes e) = rw (le-ltb x y (omega arith), eq-eqb x y e) (same e)
    go (no l) (no e) = rw (le-ltb x y (omega arith), ne_eqb x y e) (more (omega arith))

-- the number put in is a member
insert_self : (x : ℕ) (ys : List ℕ) → Memᴰ x (insert x ys)
unfolding insert
insert_self x [] = Memᴰ.head refl
insert_self x (y ∷ ys) =
    inserted x y (x ∷ y ∷ ys) (y ∷ ys) (y ∷ insert x ys) (Memᴰ x) (λ l. Memᴰ.head refl) (λ e. Memᴰ.head e) (λ l. Memᴰ.tail (insert_self x ys))

-- the others stay
insert_other : (x z : ℕ) (ys : List ℕ) → Memᴰ z ys → Memᴰ z (insert x ys)
unfolding insert
insert_other x z [] m = elim m [ ]
insert_other x z (y ∷ ys) m = inserted x y (x ∷ y ∷ ys) (y ∷ ys) (y ∷ insert x ys) (Memᴰ z) (λ l. Memᴰ.tail m) (λ e. m) (λ l. further m (insert_other x z ys))
  where
    further : Memᴰ z (y ∷ ys) → (Memᴰ z ys → Memᴰ z (insert x ys)) → Memᴰ z (y ∷ insert x ys)
    further (Memᴰ.head e) r = Memᴰ.head e
    further (Memᴰ.tail n) r = Memᴰ.tail (r n)

-- every number is a member of the numbers in rising order
pub rising_has : {x : ℕ} (xs : List ℕ) → Memᴰ x xs → Memᴰ x (rising xs)
unfolding rising
rising_has {x = x} [] m = elim m [ ]
rising_has {x} (y ∷ xs) (Memᴰ.head e) = rw (← e) (insert_self x (rising xs))
rising_has {x} (y ∷ xs) (Memᴰ.tail m) = insert_other y x (rising xs) (rising_has xs m)

-- ---- along a list of answers
-- no refusal along the list: each member is accepted
pub member_accepted : {A : Type 0} (judge : A → Answer) (k : ℕ) {x : A} (xs : List A) → accepted (first_refusal (λ _. judge) k xs) ≡ true → Memᴰ x xs → accepted (judge x) ≡ true
unfolding first_refusal
member_accepted {A = A} judge k [] h m = elim m [ ]
member_accepted judge k (y ∷ xs) h (Memᴰ.head e) = rw e (both_accept (judge y) (first_refusal (λ _. judge) (suc k) xs) h).0
member_accepted judge k (y ∷ xs) h (Memᴰ.tail m) = member_accepted judge (suc k) xs (both_accept (judge y) (first_refusal (λ _. judge) (suc k) xs) h).1 m
