-- What an acceptance and a refusal tell: of two tests, of a rule, of answers in order, and of the first refusal along a list.
use Prim.Native.Nat.{ℕ, zero, suc, ◌+◌, ◌<◌, suc-le-suc, zero-le}
use Rattle.std.proofs.Common.{not-suc-le-zero, le_of_suc-le-suc, inl, inr}
use native.Mathlib.Omega.{arith}
use Rattle.std.specs.Prelude.{◌≡◌, ◌⊎◌, Bool, true, ◌||◌, get_or}
use Rattle.std.proofs.Math.Path.{refl}
use Rattle.std.proofs.Math.Bool.{false}
use mathlib.Core.List.{List, [], ◌∷◌}
use Rattle.std.proofs.Math.ListN.{length}
use Rattle.words.specs.Cases.{never}
use Rattle.answers.specs.Answer.{Answer, accepted, ◌unless◌, ◌and_then◌, first_refusal}

-- ---- tests
-- one of two tests
pub either_true : (a b : Bool) → (a || b) ≡ true → (a ≡ true) ⊎ (b ≡ true)
either_true true b h = inl refl
either_true false b h = inr h

-- neither of two tests
pub neither_true : (a b : Bool) → (a || b) ≡ false → (a ≡ false) × (b ≡ false)
neither_true true b h = absurd (never refl h)
neither_true false b h = (refl, h)

-- ---- answers
-- a rule that is not refused holds
pub unless_holds : (refusal : Answer) (holds : Bool) → accepted refusal ≡ false → accepted (refusal unless holds) ≡ true → holds ≡ true
unless_holds refusal true r h = refl
unless_holds refusal false r h = absurd (never h r)

-- a rule that is refused does not
pub unless_fails : (refusal : Answer) (holds : Bool) → accepted (refusal unless holds) ≡ false → holds ≡ false
unfolding accepted
unless_fails refusal true h = absurd (never refl h)
unless_fails refusal false h = refl

-- answers in order are accepted: both are
pub both_accept : (a b : Answer) → accepted (a and_then b) ≡ true → (accepted a ≡ true) × (accepted b ≡ true)
both_accept a b h = go (accepted a) refl
  where
    go : (t : Bool) → accepted a ≡ t → (accepted a ≡ true) × (accepted b ≡ true)
    go true e = (e, rw e at h)
    go false e = absurd (never (rw e at h) e)

-- they are refused: one is
pub one_refused : (a b : Answer) → accepted (a and_then b) ≡ false → (accepted a ≡ false) ⊎ (accepted b ≡ false)
one_refused a b h = go (accepted a) refl
  where
    go : (t : Bool) → accepted a ≡ t → (accepted a ≡ false) ⊎ (accepted b ≡ false)
    go true e = inr (rw e at h)
    go false e = inl e

-- ---- the first refusal along a list
module _ {A : Type 0} (judge : ℕ → A → Answer) (d : A) where
  -- there is none: each member is accepted
  pub each_accepted : (k : ℕ) (xs : List A) → accepted (first_refusal judge k xs) ≡ true
      → (i : ℕ) → i < length xs → (m : ℕ) → m ≡ k + i → accepted (judge m (get_or xs i d)) ≡ true
  unfolding first_refusal
  each_accepted k [] h i l m e = absurd (not-suc-le-zero l)
  each_accepted k (x ∷ xs) h zero l m e =
      let q : m ≡ k = omega arith in
      rw q (both_accept (judge k x) (first_refusal judge (suc k) xs) h).0
  each_accepted k (x ∷ xs) h (suc i) l m e = each_accepted (suc k) xs (both_accept (judge k x) (first_refusal judge (suc k) xs) h).1 i (le_of_suc-le-suc l) m (omega arith)

  -- there is one: some member is refused
  pub some_refused : (k : ℕ) (xs : List A) → accepted (first_refusal judge k xs) ≡ false
      → (i : ℕ) × (m : ℕ) × (i < length xs) × (m ≡ k + i) × (accepted (judge m (get_or xs i d)) ≡ false)
  unfolding first_refusal accepted
  some_refused k [] h = absurd (never refl h)
  some_refused k (x ∷ xs) h = go (one_refused (judge k x) (first_refusal judge (suc k) xs) h) (some_refused (suc k) xs)
    where
      go : (accepted (judge k x) ≡ false) ⊎ (accepted (first_refusal judge (suc k) xs) ≡ false)
          → (accepted (first_refusal judge (suc k) xs) ≡ false → (i : ℕ) × (m : ℕ) × (i < length xs) × (m ≡ suc k + i) × (accepted (judge m (get_or xs i d)) ≡ false))
          → (i : ℕ) × (m : ℕ) × (i < length (x ∷ xs)) × (m ≡ k + i) × (accepted (judge m (get_or (x ∷ xs) i d)) ≡ false)
      go (inl r) later = (0, k, suc-le-suc zero-le, omega arith, r)
      go (inr r) later = let w = later r in (suc w.0, w.1, suc-le-suc w.2, (let e = w.3 in omega arith), w.4)
