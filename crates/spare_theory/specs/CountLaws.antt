-- Laws of table slots: the names in a part of a list are the slots given in a window, so the theory of windows counts what the plan counts.
use Rattle.std.specs.Prelude.{ℕ, zero, suc, ◌+◌, ◌≤◌, ◌<◌, ◌≡◌, List, [], ◌∷◌, get_or, take, drop}
use Rattle.std.proofs.Common.{zero-le, arith, sym, ◌∙◌, take-append-drop, length-take, drop_of_length-le, take-take}
use Rattle.std.proofs.Math.Decide.{dec_le}
use Rattle.std.proofs.Math.Path.{refl}
use Rattle.windows.specs.Sums.{same}
use Rattle.windows.specs.SumLaws.{same_no}
use Rattle.windows.specs.Orders.{given}
use Rattle.windows.specs.SlotLaws.{given_last, given_split, given_empty, given_reach}
use Rattle.plan.specs.declared.Plan.{Plan}
use Rattle.plan.specs.Plan.{naming, table_at}
use Rattle.plan.specs.CountLaws.{naming_append}
use Rattle.well_formed.specs.InOrder.{tab}

-- one slot more
naming_last : (xs : List ℕ) (k b : ℕ) → naming (suc k) (take (suc b) xs) ≡ naming (suc k) (take b xs) + same (get_or xs b 0) (suc k)
unfolding naming same
naming_last [] k zero = omega (arith, same_no 0 (suc k) (λ e. omega arith))
naming_last [] k (suc b) = omega (arith, same_no 0 (suc k) (λ e. omega arith))
naming_last (x ∷ xs) k zero = omega arith
naming_last (x ∷ xs) k (suc b) = let r = naming_last xs k b in omega arith

-- the names before border t
naming_given : (xs : List ℕ) (k t : ℕ) → naming (suc k) (take t xs) ≡ given (λ s. get_or xs s 0) (suc k) 0 t
unfolding naming given
naming_given xs k zero = refl
naming_given xs k (suc t) = omega (arith, naming_last xs k t, naming_given xs k t, given_last (λ s. get_or xs s 0) (suc k) 0 t zero-le)

-- the names from border a to border b
pub naming_window : (xs : List ℕ) (k a b : ℕ) → naming (suc k) (drop a (take b xs)) ≡ given (λ s. get_or xs s 0) (suc k) a b
unfolding naming
naming_window xs k a b = go (dec_le a b)
  where
    go : Dec (a ≤ b) → naming (suc k) (drop a (take b xs)) ≡ given (λ s. get_or xs s 0) (suc k) a b
    go (yes h) =
        let both = naming_append (suc k) (take a (take b xs)) (drop a (take b xs)) in
        let whole = rw (take-append-drop a (take b xs), take-take a b xs h) at both in
        omega (arith, naming_given xs k a, naming_given xs k b, given_split (λ s. get_or xs s 0) (suc k) 0 a b zero-le h)
    go (no q) = rw (drop_of_length-le (take b xs) {i = a} (omega (arith, length-take b xs))) (sym (given_empty (λ s. get_or xs s 0) (suc k) a b (omega arith)))

module _ (p : Plan) (k : ℕ) where
  -- the table slots before border t are the slots given there
  tab_given : (t : ℕ) → tab p k t ≡ given (table_at p) (suc k) 0 t
  tab_given t = naming_given p.table k t

  -- none before border 0
  pub tab_start : tab p k 0 ≡ 0
  unfolding naming
  tab_start = refl

  -- one slot more
  pub tab_last : (t : ℕ) → tab p k (suc t) ≡ tab p k t + same (table_at p t) (suc k)
  tab_last t = naming_last p.table k t

  -- those before a border, and those from there on
  pub tab_split : (t e : ℕ) → t ≤ e → tab p k e ≡ tab p k t + given (table_at p) (suc k) t e
  tab_split t e h = omega (arith, tab_given t, tab_given e, given_split (table_at p) (suc k) 0 t e zero-le h)

  -- no fewer before a later border
  pub tab_mono : (t e : ℕ) → t ≤ e → tab p k t ≤ tab p k e
  tab_mono t e h = omega (arith, tab_split t e h)

  -- the m-th of them
  pub tab_reach : (t m : ℕ) → 0 < m → m ≤ tab p k t → (s : ℕ) × (s < t) × (table_at p s ≡ suc k) × (tab p k (suc s) ≡ m)
  tab_reach t m some h =
      let r = given_reach (table_at p) (suc k) t m some (omega (arith, tab_given t)) in
      (r.0, r.1, r.2, tab_given (suc r.0) ∙ r.3)
