-- Laws of sets of jobs, over the width: built job by job, walked by the lowest member, counted by the ones.
use Rattle.std.specs.Prelude.{ℕ, zero, suc, ◌+◌, ◌-◌, ◌*◌, ◌/◌, ◌%◌, ◌^◌, ◌≤◌, ◌<◌, Bool, true, ◌≡◌, refl, List, [], ◌∷◌, ◌++◌, length, take, get_or, if◌then◌else◌}
use Rattle.std.proofs.Common.{pow-suc, add-zero, not-suc-le-zero, le_of_suc-le-suc, add-one, sym, subst, ◌∙◌, lit<, shl_exact, take-suc, length-take-le, eq-eqb, ne_eqb}
use native.Mathlib.Omega.{arith}
use Rattle.std.proofs.Math.Bool.{false}
use Rattle.std.specs.Int.Bits.{bit_or, or_shifted_r}
use Rattle.std.specs.Int.Count.{ones, ones_step, count_trailing_zeros, under}
use Rattle.words.specs.Words.{◌=?◌}
use Rattle.words.specs.ZipLaws.{zipped_length, zipped_at}
use Rattle.plan.specs.declared.Job.{Job}
use Rattle.entries.specs.declared.Entry.{Entry}
use Rattle.ready.specs.declared.Slot.{Slot}
use Rattle.ready.specs.Ready.{is_member, members_among, set_of, members_of, how_many, job_at, goes_before, among, better, earliest_from, earliest}

pow2 : (k : ℕ) → 2 ^ suc k ≡ 2 ^ k * 2
pow2 k = pow-suc 2 k

module _ (hi : Bool) (t : ℕ) (job : List Job) (entry : List Entry) (n : ℕ) (lj : n ≤ length job) (le : n ≤ length entry) where
  pub among_length : length (members_among hi t (take n job) entry) ≡ n
  unfolding members_among
  among_length = zipped_length (is_member hi t) job entry n lj le

  -- job i + 1 is a member
  pub among_at : (i : ℕ) (j : Job) (e : Entry) → i < n → get_or (members_among hi t (take n job) entry) i false ≡ is_member hi t (get_or job i j) (get_or entry i e)
  unfolding members_among
  among_at i j e h = zipped_at (is_member hi t) job entry n lj le i j e false h

-- one member more, above the others
set_snoc : (bs : List Bool) (b : Bool) → set_of (bs ++ (b ∷ [])) ≡ set_of bs + (if b then 2 ^ length bs else 0)
unfolding set_of
set_snoc [] true = refl
set_snoc [] false = refl
set_snoc (x ∷ bs) true = let e = set_snoc bs true in omega (arith, pow2 (length bs))
set_snoc (x ∷ bs) false = let e = set_snoc bs false in omega arith

pub set_lt : (bs : List Bool) → set_of bs < 2 ^ length bs
unfolding set_of
set_lt [] = omega arith
set_lt (true ∷ bs) = let h = set_lt bs in omega (arith, pow2 (length bs))
set_lt (false ∷ bs) = let h = set_lt bs in omega (arith, pow2 (length bs))

-- 1 << i at a width w
pub one_shl : (w i : ℕ) → i < w → (1 * 2 ^ i) % 2 ^ w ≡ 2 ^ i
one_shl w i h = shl_exact {a = 1} 1 i w (lit< tt) (omega arith) ∙ omega arith

module _ (bs : List Bool) (i : ℕ) (h : i < length bs) where
  taken : length (take i bs) ≡ i
  taken = length-take-le i bs (omega arith)

  -- job i + 1 joins the set of the lower ones
  pub set_with : (w : ℕ) → i < w → get_or bs i false ≡ true → bit_or (set_of (take i bs)) ((1 * 2 ^ i) % 2 ^ w) ≡ set_of (take (i + 1) bs)
  set_with w l b =
      let low : set_of (take i bs) < 2 ^ i = rw taken at (set_lt (take i bs)) in
      let e : set_of (take (i + 1) bs) ≡ set_of (take i bs) + 2 ^ i = rw (add-one i, take-suc bs i false h, b) (rw taken at (set_snoc (take i bs) true)) in
      let o : bit_or (set_of (take i bs)) (1 * 2 ^ i) ≡ 1 * 2 ^ i + set_of (take i bs) = or_shifted_r 1 i (set_of (take i bs)) low in
      rw (shl_exact {a = 1} 1 i w (lit< tt) (omega arith)) (o ∙ omega arith)

  pub set_without : get_or bs i false ≡ false → set_of (take i bs) ≡ set_of (take (i + 1) bs)
  set_without b = rw (add-one i, take-suc bs i false h, b) (sym (set_snoc (take i bs) false ∙ add-zero (set_of (take i bs))))

-- the members of a set have its lowest digit and the rest
set_digit : (b : Bool) (n : ℕ) → (((if b then 1 else 0) + 2 * n) % 2 =? 1) ≡ b
set_digit true n = eq-eqb ((1 + 2 * n) % 2) 1 (omega arith)
set_digit false n = ne_eqb ((0 + 2 * n) % 2) 1 (λ (e : (0 + 2 * n) % 2 ≡ 1). omega arith)

set_rest : (b : Bool) (n : ℕ) → ((if b then 1 else 0) + 2 * n) / 2 ≡ n
set_rest true n = omega arith
set_rest false n = omega arith

-- how many members: the set's ones
pub ones_set : (bs : List Bool) → ones (set_of bs) ≡ how_many bs
unfolding set_of how_many ones
ones_set [] = refl
ones_set (true ∷ bs) = let e = ones_set bs in ones_step (1 + 2 * set_of bs) ∙ rw (set_rest true (set_of bs)) (omega arith)
ones_set (false ∷ bs) = let e = ones_set bs in ones_step (0 + 2 * set_of bs) ∙ rw (set_rest false (set_of bs)) (omega arith)

-- none is left: the walk ends with the best
pub walk_end : (js : List Job) (best : Slot) (k w : ℕ) → earliest_from js best k (members_of w 0) ≡ best
unfolding earliest_from members_of
walk_end js best k zero = refl
walk_end js best k (suc w) = walk_end js best (suc k) w

-- the walk over the number is the walk over the members
pub walk_set : (js : List Job) (best : Slot) (k w : ℕ) (bs : List Bool) → length bs ≤ w → earliest_from js best k (members_of w (set_of bs)) ≡ earliest_from js best k bs
unfolding earliest_from members_of set_of
walk_set js best k w [] h = walk_end js best k w
walk_set js best k zero (b ∷ bs) h = absurd (not-suc-le-zero h)
walk_set js best k (suc w) (b ∷ bs) h = rw (set_digit b (set_of bs), set_rest b (set_of bs)) (walk_set js (if b then better js best k else best) (suc k) w bs (le_of_suc-le-suc h))

-- the lowest member: within the width, and in the number
pub record Lowest (w n t : ℕ) : Type 0 where
  pub within : t < w
  pub here : 2 ^ t ≤ n

pub lowest : (w n : ℕ) → 0 < n → n < 2 ^ w → Lowest w n (count_trailing_zeros w n)
unfolding count_trailing_zeros
lowest zero n p h = absurd (omega arith)
lowest (suc w) n p h = go (n % 2) refl (lowest w (n / 2))
  where
    go : (d : ℕ) → n % 2 ≡ d → (0 < n / 2 → n / 2 < 2 ^ w → Lowest w (n / 2) (count_trailing_zeros w (n / 2))) → Lowest (suc w) n (under d (count_trailing_zeros w (n / 2)))
    go zero e r =
        let s = r (omega arith) (omega (arith, pow2 w)) in
        record { within = omega arith; here = omega (arith, pow2 (count_trailing_zeros w (n / 2))) }
    go (suc d) e r = record { within = omega arith; here = omega arith }

-- the lowest member is taken first, and then the rest
pub walk_next : (js : List Job) (best : Slot) (k w n : ℕ) → 0 < n → n < 2 ^ w → earliest_from js (better js best (k + count_trailing_zeros w n)) k (members_of w (n - 2 ^ count_trailing_zeros w n)) ≡ earliest_from js best k (members_of w n)
unfolding earliest_from members_of count_trailing_zeros
walk_next js best k zero n h l = absurd (omega arith)
walk_next js best k (suc w) n h l = go (n % 2) refl (lowest w (n / 2)) (walk_next js best (suc k) w (n / 2))
  where
    go : (d : ℕ) → n % 2 ≡ d → (0 < n / 2 → n / 2 < 2 ^ w → Lowest w (n / 2) (count_trailing_zeros w (n / 2))) → (0 < n / 2 → n / 2 < 2 ^ w → earliest_from js (better js best (suc k + count_trailing_zeros w (n / 2))) (suc k) (members_of w (n / 2 - 2 ^ count_trailing_zeros w (n / 2))) ≡ earliest_from js best (suc k) (members_of w (n / 2))) → earliest_from js (better js best (k + under d (count_trailing_zeros w (n / 2)))) k (members_of (suc w) (n - 2 ^ under d (count_trailing_zeros w (n / 2)))) ≡ earliest_from js best k (members_of (suc w) n)
    go zero e low r =
        let t = count_trailing_zeros w (n / 2) in
        let s = low (omega arith) (omega (arith, pow2 w)) in
        let half : (n - 2 ^ suc t) / 2 ≡ n / 2 - 2 ^ t = omega (arith, pow2 t) in
        let even : ((n - 2 ^ suc t) % 2 =? 1) ≡ false = ne_eqb ((n - 2 ^ suc t) % 2) 1 (λ (q : (n - 2 ^ suc t) % 2 ≡ 1). omega (arith, pow2 t)) in
        let none : (n % 2 =? 1) ≡ false = ne_eqb (n % 2) 1 (λ (q : n % 2 ≡ 1). omega arith) in
        let number : k + suc t ≡ suc k + t = omega arith in
        rw (half, even, none, number) (r (omega arith) (omega (arith, pow2 w)))
    go (suc d) e low r =
        let half : (n - 1) / 2 ≡ n / 2 = omega arith in
        let even : ((n - 1) % 2 =? 1) ≡ false = ne_eqb ((n - 1) % 2) 1 (λ (q : (n - 1) % 2 ≡ 1). omega arith) in
        let one : (n % 2 =? 1) ≡ true = eq-eqb (n % 2) 1 (omega arith) in
        rw (half, even, one, add-zero k)

-- one turn: the better of the best and the lowest member, which leaves the set
better_among : (js : List Job) (w k : ℕ) (best : Slot) → k ≤ w → among w best → among w (better js best k)
unfolding better
better_among js w k Slot.Idle h a = h
better_among js w k (Slot.Job b) h a = go (goes_before (job_at js k) (job_at js b))
  where
    go : (first : Bool) → among w (if first then Slot.Job k else Slot.Job b)
    go true = h
    go false = a

module _ (js : List Job) (w : ℕ) (best : Slot) (rest : ℕ) (r : Slot) (some : 0 < rest) (small : rest < 2 ^ w) (won : r ≡ better js best (count_trailing_zeros w rest + 1)) where
  pub turn_among : among w best → among w r
  turn_among a = rw won (better_among js w (count_trailing_zeros w rest + 1) best (let l = (lowest w rest some small).within in omega arith) a)

  pub turn : earliest_from js r 1 (members_of w (rest - 2 ^ count_trailing_zeros w rest)) ≡ earliest_from js best 1 (members_of w rest)
  turn =
      let e : count_trailing_zeros w rest + 1 ≡ 1 + count_trailing_zeros w rest = omega arith in
      rw (won, e) (walk_next js best 1 w rest some small)

-- the walk over the set of the members
pub walk_members : (js : List Job) (w : ℕ) (bs : List Bool) → length bs ≤ w → earliest js (members_of w (set_of bs)) ≡ earliest js bs
unfolding earliest
walk_members js w bs h = walk_set js Slot.Idle 1 w bs h

-- the walk ends at the best or at a member: what both have, it has
pub walked : (G : Slot → Type 0) (js : List Job) (best : Slot) (k : ℕ) (bs : List Bool) → G best → ((i : ℕ) → i < length bs → get_or bs i false ≡ true → G (Slot.Job (k + i))) → G (earliest_from js best k bs)
unfolding earliest_from better
walked G js best k [] g m = g
walked G js best k (b ∷ bs) g m = walked G js (if b then better js best k else best) (suc k) bs (go b refl) (λ i h q. let e : k + suc i ≡ suc k + i = omega arith in subst (λ (n : ℕ). G (Slot.Job n)) e (m (suc i) (omega arith) q))
  where
    one : b ≡ true → G (Slot.Job k)
    one q = subst (λ (n : ℕ). G (Slot.Job n)) (add-zero k) (m 0 (omega arith) q)

    of : (best' : Slot) → G best' → b ≡ true → G (better js best' k)
    of Slot.Idle g' q = one q
    of (Slot.Job c) g' q = pick (goes_before _ _)
      where
        pick : (f : Bool) → G (if f then Slot.Job k else Slot.Job c)
        pick true = one q
        pick false = g'

    go : (c : Bool) → b ≡ c → G (if c then better js best k else best)
    go true q = of best g q
    go false q = g
