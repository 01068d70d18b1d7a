-- The table run and its overruns, for the proof of demand 3's last sentence: what the run gives each job, the first overrun found, and that without one it serves.
-- Jobs are counted by their place, from 0, as in the acceptance promise.
use Prim.Native.Nat.{ℕ, zero, suc, ◌+◌, ◌-◌, ◌≤◌, ◌<◌, min, zero-le}
use Rattle.std.proofs.Math.Decide.{dec_le, ℕ_discrete}
use Rattle.std.proofs.Common.{not-suc-le-zero, arith, sym, ◌∙◌, inl, inr, ⊎_elim, lt-ltb, le-ltb}
use Rattle.std.specs.Prelude.{◌≡◌, refl, ◌⊎◌, Bool, List, length, get_or, if◌then◌else◌}
use Rattle.std.proofs.Math.Bool.{true, false}
use Rattle.std.proofs.lemmas.List.{length-map}
use Rattle.words.specs.Words.{◌<?◌, count_up}
use Rattle.windows.specs.SumLaws.{same_yes, same_no}
use Rattle.windows.specs.Orders.{given}
use Rattle.windows.specs.SlotLaws.{given_last, given_joined, given_agree}
use Rattle.plan.specs.declared.Plan.{Plan}
use Rattle.plan.specs.Plan.{is_hi, table_at, table_slots}
use Rattle.plan.specs.CountLaws.{count_up_length, count_up_at}
use Rattle.words.specs.Cases.{never}
use Rattle.exact.specs.Hopeless.{table_run, slots_by, OverrunsAt, FirstOverrun, Serves}
use Rattle.well_formed.specs.InOrder.{job_at, tab, InOrder, in_window}
use Rattle.well_formed.specs.InOrderLaws.{job_no_lem, place_of_lem}
use Rattle.spare_theory.specs.CountLaws.{naming_window, tab_start, tab_last, tab_reach}

-- the first number with a property, or none up to m has it
abbrev First : (ℕ → Type 0) → ℕ → Type 0
First P m = ((t : ℕ) × P t × ((u : ℕ) → u < t → P u → ⊥)) ⊎ ((u : ℕ) → u ≤ m → P u → ⊥)

-- it can be found where the property can be tested
first_of : (P : ℕ → Type 0) → ((t : ℕ) → Dec (P t)) → (m : ℕ) → First P m
first_of P dec zero = go (dec 0)
  where
    go : Dec (P 0) → First P 0
    go (yes h) = inl (0, h, λ u l. absurd (not-suc-le-zero l))
    go (no q) = inr (λ u l h. let e : u ≡ 0 = omega arith in q (rw e at h))
first_of P dec (suc m) = go (first_of P dec m) (dec (suc m))
  where
    go : First P m → Dec (P (suc m)) → First P (suc m)
    go (inl w) d = inl w
    go (inr n) (yes h) = inl (suc m, h, λ u l. n u (omega arith))
    go (inr n) (no q) = inr (λ u l h. below u l h (dec_le u m))
      where
        below : (u : ℕ) → u ≤ suc m → P u → Dec (u ≤ m) → ⊥
        below u l h (yes w) = n u w h
        below u l h (no w) = let e : u ≡ suc m = omega arith in q (rw e at h)

-- the slots of an order that a job has in its window
pub in_window_lem : (p : Plan) (k : ℕ) (order : List ℕ) → in_window p (suc k) order ≡ given (λ s. get_or order s 0) (suc k) (job_at p k).release (job_at p k).deadline
in_window_lem p k order = rw (job_no_lem p k) (naming_window order k (job_at p k).release (job_at p k).deadline)

-- ---- the list of the N slots
module _ (p : Plan) (who : ℕ → ℕ) where
  -- it has N slots
  pub slots_by_long : length (slots_by p who) ≡ p.slots
  slots_by_long = length-map (count_up 0 p.slots) who ∙ count_up_length 0 p.slots

  -- slot s of it
  pub slots_by_at : (s : ℕ) → s < p.slots → get_or (slots_by p who) s 0 ≡ who s
  slots_by_at s l = let e : 0 + s ≡ s = omega arith in rw e at (count_up_at who 0 0 p.slots s l)

  -- it serves where each HI job has what it needs between its release and its deadline
  pub slots_by_serves : (need : ℕ → ℕ) → InOrder p
      → ((k : ℕ) → k < p.jobs → is_hi (job_at p k) ≡ true → need (suc k) ≤ given who (suc k) (job_at p k).release (job_at p k).deadline) → Serves p need (slots_by p who)
  slots_by_serves need ok enough n h high =
      let i = place_of_lem p n h in
      let k = n - 1 in
      let level : is_hi (job_at p k) ≡ true = rw (i.0, job_no_lem p k) at high in
      let a = given_agree (λ s. get_or (slots_by p who) s 0) who (suc k) (job_at p k).release (job_at p k).deadline (λ s m l. slots_by_at s (omega (arith, ok.ends k i.1))) in
      rw i.0 (omega (arith, in_window_lem p k (slots_by p who), enough k i.1 level))

module _ (p : Plan) (need : ℕ → ℕ) where
  -- ---- what the table run gives
  -- it names whom the table names
  pub run_names : (s k : ℕ) → table_run p need s ≡ suc k → table_at p s ≡ suc k
  unfolding table_run
  run_names s k = go (table_slots p s (table_at p s) <? need (table_at p s))
    where
      go : (b : Bool) → (if b then table_at p s else 0) ≡ suc k → table_at p s ≡ suc k
      go true h = h
      go false h = absurd (omega arith)

  -- what agrees with it before t gives a job there its table slots, up to its needs
  pub run_gives : (who : ℕ → ℕ) (k t : ℕ) → ((s : ℕ) → s < t → who s ≡ table_run p need s) → given who (suc k) 0 t ≡ min (need (suc k)) (tab p k t)
  unfolding table_run given
  run_gives who k zero agrees = omega (arith, tab_start p k)
  run_gives who k (suc t) agrees = go (ℕ_discrete (table_at p t) (suc k)) (dec_le (suc (tab p k t)) (need (suc k))) (run_gives who k t (λ s l. agrees s (omega arith)))
    where
      here : who t ≡ table_run p need t
      here = agrees t (omega arith)

      go : Dec (table_at p t ≡ suc k) → Dec (suc (tab p k t) ≤ need (suc k)) → given who (suc k) 0 t ≡ min (need (suc k)) (tab p k t)
          → given who (suc k) 0 (suc t) ≡ min (need (suc k)) (tab p k (suc t))
      go (yes e) (yes q) r =
          let h : who t ≡ suc k = here ∙ rw (e, lt-ltb (tab p k t) (need (suc k)) q) in
          omega (arith, given_last who (suc k) 0 t zero-le, tab_last p k t, same_yes (who t) (suc k) h, same_yes (table_at p t) (suc k) e)
      go (yes e) (no q) r =
          let h : who t ≡ 0 = here ∙ rw (e, le-ltb (tab p k t) (need (suc k)) (omega arith)) in
          omega (arith, given_last who (suc k) 0 t zero-le, tab_last p k t, same_no (who t) (suc k) (λ w. omega arith), same_yes (table_at p t) (suc k) e)
      go (no e) q r =
          let f : who t ≡ suc k → ⊥ = (λ w. e (run_names t k (sym here ∙ w))) in
          omega (arith, given_last who (suc k) 0 t zero-le, tab_last p k t, same_no (who t) (suc k) f, same_no (table_at p t) (suc k) e)

  -- ---- overruns, by the place of the job
  pub record Overrun (t : ℕ) : Type 0 where
    pub who : ℕ
    pub slot : ℕ
    pub border : t ≡ suc slot
    pub inside : slot < p.slots
    pub there : who < p.jobs
    pub named : table_at p slot ≡ suc who
    pub high : is_hi (job_at p who) ≡ true
    pub last : tab p who (suc slot) ≡ (job_at p who).lo
    pub more : (job_at p who).lo < need (suc who)

  -- an overrun as the demand says it
  pub overruns_at : (t : ℕ) → Overrun t → OverrunsAt p need t
  overruns_at t o =
      record {
        slot = o.slot;
        border = o.border;
        inside = o.inside;
        job = suc o.who;
        of_plan = (omega arith, o.there);
        named = o.named;
        high = rw (job_no_lem p o.who) o.high;
        last = rw (o.border, job_no_lem p o.who) o.last;
        more = rw (job_no_lem p o.who) o.more;
      }

  -- and back
  pub overrun_of : (t : ℕ) → OverrunsAt p need t → Overrun t
  overrun_of t o =
      let i = place_of_lem p o.job o.of_plan in
      let k = o.job - 1 in
      record {
        who = k;
        slot = o.slot;
        border = o.border;
        inside = o.inside;
        there = i.1;
        named = o.named ∙ i.0;
        high = rw (i.0, job_no_lem p k) at o.high;
        last = rw (i.0, job_no_lem p k, o.border) at o.last;
        more = rw (i.0, job_no_lem p k) at o.more;
      }

  -- whether there is one at t
  overrun? : (t : ℕ) → Dec (Overrun t)
  overrun? zero = no (λ o. let b = o.border in omega arith)
  overrun? (suc s) = go (table_at p s) refl
    where
      at : (o : Overrun (suc s)) → o.slot ≡ s
      at o = let b = o.border in omega arith

      same : (k : ℕ) → table_at p s ≡ suc k → (o : Overrun (suc s)) → o.who ≡ k
      same k e o = let n : table_at p s ≡ suc o.who = rw (at o) at o.named in omega arith

      tests : (k : ℕ) → table_at p s ≡ suc k → Dec (suc s ≤ p.slots) → Dec (suc k ≤ p.jobs) → (b : Bool) → is_hi (job_at p k) ≡ b
          → Dec (tab p k (suc s) ≡ (job_at p k).lo) → Dec (suc (job_at p k).lo ≤ need (suc k)) → Dec (Overrun (suc s))
      tests k e (yes a) (yes b) true h (yes f) (yes m) = yes (record { who = k; slot = s; border = refl; inside = a; there = b; named = e; high = h; last = f; more = m })
      tests k e (no a) b h i f m = no (λ o. a (rw (at o) at o.inside))
      tests k e (yes a) (no b) h i f m = no (λ o. b (rw (same k e o) at o.there))
      tests k e (yes a) (yes b) false i f m = no (λ o. never (rw (same k e o) at o.high) i)
      tests k e (yes a) (yes b) true i (no f) m = no (λ o. f (rw (same k e o, at o) at o.last))
      tests k e (yes a) (yes b) true i (yes f) (no m) = no (λ o. m (rw (same k e o) at o.more))

      go : (x : ℕ) → table_at p s ≡ x → Dec (Overrun (suc s))
      go zero e = no (λ o. let n : table_at p s ≡ suc o.who = rw (at o) at o.named in omega arith)
      go (suc k) e =
          tests k e (dec_le (suc s) p.slots) (dec_le (suc k) p.jobs) (is_hi (job_at p k)) refl
          (ℕ_discrete (tab p k (suc s)) (job_at p k).lo) (dec_le (suc (job_at p k).lo) (need (suc k)))

  -- there is a first overrun, or none at all
  pub first_overrun : ((t : ℕ) × FirstOverrun p need t) ⊎ ((t : ℕ) → OverrunsAt p need t → ⊥)
  first_overrun =
      ⊎_elim
      (λ w. inl (w.0, (overruns_at w.0 w.1, λ u l o. w.2 u l (overrun_of u o))))
      (λ none. inr (λ t o. none t (let b = o.border in let i = o.inside in omega arith) (overrun_of t o)))
      (first_of Overrun overrun? p.slots)

  -- a HI job that needs more than lo overruns at its lo-th table slot
  pub overruns_by : InOrder p → (k t : ℕ) → k < p.jobs → is_hi (job_at p k) ≡ true → (job_at p k).lo < need (suc k) → t ≤ p.slots → (job_at p k).lo ≤ tab p k t
      → (u : ℕ) × (u ≤ t) × Overrun u
  overruns_by ok k t l h m b full =
      let r = tab_reach p k t (job_at p k).lo (ok.some k l) full in
      (suc r.0, r.1, record { who = k; slot = r.0; border = refl; inside = omega (arith, r.1); there = l; named = r.2; high = h; last = r.3; more = m })

  -- without an overrun no HI job needs more than lo, and those slots it has by the table
  pub run_serves : InOrder p → ((t : ℕ) → OverrunsAt p need t → ⊥) → Serves p need (slots_by p (table_run p need))
  run_serves ok none = slots_by_serves p (table_run p need) need ok (λ k l high. enough k l high (dec_le (need (suc k)) (job_at p k).lo))
    where
      enough : (k : ℕ) → k < p.jobs → is_hi (job_at p k) ≡ true → Dec (need (suc k) ≤ (job_at p k).lo)
          → need (suc k) ≤ given (table_run p need) (suc k) (job_at p k).release (job_at p k).deadline
      enough k l high (yes q) =
          let inside = given_joined (table_run p need) (suc k) (job_at p k).release (job_at p k).deadline p.slots (omega (arith, ok.window k l))
          (λ s m e. let n = ok.names s m k (run_names s k e) in (n.1, n.2)) in
          omega (arith, inside, run_gives (table_run p need) k p.slots (λ s m. refl), ok.full k l)
      enough k l high (no q) = absurd
          (let o = overruns_by ok k p.slots l high (omega arith) (omega arith) (omega (arith, ok.full k l)) in
          none o.0 (overruns_at o.0 o.2))
