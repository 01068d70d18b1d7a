-- An order of the coming slots exists exactly when no window is overfull: W7 builds it, the earliest deadline first, and W8 shows that none exists else.
use Rattle.std.specs.Prelude.{ℕ, zero, suc, ◌+◌, ◌-◌, ◌≤◌, ◌<◌, max, ◌≡◌, refl, ◌⊎◌, ◌↔◌, if◌then◌else◌}
use Rattle.std.proofs.Common.{zero-le, not-suc-le-zero, arith, inl, inr, eq-eqb, ne_eqb}
use Rattle.std.proofs.Math.Decide.{dec_le, ℕ_discrete}
use Rattle.std.proofs.Math.Logic.{⊎_elim}
use Rattle.words.specs.Words.{◌=?◌}
use Rattle.windows.specs.Sums.{total, gate, same}
use Rattle.windows.specs.SumLaws.{total_mono, gate_open, gate_case, gate_none, same_yes, same_no}
use Rattle.windows.specs.Windows.{Windows, due_at, due_by, inside_at, within, Feasible, Ready}
use Rattle.windows.specs.WindowLaws.{met, earliest_keeps, nobody_keeps}
use Rattle.windows.specs.Orders.{given, ServedBy, Order}
use Rattle.windows.specs.SlotLaws.{given_empty, given_wider, given_from, given_agree, counting}

-- ---- who is next: a ready job of the earliest deadline, or nobody is ready
module _ (w : Windows) (t : ℕ) (left : ℕ → ℕ) where
  -- place i, if it is ready, is due no earlier than place k
  abbrev Behind : ℕ → ℕ → Type 0
  Behind k i = Ready w t left i → w.deadline k ≤ w.deadline i

  -- of the places below n, k is ready and has the earliest deadline
  record Next (n k : ℕ) : Type 0 where
    there : k < n
    ready : Ready w t left k
    first : (i : ℕ) → i < n → Behind k i

  -- none of the places below n is ready
  abbrev NoneReady : ℕ → Type 0
  NoneReady n = (i : ℕ) → i < n → Ready w t left i → ⊥

  -- whether place k is ready
  ready? : (k : ℕ) → Dec (Ready w t left k)
  ready? k = go (dec_le (w.release k) t) (dec_le 1 (left k))
    where
      go : Dec (w.release k ≤ t) → Dec (1 ≤ left k) → Dec (Ready w t left k)
      go (yes p) (yes q) = yes (p, q)
      go (yes p) (no q) = no (λ r. q r.1)
      go (no p) q = no (λ r. p r.0)

  -- what holds for the places below n and for place n
  each : (P : ℕ → Type 0) (n : ℕ) → ((i : ℕ) → i < n → P i) → P n → (i : ℕ) → i < suc n → P i
  each P n below here i l = go (dec_le n i)
    where
      go : Dec (n ≤ i) → P i
      go (yes q) = let e : i ≡ n = omega arith in rw e here
      go (no q) = below i (omega arith)

  -- the search, place by place
  next : (n : ℕ) → ((k : ℕ) × Next n k) ⊎ NoneReady n
  next zero = inr (λ i l. absurd (not-suc-le-zero l))
  next (suc n) = go (next n) (ready? n)
    where
      both : (k : ℕ) → Next n k → Ready w t left n → Dec (w.deadline k ≤ w.deadline n) → (k : ℕ) × Next (suc n) k
      both k c r (yes q) = (k, record { there = omega (arith, c.there); ready = c.ready; first = each (Behind k) n c.first (λ _. q) })
      both k c r (no q) = (n, record { there = omega arith; ready = r; first = each (Behind n) n (λ i l h. omega (arith, c.first i l h)) (λ _. omega arith) })

      go : ((k : ℕ) × Next n k) ⊎ NoneReady n → Dec (Ready w t left n) → ((k : ℕ) × Next (suc n) k) ⊎ NoneReady (suc n)
      go (inl c) (yes r) = inl (both c.0 c.1 r (dec_le (w.deadline c.0) (w.deadline n)))
      go (inl c) (no r) = inl (c.0, record { there = omega (arith, c.1.there); ready = c.1.ready; first = each (Behind c.0) n c.1.first (λ h. absurd (r h)) })
      go (inr none) (yes r) = inl (n, record { there = omega arith; ready = r; first = each (Behind n) n (λ i l h. absurd (none i l h)) (λ _. omega arith) })
      go (inr none) (no r) = inr (each (λ i. Ready w t left i → ⊥) n none r)

-- ---- W7: the order, slot after slot
-- one slot less for j
abbrev less : (ℕ → ℕ) → ℕ → ℕ → ℕ
less left j k = left k - same k j

-- slot t to x, the other slots as they were
unfoldable at : ℕ → ℕ → (ℕ → ℕ) → ℕ → ℕ
at t x who s = if s =? t then x else who s

-- at t
at_here : (t x : ℕ) (who : ℕ → ℕ) → at t x who t ≡ x
unfolding at
at_here t x who = rw (eq-eqb t t refl)

-- at any other slot
at_other : (t x : ℕ) (who : ℕ → ℕ) (s : ℕ) → (s ≡ t → ⊥) → at t x who s ≡ who s
unfolding at
at_other t x who s q = rw (ne_eqb s t q)

-- slot t to x: a window from t on has that slot, if it is its own, and the slots from t + 1 on
at_then : (t x : ℕ) (who : ℕ → ℕ) (k r d : ℕ) → given (at t x who) k (max r t) d ≡ gate r t (gate (t + 1) d (same x k)) + given who k (max r (t + 1)) d
at_then t x who k r d =
    let g = rw (at_here t x who) at (given_from (at t x who) k r d t) in
    let a = given_agree (at t x who) who k (max r (t + 1)) d (λ s l m. at_other t x who s (λ e. omega arith)) in
    omega arith

-- nothing behind two gates
two_gates : (a b c d n : ℕ) → n ≡ 0 → gate a b (gate c d n) ≡ 0
two_gates a b c d n z = gate_none a b (gate c d n) (gate_none c d n z)

module _ (w : Windows) where
  -- slot t to nobody
  idle_then : (t : ℕ) (left : ℕ → ℕ) → Order w (t + 1) left → Order w t left
  idle_then t left o = record { who = at t 0 o.who; named = named; serves = serves }
    where
      named : (s : ℕ) → at t 0 o.who s ≤ w.count
      named s = go (ℕ_discrete s t)
        where
          go : Dec (s ≡ t) → at t 0 o.who s ≤ w.count
          go (yes e) = rw (e, at_here t 0 o.who) zero-le
          go (no q) = rw (at_other t 0 o.who s q) (o.named s)

      serves : ServedBy w t left (at t 0 o.who)
      serves k l =
          omega (
            arith,
            at_then t 0 o.who (suc k) (w.release k) (w.deadline k),
            two_gates (w.release k) t (t + 1) (w.deadline k) (same 0 (suc k)) (same_no 0 (suc k) (λ e. omega arith)),
            o.serves k l,
          )

  -- slot t to the next job
  run_then : (t : ℕ) (left : ℕ → ℕ) → Feasible w t left → (j : ℕ) → Next w t left w.count j → Order w (t + 1) (less left j) → Order w t left
  run_then t left f j c o = record { who = at t (suc j) o.who; named = named; serves = serves }
    where
      named : (s : ℕ) → at t (suc j) o.who s ≤ w.count
      named s = go (ℕ_discrete s t)
        where
          go : Dec (s ≡ t) → at t (suc j) o.who s ≤ w.count
          go (yes e) = rw (e, at_here t (suc j) o.who) c.there
          go (no q) = rw (at_other t (suc j) o.who s q) (o.named s)

      -- a job with work left is not past its deadline
      open_still : Dec (w.deadline j ≤ t) → t < w.deadline j
      open_still (yes d) = absurd (omega (arith, c.ready.1, met w t left f.0 j c.there d))
      open_still (no q) = omega arith

      serves : ServedBy w t left (at t (suc j) o.who)
      serves k l = go (ℕ_discrete k j)
        where
          later : given o.who (suc k) (max (w.release k) (t + 1)) (w.deadline k) ≡ left k - same k j
          later = o.serves k l

          -- 1 where slot t is its own
          own : ℕ
          own = gate (w.release k) t (gate (t + 1) (w.deadline k) (same (suc j) (suc k)))

          slot : given (at t (suc j) o.who) (suc k) (max (w.release k) t) (w.deadline k) ≡ own + given o.who (suc k) (max (w.release k) (t + 1)) (w.deadline k)
          slot = at_then t (suc j) o.who (suc k) (w.release k) (w.deadline k)

          go : Dec (k ≡ j) → given (at t (suc j) o.who) (suc k) (max (w.release k) t) (w.deadline k) ≡ left k
          go (no q) =
              omega (
                arith,
                slot,
                later,
                same_no k j q,
                two_gates (w.release k) t (t + 1) (w.deadline k) (same (suc j) (suc k)) (same_no (suc j) (suc k) (λ e. q (omega arith))),
              )
          go (yes e) =
              let r : w.release k ≤ t = rw e c.ready.0 in
              let d : t < w.deadline k = rw e (open_still (dec_le (w.deadline j) t)) in
              let some : 0 < left k = rw e c.ready.1 in
              omega (
                arith,
                slot,
                later,
                same_yes k j e,
                same_yes (suc j) (suc k) (omega arith),
                gate_open {a = w.release k} {b = t} (gate (t + 1) (w.deadline k) (same (suc j) (suc k))) r,
                gate_open {a = t + 1} {b = w.deadline k} (same (suc j) (suc k)) (omega arith),
              )

  -- n slots, the earliest deadline first
  build : (n t : ℕ) (left : ℕ → ℕ) → ((k : ℕ) → k < w.count → w.deadline k ≤ t + n) → Feasible w t left → Order w t left
  build zero t left ends f =
      record {
        who = λ s. 0;
        named = λ s. zero-le;
        serves = λ k l. let d = ends k l in omega (arith, given_empty (λ s. 0) (suc k) (max (w.release k) t) (w.deadline k) (omega arith), met w t left f.0 k l (omega arith));
      }
  build (suc n) t left ends f = go (next w t left w.count) (λ left'. build n (t + 1) left' (λ k l. let d = ends k l in omega arith))
    where
      go : ((k : ℕ) × Next w t left w.count k) ⊎ NoneReady w t left w.count → ((left' : ℕ → ℕ) → Feasible w (t + 1) left' → Order w (t + 1) left') → Order w t left
      go (inl c) later =
          let j = c.0 in
          run_then t left f j c.1
          (later (less left j) (earliest_keeps w t left (less left j) f (λ k l. omega arith) j c.1.there (omega (arith, same_yes j j refl, c.1.ready.1)) c.1.first))
      go (inr none) later = idle_then t left (later left (nobody_keeps w t left left f (λ k l. omega arith) none))

  -- W7: where no window from t on is overfull, there is an order of the slots that serves the work left
  pub order_exists : (N t : ℕ) (left : ℕ → ℕ) → ((k : ℕ) → k < w.count → w.deadline k ≤ N) → Feasible w t left → Order w t left
  order_exists N t left ends f = build (N - t) t left (λ k l. let d = ends k l in omega arith) f

  -- W8: slots that give each job its work, or more, inside its window show that no window from t on is overfull
  pub order_shows : (t : ℕ) (left who : ℕ → ℕ) → ((k : ℕ) → k < w.count → left k ≤ given who (suc k) (max (w.release k) t) (w.deadline k)) → Feasible w t left
  unfolding due_by within
  order_shows t left who enough = (in_time, windows)
    where
      in_time : (e : ℕ) → total w.count (due_at w left e) ≤ e - t
      in_time e =
          let m = total_mono w.count (due_at w left e) (λ k. given who (suc k) t e)
          (λ k l.
          ⊎_elim
          (λ v. omega (arith, enough k l, given_wider who (suc k) (max (w.release k) t) (w.deadline k) t e (omega arith) v.0))
          (λ v. omega arith)
          (gate_case (w.deadline k) e (left k))) in
          omega (arith, counting who w.count t e)

      windows : (a b : ℕ) → t < a → total w.count (inside_at w left a b) ≤ b - a
      windows a b h =
          let m = total_mono w.count (inside_at w left a b) (λ k. given who (suc k) a b) (λ k l. inside k l) in
          omega (arith, counting who w.count a b)
        where
          inside : (k : ℕ) → k < w.count → inside_at w left a b k ≤ given who (suc k) a b
          inside k l =
              ⊎_elim
              (λ u.
              ⊎_elim
              (λ v. omega (arith, enough k l, given_wider who (suc k) (max (w.release k) t) (w.deadline k) a b (omega (arith, u.0)) v.0))
              (λ v. omega arith)
              (gate_case (w.deadline k) b (left k)))
              (λ u. omega arith)
              (gate_case a (w.release k) (gate (w.deadline k) b (left k)))

  -- W7 and W8: an order of the coming slots exists exactly when no window is overfull
  pub feasible_exactly : (N t : ℕ) (left : ℕ → ℕ) → ((k : ℕ) → k < w.count → w.deadline k ≤ N) → Feasible w t left ↔ Order w t left
  feasible_exactly N t left ends = (order_exists N t left ends, λ o. order_shows t left o.who (λ k l. omega (arith, o.serves k l)))
