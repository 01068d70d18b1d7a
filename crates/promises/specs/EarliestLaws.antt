-- Laws of the earliest deadline: the walk over a set finds the one member that leads, or is idle where there is none.
use Prim.Native.Nat.{ℕ, zero, suc, ◌+◌, ◌-◌, ◌≤◌, ◌<◌, suc-le-suc, zero-le, ◌*◌}
use Rattle.std.proofs.Math.Decide.{dec_lt}
use native.Mathlib.Omega.{arith}
use Rattle.std.specs.Prelude.{◌≡◌, ◌⊎◌, Bool, not, ◌&&◌, ◌||◌, length, if◌then◌else◌}
use Rattle.std.proofs.Math.Path.{refl}
use Rattle.std.proofs.Common.{sym, ap, ◌∙◌, true≢false, get_or-take, length-take-le, eqb-true, ltb-true, ltb-false}
use Rattle.std.proofs.Math.Logic.{⊎_elim, inl, inr}
use Rattle.std.proofs.Math.Bool.{true, false, false≢true}
use mathlib.Core.List.{List, [], ◌∷◌, zip_with}
use Rattle.std.proofs.Math.ListN.{get_or}
use Rattle.std.proofs.lemmas.Bool.{eqb-false}
use Rattle.words.specs.Words.{◌=?◌, ◌<?◌}
use Rattle.words.specs.Cases.{by_test, never}
use Rattle.plan.specs.declared.Job.{Job}
use Rattle.plan.specs.declared.Plan.{Plan}
use Rattle.plan.specs.Plan.{jobs_of, job_no, is_hi, blank_job}
use Rattle.entries.specs.declared.Entry.{Entry}
use Rattle.ready.specs.declared.Slot.{Slot}
use Rattle.entries.specs.Entry.{fresh_entry}
use Rattle.words.specs.ZipLaws.{zipped_at}
use Rattle.ready.specs.Ready.{earliest, goes_before, better, earliest_from}
use Rattle.promises.specs.Chosen.{Leads, EarliestOf}
use Rattle.promises.specs.General.{zip_member}
use Rattle.well_formed.specs.InOrder.{JobOf}

-- ---- the order

-- a job's place in the order, as one number: the deadline, then HI before LO
abbrev turn : Job → ℕ
turn j = 2 * j.deadline + (if is_hi j then 0 else 1)

small : (b : Bool) → (if b then 0 else 1) ≤ 1
small true = zero-le
small false = suc-le-suc zero-le

-- the test by that number, both ways
goes_before_lem : (i j : Job) → goes_before i j ≡ true → turn i < turn j
unfolding goes_before
goes_before_lem i j = go (i.deadline <? j.deadline) refl (i.deadline =? j.deadline) refl (is_hi i) (is_hi j)
  where
    go : (a : Bool) → (i.deadline <? j.deadline) ≡ a → (b : Bool) → (i.deadline =? j.deadline) ≡ b → (c d : Bool)
        → (a || (b && c && not d)) ≡ true → 2 * i.deadline + (if c then 0 else 1) < 2 * j.deadline + (if d then 0 else 1)
    go true e b f c d h = omega (arith, ltb-true i.deadline j.deadline e, small c)
    go false e true f true true h = absurd (false≢true h)
    go false e true f true false h = omega (arith, eqb-true i.deadline j.deadline f)
    go false e true f false d h = absurd (false≢true h)
    go false e false f c d h = absurd (false≢true h)

goes_not_before : (i j : Job) → goes_before i j ≡ false → turn j ≤ turn i
unfolding goes_before
goes_not_before i j = go (i.deadline <? j.deadline) refl (i.deadline =? j.deadline) refl (is_hi i) (is_hi j)
  where
    go : (a : Bool) → (i.deadline <? j.deadline) ≡ a → (b : Bool) → (i.deadline =? j.deadline) ≡ b → (c d : Bool)
        → (a || (b && c && not d)) ≡ false → 2 * j.deadline + (if d then 0 else 1) ≤ 2 * i.deadline + (if c then 0 else 1)
    go true e b f c d h = absurd (true≢false h)
    go false e true f true true h = omega (arith, eqb-true i.deadline j.deadline f)
    go false e true f true false h = absurd (true≢false h)
    go false e true f false d h = omega (arith, eqb-true i.deadline j.deadline f, small d)
    go false e false f c d h =
        let ne : i.deadline ≡ j.deadline → ⊥ = eqb-false i.deadline j.deadline f in
        omega (arith, ltb-false i.deadline j.deadline e, small d)

turn_before : (i j : Job) → turn i < turn j → goes_before i j ≡ true
turn_before i j h = by_test (goes_before i j) (λ e. e) (λ e. absurd (let n = goes_not_before i j e in omega arith))

turn_not_before : (i j : Job) → turn j ≤ turn i → goes_before i j ≡ false
turn_not_before i j h = by_test (goes_before i j) (λ e. absurd (let n = goes_before_lem i j e in omega arith)) (λ e. e)

-- whoever leads has no later deadline
pub leads_deadline : (p : Plan) (m k : ℕ) → Leads p m k → (job_no p m).deadline ≤ (job_no p k).deadline
leads_deadline p m k l = let t = goes_not_before (job_no p k) (job_no p m) l.0 in omega (arith, small (is_hi (job_no p k)))

-- two that lead each other are one
leads_one : (p : Plan) (m k : ℕ) → Leads p m k → Leads p k m → m ≡ k
leads_one p m k a b = go (dec_lt m k) (dec_lt k m)
  where
    go : Dec (m < k) → Dec (k < m) → m ≡ k
    go (yes q) w = absurd (never (b.1 q) a.0)
    go (no q) (yes w) = absurd (never (a.1 w) b.0)
    go (no q) (no w) = omega arith

-- so there is one earliest
pub one_earliest : (p : Plan) (Has : ℕ → Type 0) (s t : Slot) → EarliestOf p Has s → EarliestOf p Has t → s ≡ t
one_earliest p Has s t (inl a) (inl b) = a.0 ∙ sym b.0
one_earliest p Has s t (inl a) (inr b) = absurd (a.1 b.0 b.2 b.3)
one_earliest p Has s t (inr a) (inl b) = absurd (b.1 a.0 a.2 a.3)
one_earliest p Has s t (inr a) (inr b) = a.1 ∙ ap {B = Slot} Slot.Job (leads_one p a.0 b.0 (a.4 b.0 b.2 b.3) (b.4 a.0 a.2 a.3)) ∙ sym b.1

-- ---- the walk

module _ (p : Plan) where
  -- m leads k, by their numbers in the order
  abbrev Ahead : ℕ → ℕ → Type 0
  Ahead m k = (turn (job_no p m) ≤ turn (job_no p k)) × (k < m → turn (job_no p m) < turn (job_no p k))

  -- m is one of the members numbered from k on; it leads them all
  abbrev MemberFrom : ℕ → List Bool → ℕ → Type 0
  MemberFrom k members m = (i : ℕ) × (m ≡ k + i) × (get_or members i false ≡ true)

  abbrev FirstFrom : ℕ → List Bool → ℕ → Type 0
  FirstFrom k members m = (i : ℕ) → get_or members i false ≡ true → Ahead m (k + i)

  -- one member more at the front, or one that is none
  member_later : (b : Bool) (k : ℕ) (bs : List Bool) (m : ℕ) → MemberFrom (suc k) bs m → MemberFrom k (b ∷ bs) m
  member_later b k bs m (i, e, h) = (suc i, omega arith, h)

  first_later : (b : Bool) (k : ℕ) (bs : List Bool) (m : ℕ) → (b ≡ true → Ahead m k) → FirstFrom (suc k) bs m → FirstFrom k (b ∷ bs) m
  first_later b k bs m here f zero h = let z : k + 0 ≡ k = omega arith in rw z (here h)
  first_later b k bs m here f (suc i) h = let z : k + suc i ≡ suc k + i = omega arith in rw z (f i h)

  -- the best of `b` and the members from k on
  abbrev BestFrom : ℕ → ℕ → List Bool → Type 0
  BestFrom b k bs = (m : ℕ) × (earliest_from p.job (Slot.Job b) k bs ≡ Slot.Job m) × ((m ≡ b) ⊎ MemberFrom k bs m) × Ahead m b × FirstFrom k bs m

  best_from : (b k : ℕ) (bs : List Bool) → b < k → BestFrom b k bs
  unfolding earliest_from better
  best_from b k [] l = (b, refl, inl refl, (omega arith, λ q. absurd (omega arith)), λ i h. absurd (false≢true h))
  best_from b k (false ∷ bs) l =
      let r = best_from b (suc k) bs (omega arith) in
      (r.0, r.1, ⊎_elim inl (λ w. inr (member_later false k bs r.0 w)) r.2, r.3, first_later false k bs r.0 (λ e. absurd (false≢true e)) r.4)
  best_from b k (true ∷ bs) l = go (goes_before (job_no p k) (job_no p b)) refl (best_from k (suc k) bs (omega arith)) (best_from b (suc k) bs (omega arith))
    where
      go : (x : Bool) → goes_before (job_no p k) (job_no p b) ≡ x → BestFrom k (suc k) bs → BestFrom b (suc k) bs → BestFrom b k (true ∷ bs)
      go true e r _ =
          let earlier = goes_before_lem (job_no p k) (job_no p b) e in
          let mine = r.3.0 in
          (r.0, rw e r.1, inr (⊎_elim (λ q. (0, omega arith, refl)) (λ w. member_later true k bs r.0 w) r.2), (omega arith, λ _. omega arith), first_later true k bs r.0 (λ _. r.3) r.4)
      go false e _ r =
          let later = goes_not_before (job_no p k) (job_no p b) e in
          let mine = r.3.0 in
          (r.0, rw e r.1, ⊎_elim inl (λ w. inr (member_later true k bs r.0 w)) r.2, r.3, first_later true k bs r.0 (λ _. (omega arith, λ q. let s = r.3.1 (omega arith) in omega arith)) r.4)

  -- of the members alone
  abbrev EarliestFrom : ℕ → List Bool → Type 0
  EarliestFrom k bs =
      ((earliest_from p.job Slot.Idle k bs ≡ Slot.Idle) × ((i : ℕ) → get_or bs i false ≡ true → ⊥))
      ⊎ ((m : ℕ) × (earliest_from p.job Slot.Idle k bs ≡ Slot.Job m) × MemberFrom k bs m × FirstFrom k bs m)

  earliest_from_lem : (k : ℕ) (bs : List Bool) → EarliestFrom k bs
  unfolding earliest_from better
  earliest_from_lem k [] = inl (refl, λ i h. absurd (false≢true h))
  earliest_from_lem k (false ∷ bs) =
      ⊎_elim
      (λ w. inl (w.0, none w.1))
      (λ w. inr (w.0, w.1, member_later false k bs w.0 w.2, first_later false k bs w.0 (λ e. absurd (false≢true e)) w.3))
      (earliest_from_lem (suc k) bs)
    where
      none : ((i : ℕ) → get_or bs i false ≡ true → ⊥) → (i : ℕ) → get_or (false ∷ bs) i false ≡ true → ⊥
      none n zero h = false≢true h
      none n (suc i) h = n i h
  earliest_from_lem k (true ∷ bs) =
      let r = best_from k (suc k) bs (omega arith) in
      inr (r.0, r.1, ⊎_elim (λ q. (0, omega arith, refl)) (λ w. member_later true k bs r.0 w) r.2, first_later true k bs r.0 (λ _. r.3) r.4)

-- ---- the members that a test picks out of the plan's jobs

module _ (p : Plan) (es : List Entry) (js_fit : p.jobs ≤ length p.job) (es_fit : p.jobs ≤ length es) (test : Job → Entry → Bool) where
  abbrev Passes : ℕ → Type 0
  Passes k = test (job_no p k) (get_or es (k - 1) fresh_entry) ≡ true

  abbrev members : List Bool
  members = zip_with test (jobs_of p) es

  member_passes : (i : ℕ) → get_or members i false ≡ true → JobOf p (1 + i) × Passes (1 + i)
  member_passes i h =
      let w = zip_member test blank_job fresh_entry (jobs_of p) es i h in
      let a : i < length (jobs_of p) = w.0 in
      let l : i < p.jobs = rw (length-take-le p.jobs p.job js_fit) at a in
      let e : 1 + i - 1 ≡ i = omega arith in
      ((omega arith, omega arith), rw (e, ← get_or-take p.jobs p.job i blank_job l) w.2)

  passes_member : (k : ℕ) → JobOf p k → Passes k → get_or members (k - 1) false ≡ true
  passes_member k l h =
      let a = l.0 in
      let b = l.1 in
      let m : k - 1 < p.jobs = omega arith in
      zipped_at test p.job es p.jobs js_fit es_fit (k - 1) blank_job fresh_entry false m ∙ h

  pub earliest_of : EarliestOf p (λ k. test (job_no p k) (get_or es (k - 1) fresh_entry) ≡ true) (earliest p.job (zip_with test (jobs_of p) es))
  unfolding earliest
  earliest_of =
      ⊎_elim
      (λ w. inl (w.0, λ k l h. w.1 (k - 1) (passes_member k l h)))
      (λ w. let q = member_passes w.2.0 w.2.2 in
      inr (w.0, w.1, rw w.2.1 q.0, rw w.2.1 q.1, λ k l h. leads w.0 k l (w.3 (k - 1) (passes_member k l h))))
      (earliest_from_lem p 1 members)
    where
      leads : (m k : ℕ) → JobOf p k → Ahead p m (1 + (k - 1)) → Leads p m k
      leads m k l h =
          let a = l.0 in
          let e : 1 + (k - 1) ≡ k = omega arith in
          let ahead : Ahead p m k = rw e at h in
          (turn_not_before (job_no p k) (job_no p m) ahead.0, λ q. turn_before (job_no p m) (job_no p k) (ahead.1 q))
