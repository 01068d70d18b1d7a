-- Laws of ends, entry by entry: histories with one event more, slots inside a window, and what the end of a job tells after one step.
use Rattle.std.specs.Prelude.{ℕ, zero, suc, ◌+◌, ◌-◌, ◌≤◌, ◌<◌, ◌≡◌, Bool, not, ◌&&◌, List, [], ◌∷◌, ◌++◌, map, length, get_or, take, drop, if◌then◌else◌}
use Rattle.std.proofs.Common.{suc-le-suc, zero-le, arith, sym, ap, ◌∙◌, length-append}
use Rattle.std.proofs.Math.Path.{refl}
use Rattle.std.proofs.Math.Bool.{true, false}
use Rattle.std.proofs.lemmas.Bool.{false≢true}
use Rattle.std.proofs.lemmas.List.{length-map, get_or_at}
use Rattle.std.proofs.Math.ListN.{get_or-append}
use Rattle.std.proofs.Math.Seq.{take-nil, drop-nil}
use borrow.Author.Tests.{leb-true, ne_eqb, eqb-true}
use Rattle.words.specs.Words.{◌≤?◌, ◌=?◌}
use Rattle.plan.specs.declared.Job.{Job}
use Rattle.plan.specs.Plan.{is_hi, naming}
use Rattle.entries.specs.declared.Entry.{Entry}
use Rattle.executive.specs.declared.Phase.{Phase}
use Rattle.executive.specs.declared.Phase.TheVariants.{H}
use Rattle.promises.specs.Told.{job_run, first_end, left_alone}
use Rattle.promises.specs.Demands.{Event, jobs_run, phase_at}
use Rattle.entries.specs.Entry.{live, waiting, standing_after, ran_on}
use Rattle.entries.specs.declared.Standing.{Standing}
use Rattle.entries.specs.declared.Standing.TheVariants.{Waiting, Finished, Cut, Dropped}
use Rattle.entries.specs.declared.Kind.{Kind}
use Rattle.entries.specs.declared.Kind.TheVariants.{End, More, None}
use Rattle.promises.specs.Ends.{EndTells, DropTells}
use Rattle.promises.specs.Runs.{entry_after, reported_entry}
use Rattle.promises.specs.NextLaws.{expired_given, expired_stands}

-- ---- histories with one event more

pub jobs_last : (h : List Event) (e : Event) → jobs_run (h ++ e ∷ []) ≡ jobs_run h ++ job_run e.slot ∷ []
unfolding jobs_run
jobs_last [] e = refl
jobs_last (x ∷ h) e = ap {B = List ℕ} (λ t. job_run x.slot ∷ t) (jobs_last h e)

pub jobs_length : (h : List Event) → length (jobs_run h) ≡ length h
unfolding jobs_run
jobs_length h = length-map h (λ e. job_run e.slot)

phases_last : (h : List Event) (e : Event) → map (λ (e : Event). e.phase) (h ++ e ∷ []) ≡ map (λ (e : Event). e.phase) h ++ e.phase ∷ []
phases_last [] e = refl
phases_last (x ∷ h) e = ap {B = List Phase} (λ t. x.phase ∷ t) (phases_last h e)

-- the phase of an earlier slot, and of the last
phase_before : (h : List Event) (e : Event) (s : ℕ) → s < length h → phase_at (h ++ e ∷ []) s ≡ phase_at h s
phase_before h e s l =
    rw (phases_last h e) (get_or-append (map (λ (e : Event). e.phase) h) (e.phase ∷ []) H s (rw (length-map h (λ (e : Event). e.phase)) l))

pub phase_last : (h : List Event) (e : Event) (s : ℕ) → s ≡ length h → phase_at (h ++ e ∷ []) s ≡ e.phase
phase_last h e s q = rw (phases_last h e) (get_or_at (map (λ (e : Event). e.phase) h) e.phase [] H s (length-map h (λ (e : Event). e.phase) ∙ sym q))

-- ---- slots inside a window

-- no slot names k
naming_none : (k : ℕ) (xs : List ℕ) → ((s : ℕ) → s < length xs → get_or xs s 0 ≡ k → ⊥) → naming k xs ≡ 0
unfolding naming
naming_none k [] none = refl
naming_none k (x ∷ xs) none =
    rw (ne_eqb x k (none 0 (suc-le-suc zero-le))) (let r = naming_none k xs (λ s l. none (suc s) (suc-le-suc l)) in omega arith)

-- every slot that names k is in [a, b): they are the slots of that window
pub naming_inside : (k : ℕ) (xs : List ℕ) (a b : ℕ) → ((s : ℕ) → s < length xs → get_or xs s 0 ≡ k → (a ≤ s) × (s < b)) → naming k (drop a (take b xs)) ≡ naming k xs
unfolding naming
naming_inside k [] a b inside = rw (take-nil {A = ℕ} b, drop-nil {A = ℕ} a)
naming_inside k (x ∷ xs) a zero inside =
    rw (drop-nil {A = ℕ} a) (sym (naming_none k (x ∷ xs) (λ s l e. absurd (let w = (inside s l e).1 in omega arith))))
naming_inside k (x ∷ xs) zero (suc b) inside =
    let r = naming_inside k xs 0 b (λ s l e. (zero-le, (let w = (inside (suc s) (suc-le-suc l) e).1 in omega arith))) in
    omega arith
naming_inside k (x ∷ xs) (suc a) (suc b) inside =
    let r = naming_inside k xs a b (λ s l e. let w = inside (suc s) (suc-le-suc l) e in (let u = w.0 in omega arith, let u = w.1 in omega arith)) in
    rw (ne_eqb x k (λ e. absurd (let w = (inside 0 (suc-le-suc zero-le) e).0 in omega arith))) (omega arith)

-- ---- what the end of a job tells

module _ (h : List Event) (event : Event) (j : Job) (some : 1 ≤ j.deadline) where
  -- later it tells the same
  later_tells : (given : ℕ) (s : Standing) → EndTells h j given s → EndTells (h ++ event ∷ []) j given s
  later_tells given Waiting w = tt
  later_tells given (Finished b) w = w
  later_tells given (Cut b) w = w
  later_tells given (Dropped b) w =
      let d = w.1 in
      (w.0, omega (arith, length-append h (event ∷ [])), λ e. w.2 (sym (phase_before h event (j.deadline - 1) (omega arith)) ∙ e))

  -- a live job that is left alone
  alone_tells : (border given : ℕ) → DropTells (h ++ event ∷ []) j border Waiting → EndTells (h ++ event ∷ []) j given (left_alone j border)
  alone_tells border given drops = go (is_hi j) refl (j.deadline ≤? border) refl
    where
      go : (a : Bool) → is_hi j ≡ a → (b : Bool) → (j.deadline ≤? border) ≡ b → EndTells (h ++ event ∷ []) j given (if not a && b then Dropped border else Waiting)
      go true p b q = tt
      go false p true q = let d = drops refl p (leb-true j.deadline border q) in (p, d.0, d.1)
      go false p false q = tt

  -- an entry after expiry
  expired_tells : (border : ℕ) (given : ℕ) (s : Standing) → DropTells (h ++ event ∷ []) j border s → EndTells (h ++ event ∷ []) j given s → EndTells (h ++ event ∷ []) j given (first_end s (left_alone j border))
  expired_tells border given Waiting drops w = alone_tells border given drops
  expired_tells border given (Finished b) drops w = w
  expired_tells border given (Cut b) drops w = w
  expired_tells border given (Dropped b) drops w = w

  -- a live job that had the slot
  ran_tells : (border given : ℕ) (kind : Kind) → border ≤ j.deadline → EndTells (h ++ event ∷ []) j given (standing_after kind j.hi given border Waiting)
  unfolding standing_after
  ran_tells border given End l = l
  ran_tells border given More l = go (given =? j.hi) refl
    where
      go : (b : Bool) → (given =? j.hi) ≡ b → EndTells (h ++ event ∷ []) j given (if b then Cut border else Waiting)
      go true e = eqb-true given j.hi e
      go false e = tt
  ran_tells border given None l = tt

  reported_tells : (border : ℕ) (own : Bool) (kind : Kind) (e : Entry) → (own ≡ true → live e ≡ true) → (own ≡ true → border ≤ j.deadline)
      → EndTells h j e.given e.standing → EndTells (h ++ event ∷ []) j (reported_entry border j own kind e).given (reported_entry border j own kind e).standing
  unfolding ran_on
  reported_tells border false kind e alive inside w = later_tells e.given e.standing w
  reported_tells border true kind e alive inside w = go e.standing (alive refl)
    where
      go : (s : Standing) → waiting s ≡ true → EndTells (h ++ event ∷ []) j (e.given + 1) (standing_after kind j.hi (e.given + 1) border s)
      go Waiting a = ran_tells border (e.given + 1) kind (inside refl)
      go (Finished b) a = absurd (false≢true a)
      go (Cut b) a = absurd (false≢true a)
      go (Dropped b) a = absurd (false≢true a)

  -- one step
  pub next_tells : (border : ℕ) (own : Bool) (kind : Kind) (e : Entry) → (own ≡ true → live e ≡ true) → (own ≡ true → border ≤ j.deadline)
      → DropTells (h ++ event ∷ []) j border (reported_entry border j own kind e).standing
      → EndTells h j e.given e.standing → EndTells (h ++ event ∷ []) j (entry_after border j own kind e).given (entry_after border j own kind e).standing
  unfolding entry_after
  next_tells border own kind e alive inside drops w =
      let x = reported_entry border j own kind e in
      rw (expired_given border j x, expired_stands border j x.standing x.given) (expired_tells border x.given x.standing drops (reported_tells border own kind e alive inside w))
