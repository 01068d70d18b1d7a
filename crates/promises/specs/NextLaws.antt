-- Laws of one step, entry by entry: what an accepted report changes in the record of a run.
use Rattle.std.specs.Prelude.{ℕ, zero, suc, ◌+◌, ◌-◌, ◌≤◌, ◌<◌, ◌≡◌, Bool, ◌&&◌, List, [], ◌∷◌, get_or, set, if◌then◌else◌}
use Rattle.std.proofs.Common.{not-suc-le-zero, le_of_suc-le-suc, sym, ◌∙◌, length-set, length-take-le, get_or-set_same, get_or-set_other}
use Rattle.std.proofs.Math.Decide.{ℕ_discrete}
use native.Mathlib.Omega.{arith}
use Rattle.std.proofs.Math.Path.{refl, ap}
use Rattle.std.proofs.Math.Bool.{true, false, not}
use Rattle.std.proofs.lemmas.Bool.{false≢true}
use Rattle.std.proofs.Math.ListN.{length}
use Rattle.std.proofs.Math.Seq.{get_or-take}
use borrow.Author.Tests.{leb-true, leb-false, ltb-true, eqb-false, lt-ltb, le-leb, eq-eqb, ne_eqb}
use Rattle.plan.specs.declared.Job.{Job}
use Rattle.words.specs.Words.{◌≤?◌, ◌=?◌}
use Rattle.plan.specs.Plan.{jobs_of, job_no, is_hi, blank_job}
use Rattle.words.specs.Cases.{both_hold}
use Rattle.entries.specs.declared.Standing.{Standing}
use Rattle.entries.specs.declared.Standing.TheVariants.{Waiting, Finished, Cut, Dropped}
use Rattle.entries.specs.declared.Entry.{Entry}
use Rattle.executive.specs.declared.Phase.{Phase}
use Rattle.executive.specs.declared.Phase.TheVariants.{T, H}
use Rattle.executive.specs.declared.Run.{Run}
use Rattle.executive.specs.Run.{entry_no, fresh_hi, fresh_lo, hi_work, lo_work}
use Rattle.executive.specs.Step.{entries_after, reported, expired_entries, expired, overrun, can_return, phase_after, judged, refreshed, next_run}
use Rattle.promises.specs.Told.{job_run, first_end, left_alone}
use Rattle.promises.specs.Runs.{reported_entry, entry_after}
use Rattle.ready.specs.declared.Slot.{Slot}
use Rattle.entries.specs.declared.Kind.{Kind}
use Rattle.entries.specs.declared.Kind.TheVariants.{End, More, None}
use Rattle.entries.specs.Entry.{live, waiting, fresh_entry, standing_holds, standing_after, ran_on, expired_entry}
use Rattle.promises.specs.General.{joined}
use Rattle.well_formed.specs.InOrder.{JobOf}

-- ---- the whole record

module _ (r : Run) (slot : Slot) (kind : Kind) where
  pub next_plan_lem : (next_run r slot kind).plan ≡ r.plan
  unfolding next_run refreshed judged expired reported
  next_plan_lem = refl

  pub next_t : (next_run r slot kind).t ≡ r.t + 1
  unfolding next_run refreshed judged expired reported
  next_t = refl

  pub next_job_lem : (next_run r slot kind).entry ≡ expired_entries (r.t + 1) (jobs_of r.plan) (entries_after r slot kind)
  unfolding next_run refreshed judged expired reported
  next_job_lem = refl

  -- both rows are the fresh ones
  pub next_hi : (next_run r slot kind).hi ≡ fresh_hi (next_run r slot kind)
  unfolding next_run refreshed judged expired reported fresh_hi hi_work
  next_hi = refl

  pub next_lo : (next_run r slot kind).lo ≡ fresh_lo (next_run r slot kind)
  unfolding next_run refreshed judged expired reported fresh_lo lo_work
  next_lo = refl

-- the phase is judged on what then stands
same_phase : (x : Phase) (r : Run) (slot : Slot) (kind : Kind) → phase_after x (expired (reported r slot kind)) slot ≡ phase_after x (next_run r slot kind) slot
unfolding next_run refreshed judged expired reported overrun can_return
same_phase T r Slot.Idle kind = refl
same_phase T r (Slot.Job k) kind = refl
same_phase H r slot kind = refl

pub next_phase : (r : Run) (slot : Slot) (kind : Kind) → (next_run r slot kind).phase ≡ phase_after r.phase (next_run r slot kind) slot
unfolding next_run refreshed judged expired reported
next_phase r slot kind = same_phase r.phase r slot kind

-- ---- one entry

-- expiry goes over the plan's jobs, one by one
expired_at : (t : ℕ) (js : List Job) (es : List Entry) (i : ℕ) → i < length js → i < length es → get_or (expired_entries t js es) i fresh_entry ≡ expired_entry t (get_or js i blank_job) (get_or es i fresh_entry)
unfolding expired_entries
expired_at t [] es i h l = absurd (not-suc-le-zero h)
expired_at t (j ∷ js) [] i h l = absurd (not-suc-le-zero l)
expired_at t (j ∷ js) (e ∷ es) zero h l = refl
expired_at t (j ∷ js) (e ∷ es) (suc i) h l = expired_at t js es i (le_of_suc-le-suc h) (le_of_suc-le-suc l)

length_expired : (t : ℕ) (js : List Job) (es : List Entry) → length (expired_entries t js es) ≡ length es
unfolding expired_entries
length_expired t [] es = refl
length_expired t (j ∷ js) [] = refl
length_expired t (j ∷ js) (e ∷ es) = ap suc (length_expired t js es)

length_entries : (r : Run) (slot : Slot) (kind : Kind) → length (entries_after r slot kind) ≡ length r.entry
length_entries r Slot.Idle kind = refl
length_entries r (Slot.Job k) kind = length-set r.entry (k - 1) (ran_on kind (r.t + 1) (job_no r.plan k) (entry_no r k))

-- there are as many entries as before
pub next_length : (r : Run) (slot : Slot) (kind : Kind) → length (next_run r slot kind).entry ≡ length r.entry
next_length r slot kind = rw (next_job_lem r slot kind, length_expired) (length_entries r slot kind)

module _ (r : Run) (kind : Kind) (k : ℕ) (l : JobOf r.plan k) (es_fit : r.plan.jobs ≤ length r.entry) where
  -- the report is applied to its own job
  reported_at_lem : (slot : Slot) → ((m : ℕ) → slot ≡ Slot.Job m → 1 ≤ m)
      → get_or (entries_after r slot kind) (k - 1) fresh_entry ≡ (if job_run slot =? k then ran_on kind (r.t + 1) (job_no r.plan k) (entry_no r k) else entry_no r k)
  reported_at_lem Slot.Idle named = let a = l.0 in rw (ne_eqb 0 k (λ e. omega arith))
  reported_at_lem (Slot.Job m) named = go (ℕ_discrete m k)
    where
      go : Dec (m ≡ k)
          → get_or (set r.entry (m - 1) (ran_on kind (r.t + 1) (job_no r.plan m) (entry_no r m))) (k - 1) fresh_entry
          ≡ (if m =? k then ran_on kind (r.t + 1) (job_no r.plan k) (entry_no r k) else entry_no r k)
      go (yes e) =
          let a = l.0 in
          let b = l.1 in
          rw (eq-eqb m k e, e) (get_or-set_same r.entry (k - 1) (ran_on kind (r.t + 1) (job_no r.plan k) (entry_no r k)) fresh_entry (omega arith))
      go (no e) =
          let a = l.0 in
          let b = named m refl in
          rw (ne_eqb m k e) (get_or-set_other r.entry (m - 1) (k - 1) (ran_on kind (r.t + 1) (job_no r.plan m) (entry_no r m)) fresh_entry (λ q. e (omega arith)))

  -- the entry of job k in the next run
  pub entry_next : (slot : Slot) → ((m : ℕ) → slot ≡ Slot.Job m → 1 ≤ m) → r.plan.jobs ≤ length r.plan.job
      → entry_no (next_run r slot kind) k ≡ entry_after (r.t + 1) (job_no r.plan k) (job_run slot =? k) kind (entry_no r k)
  unfolding entry_after
  entry_next slot named js_fit =
      let a = l.0 in
      let b = l.1 in
      let m : k - 1 < r.plan.jobs = omega arith in
      let x : k - 1 < length (jobs_of r.plan) = rw (length-take-le r.plan.jobs r.plan.job js_fit) m in
      let y : k - 1 < length (entries_after r slot kind) = rw (length_entries r slot kind) (omega arith) in
      rw (next_job_lem r slot kind, expired_at (r.t + 1) (jobs_of r.plan) (entries_after r slot kind) (k - 1) x y, get_or-take r.plan.jobs r.plan.job (k - 1) blank_job m, reported_at_lem slot named)

-- ---- laws of one entry

module _ (border : ℕ) (j : Job) where
  pub expired_given : (e : Entry) → (expired_entry border j e).given ≡ e.given
  unfolding expired_entry
  expired_given e = go (live e && not (is_hi j) && (j.deadline ≤? border))
    where
      go : (b : Bool) → (if b then record { standing = Dropped border; given = e.given } else e).given ≡ e.given
      go true = refl
      go false = refl

  pub expired_stands : (s : Standing) (g : ℕ) → (expired_entry border j (record { standing = s; given = g })).standing ≡ first_end s (left_alone j border)
  unfolding expired_entry
  expired_stands Waiting g = go (not (is_hi j) && (j.deadline ≤? border))
    where
      entry : Standing → Entry
      entry s = record { standing = s; given = g }

      go : (b : Bool) → (if b then entry (Dropped border) else entry Waiting).standing ≡ (if b then Dropped border else Waiting)
      go true = refl
      go false = refl
  expired_stands (Finished b) g = refl
  expired_stands (Cut b) g = refl
  expired_stands (Dropped b) g = refl

  -- the slot is counted to its own job
  pub reported_given : (own : Bool) (kind : Kind) (e : Entry) → (reported_entry border j own kind e).given ≡ e.given + (if own then 1 else 0)
  unfolding ran_on
  reported_given true kind e = refl
  reported_given false kind e = omega arith

  pub given_after : (own : Bool) (kind : Kind) (e : Entry) → (entry_after border j own kind e).given ≡ e.given + (if own then 1 else 0)
  unfolding entry_after
  given_after own kind e = expired_given (reported_entry border j own kind e) ∙ reported_given own kind e

  -- an end that is none changes nothing
  first_waiting : (s : Standing) → first_end s Waiting ≡ s
  first_waiting Waiting = refl
  first_waiting (Finished b) = refl
  first_waiting (Cut b) = refl
  first_waiting (Dropped b) = refl

  -- an ended job stands as it stood; a live one as the report of its own slot tells, or else as left alone
  pub stands_after : (own : Bool) (kind : Kind) (e : Entry) → (own ≡ true → live e ≡ true)
      → (entry_after border j own kind e).standing ≡ first_end (first_end e.standing (if own then standing_after kind j.hi (e.given + 1) border Waiting else Waiting)) (left_alone j border)
  unfolding entry_after ran_on
  stands_after false kind e alive = expired_stands e.standing e.given ∙ ap (λ (s : Standing). first_end s (left_alone j border)) (sym (first_waiting e.standing))
  stands_after true kind e alive = expired_stands (standing_after kind j.hi (e.given + 1) border e.standing) (e.given + 1) ∙ ap (λ (s : Standing). first_end s (left_alone j border)) (go e.standing (alive refl))
    where
      go : (s : Standing) → waiting s ≡ true → standing_after kind j.hi (e.given + 1) border s ≡ first_end s (standing_after kind j.hi (e.given + 1) border Waiting)
      go Waiting h = refl
      go (Finished b) h = absurd (false≢true h)
      go (Cut b) h = absurd (false≢true h)
      go (Dropped b) h = absurd (false≢true h)

  first_alive : (s later : Standing) → waiting (first_end s later) ≡ true → (waiting s ≡ true) × (waiting later ≡ true)
  first_alive Waiting later h = (refl, h)
  first_alive (Finished b) later h = absurd (false≢true h)
  first_alive (Cut b) later h = absurd (false≢true h)
  first_alive (Dropped b) later h = absurd (false≢true h)

  ran_alive : (kind : Kind) (given : ℕ) (s : Standing) → waiting (standing_after kind j.hi given border s) ≡ true → waiting s ≡ true
  unfolding standing_after
  ran_alive End given s h = absurd (false≢true h)
  ran_alive More given s h = go (given =? j.hi) h
    where
      go : (b : Bool) → waiting (if b then Cut border else s) ≡ true → waiting s ≡ true
      go true h = absurd (false≢true h)
      go false h = h
  ran_alive None given s h = h

  -- a job that is live with the report was live before
  pub reported_alive : (own : Bool) (kind : Kind) (e : Entry) → live (reported_entry border j own kind e) ≡ true → live e ≡ true
  unfolding ran_on
  reported_alive false kind e h = h
  reported_alive true kind e h = ran_alive kind (e.given + 1) e.standing h

  -- and one that is live after expiry is not left to be dropped
  still_alive : (own : Bool) (kind : Kind) (e : Entry) → live (entry_after border j own kind e) ≡ true → (live (reported_entry border j own kind e) ≡ true) × (waiting (left_alone j border) ≡ true)
  unfolding entry_after
  still_alive own kind e h =
      let x = reported_entry border j own kind e in
      first_alive x.standing (left_alone j border) (rw (expired_stands x.standing x.given) at h)

  -- nobody comes to life
  pub live_after : (own : Bool) (kind : Kind) (e : Entry) → live (entry_after border j own kind e) ≡ true → live e ≡ true
  live_after own kind e h = reported_alive own kind e (still_alive own kind e h).0

  -- no LO job lives on at its deadline
  pub low_after : (own : Bool) (kind : Kind) (e : Entry) → live (entry_after border j own kind e) ≡ true → is_hi j ≡ false → border < j.deadline
  low_after own kind e h low = go (j.deadline ≤? border) refl (rw low at (still_alive own kind e h).1)
    where
      go : (b : Bool) → (j.deadline ≤? border) ≡ b → waiting (if b then Dropped border else Waiting) ≡ true → border < j.deadline
      go true e h = absurd (false≢true h)
      go false e h = leb-false j.deadline border e

-- ---- the record's rule for one entry

-- a live job has fewer slots than hi
pub live_fewer : (t hi given : ℕ) (s : Standing) → standing_holds t hi given s ≡ true → waiting s ≡ true → given < hi
unfolding standing_holds
live_fewer t hi given Waiting h w = ltb-true given hi h
live_fewer t hi given (Finished b) h w = absurd (false≢true w)
live_fewer t hi given (Cut b) h w = absurd (false≢true w)
live_fewer t hi given (Dropped b) h w = absurd (false≢true w)

-- and no job more
pub given_within : (t hi given : ℕ) (s : Standing) → standing_holds t hi given s ≡ true → given ≤ hi
unfolding standing_holds
given_within t hi given Waiting h = omega (arith, ltb-true given hi h)
given_within t hi given (Finished b) h = leb-true given hi (both_hold (given ≤? hi) (b ≤? t) h).0
given_within t hi given (Cut b) h = leb-true given hi (both_hold (given ≤? hi) (b ≤? t) h).0
given_within t hi given (Dropped b) h = leb-true given hi (both_hold (given ≤? hi) (b ≤? t) h).0

-- an ended one at most hi, marked at t or before
ended_holds : (t hi given b : ℕ) → given ≤ hi → b ≤ t → ((given ≤? hi) && (b ≤? t)) ≡ true
ended_holds t hi given b h l = joined (given ≤? hi) (b ≤? t) (le-leb given hi h) (le-leb b t l)

-- with time the rule stays
later_holds : (t hi given : ℕ) (s : Standing) → standing_holds t hi given s ≡ true → standing_holds (t + 1) hi given s ≡ true
unfolding standing_holds
later_holds t hi given Waiting h = h
later_holds t hi given (Finished b) h = let w = both_hold (given ≤? hi) (b ≤? t) h in ended_holds (t + 1) hi given b (leb-true given hi w.0) (omega (arith, leb-true b t w.1))
later_holds t hi given (Cut b) h = let w = both_hold (given ≤? hi) (b ≤? t) h in ended_holds (t + 1) hi given b (leb-true given hi w.0) (omega (arith, leb-true b t w.1))
later_holds t hi given (Dropped b) h = let w = both_hold (given ≤? hi) (b ≤? t) h in ended_holds (t + 1) hi given b (leb-true given hi w.0) (omega (arith, leb-true b t w.1))

module _ (t : ℕ) (j : Job) where
  -- expiry keeps it
  expired_holds : (s : Standing) (g : ℕ) → standing_holds t j.hi g s ≡ true → standing_holds t j.hi g (first_end s (left_alone j t)) ≡ true
  unfolding standing_holds
  expired_holds Waiting g h = go (not (is_hi j) && (j.deadline ≤? t))
    where
      go : (b : Bool) → standing_holds t j.hi g (if b then Dropped t else Waiting) ≡ true
      go true = ended_holds t j.hi g t (omega (arith, ltb-true g j.hi h)) (omega arith)
      go false = h
  expired_holds (Finished b) g h = h
  expired_holds (Cut b) g h = h
  expired_holds (Dropped b) g h = h

  -- so does a report for a live job
  ran_holds : (kind : Kind) (g : ℕ) → (kind ≡ None → ⊥) → g < j.hi → standing_holds t j.hi (g + 1) (standing_after kind j.hi (g + 1) t Waiting) ≡ true
  unfolding standing_holds standing_after
  ran_holds End g fit h = ended_holds t j.hi (g + 1) t (omega arith) (omega arith)
  ran_holds More g fit h = go (g + 1 =? j.hi) refl
    where
      go : (b : Bool) → (g + 1 =? j.hi) ≡ b → standing_holds t j.hi (g + 1) (if b then Cut t else Waiting) ≡ true
      go true e = ended_holds t j.hi (g + 1) t (omega arith) (omega arith)
      go false e = let ne : g + 1 ≡ j.hi → ⊥ = eqb-false (g + 1) j.hi e in lt-ltb (g + 1) j.hi (omega arith)
  ran_holds None g fit h = absurd (fit refl)

-- the report keeps the record's rule
pub reported_holds : (t : ℕ) (j : Job) (own : Bool) (kind : Kind) (e : Entry) → (own ≡ true → live e ≡ true) → (own ≡ true → kind ≡ None → ⊥)
    → standing_holds t j.hi e.given e.standing ≡ true
    → standing_holds (t + 1) j.hi (reported_entry (t + 1) j own kind e).given (reported_entry (t + 1) j own kind e).standing ≡ true
unfolding ran_on
reported_holds t j false kind e alive fit h = later_holds t j.hi e.given e.standing h
reported_holds t j true kind e alive fit h = go e.standing (alive refl) h
  where
    go : (s : Standing) → waiting s ≡ true → standing_holds t j.hi e.given s ≡ true
        → standing_holds (t + 1) j.hi (e.given + 1) (standing_after kind j.hi (e.given + 1) (t + 1) s) ≡ true
    go Waiting w h = ran_holds (t + 1) j kind e.given (fit refl) (live_fewer t j.hi e.given Waiting h refl)
    go (Finished b) w h = absurd (false≢true w)
    go (Cut b) w h = absurd (false≢true w)
    go (Dropped b) w h = absurd (false≢true w)

-- so does the whole step
pub holds_after : (t : ℕ) (j : Job) (own : Bool) (kind : Kind) (e : Entry) → (own ≡ true → live e ≡ true) → (own ≡ true → kind ≡ None → ⊥)
    → standing_holds t j.hi e.given e.standing ≡ true
    → standing_holds (t + 1) j.hi (entry_after (t + 1) j own kind e).given (entry_after (t + 1) j own kind e).standing ≡ true
unfolding entry_after
holds_after t j own kind e alive fit h =
    let x = reported_entry (t + 1) j own kind e in
    rw (expired_given (t + 1) j x, expired_stands (t + 1) j x.standing x.given) (expired_holds (t + 1) j x.standing x.given (reported_holds t j own kind e alive fit h))
