-- What a coherent run before its last border has: its steps are sound, and the chosen job's slots can be counted on.
use Prim.Native.Nat.{ℕ, zero, suc, ◌+◌, ◌-◌, ◌≤◌, ◌<◌, zero-le}
use Rattle.std.proofs.Common.{not-suc-le-zero, le_of_suc-le-suc, arith, ◌∙◌, leb-true, ltb-true}
use Rattle.std.specs.Prelude.{Bool, true, not, ◌&&◌, ◌≡◌, refl, length, get_or, if◌then◌else◌, Option, Some, None}
use Rattle.std.proofs.Math.Bool.{false}
use Rattle.std.proofs.lemmas.Bool.{false≢true}
use Rattle.std.proofs.Math.Path.{sym}
use mathlib.Core.List.{List, [], ◌∷◌, zip_with}
use Rattle.words.specs.Words.{◌≤?◌, below0, above0, every}
use Rattle.words.specs.Cases.{both_hold}
use Rattle.answers.specs.Answer.{accepted}
use Rattle.plan.specs.declared.Job.{Job}
use Rattle.plan.specs.Counts.{max_count}
use Rattle.plan.specs.Limits.{max_slots, max_jobs}
use Rattle.plan.specs.Plan.{jobs_of, table_at, blank_job, is_hi}
use Rattle.well_formed.specs.WellFormed.{well_formed}
use Rattle.well_formed.specs.InOrder.{InOrder}
use Rattle.well_formed.specs.InOrderLaws.{in_order}
use Rattle.entries.specs.declared.Standing.{Standing}
use Rattle.entries.specs.Entry.{how_it_stands, is_waiting, holds_at, entry_holds, waiting, live, fresh_entry, standing_holds}
use Rattle.ready.specs.ReadyLaws.{walked}
use Rattle.entries.specs.declared.Entry.{Entry}
use Rattle.executive.specs.declared.Phase.{Phase}
use Rattle.executive.specs.declared.Run.{Run}
use Rattle.ready.specs.declared.Slot.{Slot}
use Rattle.executive.specs.Run.{entry_no, fresh_hi, fresh_lo, current_hi, current_lo}
use Rattle.executive.specs.Coherent.{entries_hold, coherent}
use Rattle.spares.specs.Spares.{same_row}
use Rattle.ready.specs.Ready.{is_ready, earliest, is_member}
use Rattle.executive.specs.Choice.{ready, ready_hi, chosen_t, chosen_h, chosen_in, chosen, members}
use Rattle.executive.specs.MemberLaws.{Full, members_all, members_hi, members_length, member_at}
use Rattle.executive.specs.Sound.{Sound, Countable}
use Rattle.words.specs.ZipLaws.{zipped_length, zipped_at}

-- a live job that holds has fewer slots than hi
live_below : (t hi given : ℕ) (s : Standing) → standing_holds t hi given s ≡ true → waiting s ≡ true → given < hi
unfolding standing_holds
live_below t hi given s h l = go (how_it_stands s) h l
  where
    go : (x : Option ℕ) → holds_at t hi given x ≡ true → is_waiting x ≡ true → given < hi
    go None p w = ltb-true given hi p
    go (Some border) p w = absurd (false≢true w)

every_at : (bs : List Bool) (i : ℕ) → i < length bs → every bs ≡ true → get_or bs i false ≡ true
unfolding every
every_at [] i h p = absurd (not-suc-le-zero h)
every_at (b ∷ bs) zero h p = (both_hold b (every bs) p).0
every_at (b ∷ bs) (suc i) h p = every_at bs i (le_of_suc-le-suc h) (both_hold b (every bs) p).1

-- a member is live
member_live : (hi : Bool) (t : ℕ) (j : Job) (e : Entry) → is_member hi t j e ≡ true → live e ≡ true
unfolding is_member
member_live false t j e w = (both_hold (live e) (j.release ≤? t) w).0
member_live true t j e w = (both_hold (live e) (j.release ≤? t) (both_hold (is_ready t j e) (is_hi j) w).0).0

-- a coherent run before its last border, whose arrays have all their places
module _ (r : Run) (h : coherent r ≡ true) (before : r.t < r.plan.slots) (jobs : length r.plan.job ≡ max_jobs) (table : length r.plan.table ≡ max_slots) (entries : length r.entry ≡ max_jobs) where
  clauses : (accepted (well_formed r.plan) ≡ true) × (entries_hold r ≡ true)
  unfolding coherent
  clauses =
      let a = (both_hold (accepted (well_formed r.plan) && (r.t ≤? r.plan.slots) && entries_hold r && same_row r.hi (fresh_hi r)) (same_row r.lo (fresh_lo r)) h).0 in
      let b = (both_hold (accepted (well_formed r.plan) && (r.t ≤? r.plan.slots) && entries_hold r) (same_row r.hi (fresh_hi r)) a).0 in
      let c = both_hold (accepted (well_formed r.plan) && (r.t ≤? r.plan.slots)) (entries_hold r) b in
      ((both_hold (accepted (well_formed r.plan)) (r.t ≤? r.plan.slots) c.0).0, c.1)

  -- its plan is in order: all that is used of checks 2 to 7
  ok : InOrder r.plan
  ok = in_order r.plan jobs table clauses.0

  pub full : Full r
  full = record { few = ok.jobs.1; jobs = jobs; entries = entries }

  named : table_at r.plan r.t ≤ r.plan.jobs
  named = go (table_at r.plan r.t) refl
    where
      go : (k : ℕ) → table_at r.plan r.t ≡ k → k ≤ r.plan.jobs
      go zero e = zero-le
      go (suc k) e = (ok.names r.t before k e).0

  pub sound : Sound r
  sound = record { few = ok.jobs.1; border = omega (arith, ok.slots); named = omega (arith, named, ok.jobs) }

  -- a live job can be given one slot more
  live_countable : (i : ℕ) → i < r.plan.jobs → live (get_or r.entry i fresh_entry) ≡ true → (get_or r.entry i fresh_entry).given < max_count
  unfolding entries_hold
  live_countable i l v =
      let few = ok.jobs.1 in
      let f = entry_holds r.t in
      let n = zipped_length f r.plan.job r.entry r.plan.jobs (omega arith) (omega arith) in
      let a = every_at (zip_with f (jobs_of r.plan) r.entry) i (omega arith) clauses.1 in
      let b = sym (zipped_at f r.plan.job r.entry r.plan.jobs (omega arith) (omega arith) i blank_job fresh_entry false l) ∙ a in
      let c = live_below r.t (get_or r.plan.job i blank_job).hi (get_or r.entry i fresh_entry).given (get_or r.entry i fresh_entry).standing b v in
      omega (arith, ok.most i l, ok.slots)

  -- so is every member of a ready set
  member_countable : (hi : Bool) (i : ℕ) → i < length (members hi r) → get_or (members hi r) i false ≡ true → Countable r (Slot.Job (1 + i))
  member_countable hi i l m =
      let n = members_length hi r full in
      let w = sym (member_at hi r full i blank_job fresh_entry (omega arith)) ∙ m in
      let e : 1 + i - 1 ≡ i = omega arith in
      let few = ok.jobs.1 in
      ((omega arith), (rw e (live_countable i (omega arith) (member_live hi r.t (get_or r.plan.job i blank_job) (get_or r.entry i fresh_entry) w))))

  earliest_countable : (hi : Bool) → Countable r (earliest r.plan.job (members hi r))
  unfolding earliest
  earliest_countable hi = walked (Countable r) r.plan.job Slot.Idle 1 (members hi r) tt (member_countable hi)

  -- the chosen job's slots can be counted on
  pub chosen_countable : Countable r (chosen r)
  unfolding chosen chosen_t chosen_h
  chosen_countable = go r.phase
    where
      k : ℕ
      k = table_at r.plan r.t

      table_or : (b : Bool) → ((1 ≤? k) && live (entry_no r k)) ≡ b → Countable r (if b then Slot.Job k else earliest r.plan.job (ready r))
      table_or true q =
          let some = leb-true 1 k (both_hold (1 ≤? k) (live (entry_no r k)) q).0 in
          let few = ok.jobs.1 in
          let n = named in
          ((omega arith), (live_countable (k - 1) (omega arith) (both_hold (1 ≤? k) (live (entry_no r k)) q).1))
      table_or false q = rw members_all at (earliest_countable false)

      all_or : (b : Bool) → Countable r (earliest r.plan.job (if b then ready r else ready_hi r))
      all_or true = rw members_all at (earliest_countable false)
      all_or false = rw members_hi at (earliest_countable true)

      go : (phase : Phase) → Countable r (chosen_in phase r)
      go Phase.T = table_or ((1 ≤? k) && live (entry_no r k)) refl
      go Phase.H = all_or (above0 (current_hi r) && not (below0 (current_lo r)))
