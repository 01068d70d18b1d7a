-- One step of a run: every end goes on telling, and every slot is inside its job's window.
use Rattle.std.specs.Prelude.{ℕ, suc, ◌+◌, ◌-◌, ◌≤◌, ◌<◌, ◌≡◌, true, List, [], ◌∷◌, ◌++◌, length, get_or}
use Rattle.std.proofs.Math.Decide.{dec_lt}
use Rattle.std.proofs.Common.{arith, sym, ◌∙◌, subst, length-append, eqb-true}
use Rattle.std.proofs.Math.ListN.{get_or-append}
use Rattle.std.proofs.lemmas.List.{get_or_at}
use Rattle.words.specs.Words.{◌=?◌}
use Rattle.well_formed.specs.InOrder.{job_at}
use Rattle.acceptance_promise.specs.OneSlot.{SlotTo}
use Rattle.acceptance_promise.specs.OneSlotLaws.{table_met}
use Rattle.entries.specs.declared.Entry.{Entry}
use Rattle.executive.specs.declared.Phase.TheVariants.{T}
use Rattle.executive.specs.declared.Run.{Run}
use Rattle.executive.specs.declared.Report.{Report}
use Rattle.entries.specs.Entry.{live}
use Rattle.executive.specs.Choice.{chosen}
use Rattle.executive.specs.Step.{next_run}
use Rattle.promises.specs.Told.{job_run}
use Rattle.promises.specs.Demands.{Event, event, jobs_run}
use Rattle.entries.specs.declared.Kind.TheVariants.{None}
use Rattle.promises.specs.Runs.{reported_entry, Taken, Recorded, entry_at, given_at, live_at, Kept}
use Rattle.promises.specs.Ends.{EndTells, DropTells}
use Rattle.promises.specs.NextLaws.{live_fewer, reported_given, reported_alive, reported_holds}
use Rattle.promises.specs.RecordLaws.{own_slot_lem, none_fits_idle}
use Rattle.promises.specs.KeptLaws.{rule_at, live_open, next_at, given_next, slot_to, chosen_at, table_first}
use Rattle.promises.specs.EndLaws.{jobs_last, jobs_length, phase_last, next_tells}

module _ (h : List Event) (r : Run) (w : Recorded r) (report : Report) (ok : Taken r report) (kept : Kept r.plan r) (time : r.t ≡ length h) where
  abbrev next : Run
  next = next_run r (chosen r) report.kind

  abbrev who : ℕ
  who = job_run (chosen r)

  -- the entry at place k with the report, before expiry
  abbrev reported_at : ℕ → Entry
  reported_at k = reported_entry (r.t + 1) (job_at r.plan k) (who =? suc k) report.kind (entry_at r k)

  own_alive : (k : ℕ) → (who =? suc k) ≡ true → live_at r k ≡ true
  own_alive k e = (chosen_at r w report ok k (eqb-true who (suc k) e)).1

  -- who had the slot, had it before the deadline
  own_inside : (k : ℕ) → k < r.plan.jobs → (who =? suc k) ≡ true → r.t + 1 ≤ (job_at r.plan k).deadline
  own_inside k l e = let a = live_open r w kept k l (own_alive k e) in omega arith

  reported_slot : SlotTo r.plan who (given_at r) (given_at next) (live_at r) (λ k. live (reported_at k))
  reported_slot = record {
    more = (slot_to r w report ok).more;
    others = (slot_to r w report ok).others;
    fewer = λ k l a. reported_alive (r.t + 1) (job_at r.plan k) (who =? suc k) report.kind (entry_at r k) a;
  }

  -- who is live with the report has fewer slots than hi
  reported_fewer : (k : ℕ) → k < r.plan.jobs → live (reported_at k) ≡ true → given_at next k < (job_at r.plan k).hi
  reported_fewer k l a =
      let rule = reported_holds r.t (job_at r.plan k) (who =? suc k) report.kind (entry_at r k) (own_alive k) (λ e. fit k e) (rule_at r w k l) in
      let few = live_fewer (r.t + 1) (job_at r.plan k).hi (reported_at k).given (reported_at k).standing rule a in
      let same = reported_given (r.t + 1) (job_at r.plan k) (who =? suc k) report.kind (entry_at r k) in
      let next = given_next r w report ok k l in
      omega arith
    where
      fit : (k : ℕ) → (who =? suc k) ≡ true → report.kind ≡ None → ⊥
      fit k e = none_fits_idle (chosen r) (suc k) report.kind (own_slot_lem (chosen r) (suc k) (omega arith) e) ok.fits

  -- a LO job is dropped at its deadline, and then the last slot was not run in phase T
  drop_tells : (k : ℕ) → k < r.plan.jobs → DropTells (h ++ event r report ∷ []) (job_at r.plan k) (r.t + 1) (reported_at k).standing
  drop_tells k l alive low due =
      let open-until = live_open r w kept k l (reported_slot.fewer k l alive) in
      let long = length-append h (event r report ∷ []) in (
        omega arith,
        λ e. let phase : r.phase ≡ T = sym (phase_last h (event r report) ((job_at r.plan k).deadline - 1) (omega arith)) ∙ e in
            let met = table_met r.plan w.order r.t who (given_at r) (given_at next) (live_at r) (λ k. live (reported_at k)) (kept.table phase) (table_first r w report ok phase) reported_slot k l (omega arith) alive in
            let few = reported_fewer k l alive in
            let whole = w.order.low k l low in
            omega arith,
      )

  -- so each end goes on telling
  pub ends_next : (k : ℕ) → k < r.plan.jobs → EndTells h (job_at r.plan k) (given_at r k) (entry_at r k).standing
      → EndTells (h ++ event r report ∷ []) (job_at r.plan k) (given_at next k) (entry_at next k).standing
  ends_next k l tells =
      let some : 1 ≤ (job_at r.plan k).deadline = (let a = w.order.window k l in omega arith) in
      subst (λ (e : Entry). EndTells (h ++ event r report ∷ []) (job_at r.plan k) e.given e.standing) (sym (next_at r w report ok k l))
      (next_tells h (event r report) (job_at r.plan k) some (r.t + 1) (who =? suc k) report.kind (entry_at r k) (own_alive k) (own_inside k l) (drop_tells k l) tells)

  -- and every slot goes inside its job's window
  abbrev InsideAt : ℕ → ℕ → Type 0
  InsideAt k s = ((job_at r.plan k).release ≤ s) × (s < (job_at r.plan k).deadline)

  pub inside_next : (k : ℕ) → k < r.plan.jobs → ((s : ℕ) → s < length (jobs_run h) → get_or (jobs_run h) s 0 ≡ suc k → InsideAt k s)
      → (s : ℕ) → s < length (jobs_run (h ++ event r report ∷ [])) → get_or (jobs_run (h ++ event r report ∷ [])) s 0 ≡ suc k → InsideAt k s
  inside_next k l before = rw (jobs_last h (event r report)) (λ s m e. go s m e (dec_lt s (length (jobs_run h))))
    where
      go : (s : ℕ) → s < length (jobs_run h ++ who ∷ []) → get_or (jobs_run h ++ who ∷ []) s 0 ≡ suc k → Dec (s < length (jobs_run h)) → InsideAt k s
      go s m e (yes q) = before s q (sym (get_or-append (jobs_run h) (who ∷ []) 0 s q) ∙ e)
      go s m e (no q) =
          let long = length-append (jobs_run h) (who ∷ []) in
          let same = jobs_length h in
          let c = chosen_at r w report ok k (sym (get_or_at (jobs_run h) who [] 0 s (omega arith)) ∙ e) in
          let released = c.2 in
          let due = live_open r w kept k l c.1 in
          (omega arith, omega arith)
