-- Demands 3a and 3b: what the deadlines of an accepted plan's runs find. Proved over whole runs from the invariant, from what ends tell and from demand 2.
use Rattle.std.specs.Prelude.{ℕ, suc, ◌-◌, ◌≤◌, ◌<◌, ◌≡◌, refl, ◌⊎◌, true, List, length, get_or}
use Rattle.std.proofs.Common.{not-suc-le-zero, arith, sym, ap, ◌∙◌, subst, ⊎_elim, inl, inr}
use Rattle.plan.specs.declared.Plan.{Plan}
use Rattle.plan.specs.Plan.{job_no, is_hi, naming}
use Rattle.words.specs.Cases.{never}
use Rattle.acceptance_promise.specs.Laws.{passes_in_order, accepted_has}
use Rattle.well_formed.specs.InOrder.{job_at, InOrder, JobOf}
use Rattle.spare_theory.specs.Promise.{A2}
use Rattle.well_formed.specs.InOrderLaws.{place_of_lem}
use Rattle.executive.specs.declared.Run.{Run}
use Rattle.executive.specs.declared.Report.{Report}
use Rattle.executive.specs.Run.{entry_no}
use Rattle.entries.specs.Entry.{waiting}
use Rattle.executive.specs.Choice.{chosen}
use Rattle.executive.specs.Step.{next_run}
use Rattle.promises.specs.Demands.{Event, jobs_run, Demand3a, Demand3b, FinishedInTime, HadWholeBudget, Reached, started, stepped}
use Rattle.entries.specs.declared.Standing.{Standing}
use Rattle.entries.specs.declared.Standing.TheVariants.{Waiting, Finished, Cut, Dropped}
use Rattle.promises.specs.Runs.{Taken, entry_at, given_at, Kept}
use Rattle.promises.specs.Ends.{EndTells, MetIn}
use Rattle.promises.specs.NextLaws.{next_plan_lem, given_within}
use Rattle.promises.specs.RecordLaws.{next_run_lem, taken, start_accepted, start_run, accepted_well_formed}
use Rattle.promises.specs.KeptLaws.{live_open, kept_next, fresh, kept_start}
use Rattle.promises.specs.EndLaws.{naming_inside}
use Rattle.promises.specs.History.{reached_plan, reached_recorded, reached_t, reached_given}
use Rattle.promises.specs.DeadlineLaws.{ends_next, inside_next}

-- ---- whole runs of an accepted plan

module _ (p : Plan) (a2 : A2 p) where
  -- one step, from a run that was reached
  kept_step : {h : List Event} {r : Run} → Reached p h r → (report : Report) → Taken r report → Kept p r → Kept p (next_run r (chosen r) report.kind)
  kept_step {r = r} q report ok kept =
      let plan = reached_plan q in
      let w = reached_recorded q in
      subst (λ (x : Plan). Kept x (next_run r (chosen r) report.kind)) plan
      (kept_next r w report ok (subst A2 (sym plan) a2) (subst (λ (x : Plan). Kept x r) (sym plan) kept))

  -- the invariant
  pub reached_kept : {h : List Event} {r : Run} → Reached p h r → Kept p r
  reached_kept (started sz e) = rw (start_run p e) (kept_start p (passes_in_order p sz (accepted_well_formed p (start_accepted p e))) a2)
  reached_kept (stepped {r = r} report q e) = rw (next_run_lem r report e) (kept_step q report (taken r report e) (reached_kept q))

  -- over the run's own plan
  kept_own : {h : List Event} {r : Run} → Reached p h r → Kept r.plan r
  kept_own {r = r} q = subst (λ (x : Plan). Kept x r) (sym (reached_plan q)) (reached_kept q)

  -- every end tells
  pub reached_ends : {h : List Event} {r : Run} → Reached p h r → (k : ℕ) → k < r.plan.jobs → EndTells h (job_at r.plan k) (given_at r k) (entry_at r k).standing
  reached_ends (started sz e) = rw (start_run p e) (λ k l. let q = fresh p (passes_in_order p sz (accepted_well_formed p (start_accepted p e))) a2 k l in rw q tt)
  reached_ends (stepped {h = h} {r = r} report q e) =
      rw (next_run_lem r report e, next_plan_lem r (chosen r) report.kind)
      (λ k l. ends_next h r (reached_recorded q) report (taken r report e) (kept_own q) (reached_t q) k l (reached_ends q k l))

  -- every slot that a job had is inside its window
  pub reached_inside : {h : List Event} {r : Run} → Reached p h r → (k : ℕ) → k < r.plan.jobs
      → (s : ℕ) → s < length (jobs_run h) → get_or (jobs_run h) s 0 ≡ suc k → ((job_at r.plan k).release ≤ s) × (s < (job_at r.plan k).deadline)
  unfolding jobs_run
  reached_inside (started sz e) = λ k l s m. absurd (not-suc-le-zero m)
  reached_inside (stepped {h = h} {r = r} report q e) =
      rw (next_run_lem r report e, next_plan_lem r (chosen r) report.kind)
      (λ k l. inside_next h r (reached_recorded q) report (taken r report e) (kept_own q) (reached_t q) k l (reached_inside q k l))

  met_own : {h : List Event} {r : Run} → Reached p h r → MetIn h r r.plan
  met_own {h} {r} q k l due why = go (entry_no r k).standing refl (reached_ends q (k - 1) place)
    where
      place : k - 1 < r.plan.jobs
      place = let a = l.0 in let b = l.1 in omega arith

      number : suc (k - 1) ≡ k
      number = let a = l.0 in omega arith

      inside : (s : ℕ) → s < length (jobs_run h) → get_or (jobs_run h) s 0 ≡ k → ((job_no r.plan k).release ≤ s) × (s < (job_no r.plan k).deadline)
      inside s m e = reached_inside q (k - 1) place s m (e ∙ sym number)

      go : (s : Standing) → (entry_no r k).standing ≡ s → EndTells h (job_no r.plan k) (entry_no r k).given (entry_no r k).standing → FinishedInTime r.plan r k ⊎ HadWholeBudget r.plan h r k
      go Waiting e tells = absurd (let o = live_open r (reached_recorded q) (kept_own q) (k - 1) place (ap waiting e) in omega arith)
      go (Finished b) e tells = inl (b, e, subst (EndTells h (job_no r.plan k) (entry_no r k).given) e tells)
      go (Cut b) e tells =
          let had : (entry_no r k).given ≡ (job_no r.plan k).hi = subst (EndTells h (job_no r.plan k) (entry_no r k).given) e tells in
          inr (b, e, naming_inside k (jobs_run h) (job_no r.plan k).release (job_no r.plan k).deadline inside ∙ sym (reached_given q k l) ∙ had)
      go (Dropped b) e tells =
          let t : EndTells h (job_no r.plan k) (entry_no r k).given (Dropped b) = subst (EndTells h (job_no r.plan k) (entry_no r k).given) e tells in
          absurd (⊎_elim (λ high. never high t.0) t.2 why)

  pub reached_met : {h : List Event} {r : Run} → Reached p h r → MetIn h r p
  reached_met {h} {r} q = subst (MetIn h r) (reached_plan q) (met_own q)

-- ---- the demands

-- an accepted plan's A2
reached_a2 : {p : Plan} {h : List Event} {r : Run} → Reached p h r → A2 p
reached_a2 {p} (started sz e) = (accepted_has p sz (start_accepted p e)).2
reached_a2 (stepped report q e) = reached_a2 q

-- the invariant of every run that comes from a start
pub kept : {p : Plan} {h : List Event} {r : Run} → Reached p h r → Kept p r
kept {p} q = reached_kept p (reached_a2 q) q

pub demand_3a : Demand3a
demand_3a p h r q k l high due = reached_met p (reached_a2 q) q k l due (inl high)

pub demand_3b : Demand3b
demand_3b p h r q k l low due phase = reached_met p (reached_a2 q) q k l due (inr phase)

-- ---- what follows for every run

-- at the last border every HI job has finished in time or had its whole larger budget in its window
pub all_hi_met : (p : Plan) (h : List Event) (r : Run) → Reached p h r → r.t ≡ p.slots → (k : ℕ) → JobOf p k → is_hi (job_no p k) ≡ true → FinishedInTime p r k ⊎ HadWholeBudget p h r k
all_hi_met p h r q over k l high =
    let order : InOrder p = subst InOrder (reached_plan q) (reached_recorded q).order in
    let ends = order.ends (k - 1) (place_of_lem p k l).1 in
    demand_3a p h r q k l high (omega arith)

-- no job has a slot outside its window
pub never_outside : (p : Plan) (h : List Event) (r : Run) → Reached p h r → (k : ℕ) → JobOf p k
    → (s : ℕ) → s < length (jobs_run h) → get_or (jobs_run h) s 0 ≡ k → ((job_no p k).release ≤ s) × (s < (job_no p k).deadline)
never_outside p h r q = subst (λ (x : Plan). (k : ℕ) → JobOf x k → (s : ℕ) → s < length (jobs_run h) → get_or (jobs_run h) s 0 ≡ k → ((job_no x k).release ≤ s) × (s < (job_no x k).deadline)) (reached_plan q) own
  where
    own : (k : ℕ) → JobOf r.plan k → (s : ℕ) → s < length (jobs_run h) → get_or (jobs_run h) s 0 ≡ k → ((job_no r.plan k).release ≤ s) × (s < (job_no r.plan k).deadline)
    own k l s m e =
        let i = place_of_lem r.plan k l in
        reached_inside p (reached_a2 q) q (k - 1) i.1 s m (e ∙ i.0)

-- nor more slots than its hi
pub never_above_hi : (p : Plan) (h : List Event) (r : Run) → Reached p h r → (k : ℕ) → JobOf p k → naming k (jobs_run h) ≤ (job_no p k).hi
never_above_hi p h r q = subst (λ (x : Plan). (k : ℕ) → JobOf x k → naming k (jobs_run h) ≤ (job_no x k).hi) (reached_plan q) own
  where
    own : (k : ℕ) → JobOf r.plan k → naming k (jobs_run h) ≤ (job_no r.plan k).hi
    own k l =
        let given = reached_given q k l in
        let rule = given_within r.t (job_no r.plan k).hi (entry_no r k).given (entry_no r k).standing ((reached_recorded q).holds k l) in
        omega arith

-- no HI job is dropped
pub hi_never_dropped : (p : Plan) (h : List Event) (r : Run) → Reached p h r → (k : ℕ) → JobOf p k → is_hi (job_no p k) ≡ true → (border : ℕ) → (entry_no r k).standing ≡ Dropped border → ⊥
hi_never_dropped p h r q = subst (λ (x : Plan). (k : ℕ) → JobOf x k → is_hi (job_no x k) ≡ true → (border : ℕ) → (entry_no r k).standing ≡ Dropped border → ⊥) (reached_plan q) own
  where
    own : (k : ℕ) → JobOf r.plan k → is_hi (job_no r.plan k) ≡ true → (border : ℕ) → (entry_no r k).standing ≡ Dropped border → ⊥
    own k l high border e =
        let t : EndTells h (job_no r.plan k) (entry_no r k).given (Dropped border) = subst (EndTells h (job_no r.plan k) (entry_no r k).given) e (reached_ends p (reached_a2 q) q (k - 1) (place_of_lem r.plan k l).1) in
        never high t.0
