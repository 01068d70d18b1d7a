-- Between two ends of HI jobs along the table the condition of A2 only gets worse: where it fails at t it fails at each border up to the next end.
use Prim.Native.Nat.{ℕ, zero, suc, ◌+◌, ◌-◌, ◌≤◌, ◌<◌}
use Rattle.std.proofs.Math.Decide.{dec_le, ℕ_discrete}
use Rattle.std.proofs.Common.{add-one, arith}
use Rattle.std.specs.Prelude.{◌≡◌, true}
use Rattle.std.proofs.Math.Logic.{⊎_elim}
use Rattle.windows.specs.Sums.{gate, same}
use Rattle.windows.specs.SumLaws.{total_mono, total_add, total_none, gate_case, gate_open, same_no, same_le}
use Rattle.windows.specs.SlotLaws.{one_name}
use Rattle.windows.specs.Windows.{due_at, due_by, InTime}
use Rattle.plan.specs.declared.Plan.{Plan}
use Rattle.plan.specs.Plan.{is_hi, table_at}
use Rattle.well_formed.specs.InOrder.{job_at, tab, InOrder}
use Rattle.spare_theory.specs.Promise.{windows_of, asked, NoEnd}
use Rattle.spare_theory.specs.CountLaws.{tab_last}
use Rattle.spare_theory.specs.TableLaws.{asked_high, asked_case, asked_due, past_in_time}

-- less behind the same gate, by one at most
gate_less : (d e m n o : ℕ) → m ≤ n + o → gate d e m ≤ gate d e n + o
gate_less d e m n o h = ⊎_elim (λ w. omega (arith, w.1, gate_open {a = d} {b = e} n w.0)) (λ w. omega (arith, w.1)) (gate_case d e m)

module _ (p : Plan) (ok : InOrder p) where
  -- what may be asked falls only by the slot that a job has, where it does not end in it
  asked_falls : (t k : ℕ) → k < p.jobs → NoEnd p t (t + 1) → asked p t k ≤ asked p (t + 1) k + same (table_at p t) (suc k)
  asked_falls t k l none = ⊎_elim (λ w. go w (ℕ_discrete (table_at p t) (suc k))) (λ w. omega arith) (asked_case p t k)
    where
      next : tab p k (t + 1) ≡ tab p k t + same (table_at p t) (suc k)
      next = rw (add-one t) (tab_last p k t)

      go : (is_hi (job_at p k) ≡ true) × (tab p k t < (job_at p k).lo) × (asked p t k ≡ (job_at p k).hi - tab p k t) → Dec (table_at p t ≡ suc k) → asked p t k ≤ asked p (t + 1) k + same (table_at p t) (suc k)
      go w (no q) =
          let z = same_no (table_at p t) (suc k) q in
          omega (arith, w.2, next, asked_high p (t + 1) k w.0 (omega (arith, w.1, next)))
      go w (yes q) =
          let further : tab p k t + 1 ≡ (job_at p k).lo → ⊥ = (λ e. none t k (omega arith) (omega arith) l (w.0, q, e)) in
          let one = same_le (table_at p t) (suc k) in
          omega (arith, w.2, next, asked_high p (t + 1) k w.0 (omega (arith, w.1, next, further)))

  -- so what is due by e falls by 1 at most
  due_falls : (t e : ℕ) → NoEnd p t (t + 1) → due_by (windows_of p) (asked p t) e ≤ due_by (windows_of p) (asked p (t + 1)) e + 1
  unfolding due_by
  due_falls t e none =
      let name : ℕ → ℕ = λ k. same (table_at p t) (suc k) in
      let after : ℕ → ℕ = due_at (windows_of p) (asked p (t + 1)) e in
      let m = total_mono p.jobs (due_at (windows_of p) (asked p t) e) (λ k. after k + name k) (λ k l. gate_less (job_at p k).deadline e (asked p t k) (asked p (t + 1) k) (name k) (asked_falls t k l none)) in
      omega (arith, total_add p.jobs after name, one_name p.jobs (table_at p t))

  -- nothing is due by t at border t
  due_passed : (t e : ℕ) → e ≤ t → due_by (windows_of p) (asked p t) e ≡ 0
  unfolding due_by
  due_passed t e h =
      total_none p.jobs (due_at (windows_of p) (asked p t) e)
      (λ k l. ⊎_elim (λ w. omega (arith, w.1, asked_due p ok t k l (omega (arith, w.0)))) (λ w. w.1) (gate_case (job_at p k).deadline e (asked p t k)))

  -- one slot: what holds at t + 1 holds at t, where no HI job ends in slot t
  before_in_time : (t : ℕ) → NoEnd p t (t + 1) → InTime (windows_of p) (t + 1) (asked p (t + 1)) → InTime (windows_of p) t (asked p t)
  before_in_time t none later e = go (dec_le e t)
    where
      go : Dec (e ≤ t) → due_by (windows_of p) (asked p t) e ≤ e - t
      go (yes q) = omega (arith, due_passed t e q)
      go (no q) = omega (arith, due_falls t e none, later e)

  -- from the next end, or any border before it, back
  pub back_in_time : (n a b : ℕ) → b ≡ a + n → NoEnd p a b → InTime (windows_of p) b (asked p b) → InTime (windows_of p) a (asked p a)
  back_in_time zero a b e none here = let q : b ≡ a = omega arith in rw q at here
  back_in_time (suc n) a b e none here =
      before_in_time a (λ t k h l. none t k h (omega arith)) (back_in_time n (a + 1) b (omega arith) (λ t k h l. none t k (omega arith) l) here)

  -- where no HI job ends from a on, all is in time from there: past the table's end nothing may be asked
  pub end_in_time : (a : ℕ) → a ≤ p.slots → NoEnd p a p.slots → InTime (windows_of p) a (asked p a)
  end_in_time a h none = back_in_time (p.slots - a) a p.slots (omega arith) none (past_in_time p ok p.slots (omega arith))

  -- the law: where the condition fails at t and no HI job ends in slot t, it fails at t + 1
  pub worse : (t : ℕ) → NoEnd p t (t + 1) → (InTime (windows_of p) t (asked p t) → ⊥) → InTime (windows_of p) (t + 1) (asked p (t + 1)) → ⊥
  worse t none fails later = fails (before_in_time t none later)
