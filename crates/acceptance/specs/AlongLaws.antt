-- Check 9 by what may be asked along the table: at a border its test is the condition of A2. So a border that is short stays short up to the next end,
-- and the answer from one border on is the answer from the border after the next end, where that one is not short.
use Prim.Native.Nat.{ℕ, zero, suc, ◌+◌, ◌-◌, ◌≤◌, ◌<◌}
use native.Mathlib.Omega.{arith}
use Rattle.std.specs.Prelude.{◌≡◌, ◌↔◌, refl, true, false, List, length, take, drop}
use Rattle.std.proofs.Common.{◌∙◌}
use Rattle.std.proofs.Math.Bool.{not}
use Rattle.std.proofs.Math.ListN.{get_or}
use Rattle.words.specs.Words.{◌<?◌}
use Rattle.words.specs.ZipLaws.{zip_at}
use Rattle.answers.specs.Answer.{Answer, Accepted, Overdrawn, accepted, ◌unless◌, first_refusal}
use Rattle.answers.specs.AnswerLaws.{first_on, first_end_lem, rule_on, rule_found}
use Rattle.windows.specs.Windows.{InTime}
use Rattle.windows.specs.WindowLaws.{in_time_mono}
use Rattle.plan.specs.declared.Plan.{Plan}
use Rattle.plan.specs.Limits.{max_jobs}
use Rattle.plan.specs.Plan.{jobs_of, blank_job, counts_at}
use Rattle.plan.specs.CountLaws.{counts_at_lem, counts_length}
use Rattle.spares.specs.Spares.{hi_left}
use Rattle.well_formed.specs.InOrder.{job_at, tab, InOrder}
use Rattle.well_formed.specs.InOrderLaws.{among_jobs, jobs_length}
use Rattle.spare_theory.specs.Promise.{windows_of, asked, NoEnd}
use Rattle.spare_theory.specs.TableLaws.{asked_due}
use Rattle.spare_theory.specs.SpareLaws.{not_below_exactly}
use Rattle.spare_theory.specs.WorseLaws.{back_in_time, end_in_time}
use Rattle.acceptance.specs.Acceptance.{along_table}
use Rattle.acceptance.specs.Borders.{overdrawn, overdrawn_from}

-- the answer from place a on, where the next m are accepted
first_past : {A : Type 0} (judge : ℕ → A → Answer) (xs : List A) (n : ℕ) (d : A) → n ≤ length xs → (m a b : ℕ) → b ≡ a + m → b ≤ n
    → ((i : ℕ) → a ≤ i → i < b → accepted (judge i (get_or xs i d)) ≡ true) → first_refusal judge b (drop b (take n xs)) ≡ first_refusal judge a (drop a (take n xs))
first_past judge xs n d le zero a b e h good = let q : b ≡ a = omega arith in rw q
first_past judge xs n d le (suc m) a b e h good =
    first_past judge xs n d le m (a + 1) b (omega arith) h (λ i l. good i (omega arith))
    ∙ first_on judge xs n a a d le (omega arith) (good a (omega arith) (omega arith))

module _ (p : Plan) (ok : InOrder p) where
  -- the work along the table is what may be asked
  pub along_asked : (t k : ℕ) → k < p.jobs → get_or (along_table p t) k 0 ≡ asked p t k
  unfolding along_table asked
  along_asked t k l =
      let few : k < max_jobs = (let b = ok.jobs in omega arith) in
      let count : get_or (counts_at p t) k 0 ≡ tab p k t = (let e : 1 + k ≡ suc k = omega arith in rw e at (counts_at_lem p t k few)) in
      zip_at (λ j c. hi_left j (c <? j.lo) c) (jobs_of p) (counts_at p t) k blank_job 0 0 (rw (jobs_length p ok) l) (rw (counts_length p t) few)
      ∙ rw (among_jobs p k l, count)

  module _ (t : ℕ) (before : t < p.slots) where
    -- nothing may be asked that is due at or before t
    pub along_ahead : (k : ℕ) → k < p.jobs → (job_at p k).deadline ≤ t → get_or (along_table p t) k 0 ≡ 0
    along_ahead k l h = along_asked t k l ∙ asked_due p ok t k l h

    -- check 9 at border t: the test fails exactly where what may be asked is in time
    pub along_exactly : (overdrawn p t ≡ false) ↔ InTime (windows_of p) t (asked p t)
    along_exactly =
        let s = not_below_exactly p ok (along_table p t) t before along_ahead in (
          λ h. in_time_mono (windows_of p) t (λ k. get_or (along_table p t) k 0) (asked p t) (λ k l. omega (arith, along_asked t k l)) (s.0 h),
          λ h. s.1 (in_time_mono (windows_of p) t (asked p t) (λ k. get_or (along_table p t) k 0) (λ k l. omega (arith, along_asked t k l)) h),
        )

  table_full : p.slots ≤ length p.table
  table_full = omega (arith, ok.slots, ok.table_array)

  -- the answer from border a on is that from b on, where no border between is short
  from_past : (a b : ℕ) → a ≤ b → b ≤ p.slots → ((t : ℕ) → a ≤ t → t < b → overdrawn p t ≡ false) → overdrawn_from p b ≡ overdrawn_from p a
  unfolding accepted
  from_past a b h l good = first_past (λ t _. Overdrawn t unless not (overdrawn p t)) p.table p.slots 0 table_full (b - a) a b (omega arith) l (λ t u v. rw (good t u v))

  -- no HI job ends from a to b, and b is not short: the answer from a on is that from the border after b on
  pub past_end : (a b : ℕ) → a ≤ b → b < p.slots → NoEnd p a b → overdrawn p b ≡ false → overdrawn_from p (b + 1) ≡ overdrawn_from p a
  past_end a b h l none here =
      from_past a (b + 1) (omega arith) (omega arith)
      (λ t u v. (along_exactly t (omega arith)).1 (back_in_time p ok (b - t) t b (omega arith) (λ s k m n. none s k (omega arith) n) ((along_exactly b l).0 here)))

  -- no HI job ends from a on: accepted
  pub past_last : (a : ℕ) → a ≤ p.slots → NoEnd p a p.slots → Accepted ≡ overdrawn_from p a
  past_last a h none =
      first_end_lem (λ t _. Overdrawn t unless not (overdrawn p t)) p.table p.slots p.slots p.slots table_full (omega arith)
      ∙ from_past a p.slots h (omega arith) (λ t u v. (along_exactly t v).1 (end_in_time p ok t (omega arith) (λ s k m n. none s k (omega arith) n)))

  -- border t is short: that is the answer from here on
  pub short_here : (t : ℕ) → t < p.slots → overdrawn p t ≡ true → Overdrawn t ≡ overdrawn_from p t
  unfolding accepted
  short_here t h short = rule_found (λ t _. Overdrawn t) (λ t _. not (overdrawn p t)) p.table p.slots t t 0 table_full h refl (rw short)

  -- it is not: the answer from here on is that from the next on
  pub not_here : (t : ℕ) → t < p.slots → overdrawn p t ≡ false → overdrawn_from p (t + 1) ≡ overdrawn_from p t
  not_here t h good = rule_on (λ t _. Overdrawn t) (λ t _. not (overdrawn p t)) p.table p.slots t t 0 table_full h (rw good)

  -- no border is left
  pub none_left : (t : ℕ) → p.slots ≤ t → Accepted ≡ overdrawn_from p t
  none_left t h = first_end_lem (λ t _. Overdrawn t unless not (overdrawn p t)) p.table p.slots t t table_full h
