-- Laws of one step, for the loops over a run's jobs: entries that expire, the return test, work stored job by job.
use Rattle.std.specs.Prelude.{ℕ, zero, suc, ◌+◌, ◌-◌, ◌≤◌, ◌<◌, Bool, true, false, ◌&&◌, ◌≡◌, refl, List, [], ◌∷◌, take, get_or, set}
use Rattle.std.proofs.Common.{not-suc-le-zero, le_of_suc-le-suc, ap}
use Rattle.std.proofs.lemmas.List.{get_or_past}
use Rattle.std.proofs.Math.Numerals.{add-one}
use Rattle.std.specs.List.{list_all, zip}
use Rattle.std.proofs.Math.ListN.{length}
use Rattle.plan.specs.declared.Job.{Job}
use Rattle.plan.specs.Plan.{blank_job}
use Rattle.words.specs.Words.{◌≤?◌}
use Rattle.entries.specs.declared.Entry.{Entry}
use Rattle.executive.specs.declared.Run.{Run}
use Rattle.ready.specs.declared.Slot.{Slot}
use Rattle.entries.specs.declared.Kind.{Kind}
use Rattle.entries.specs.Entry.{live, fresh_entry, expired_entry, past_lo, settled}
use Rattle.executive.specs.Step.{reported, expired_entries, expired, overrun, every_settled, judged, refreshed, next_run}

-- one entry more has met its border
expired_next : (t i : ℕ) (js : List Job) (es : List Entry) (j : Job) (e : Entry) → i < length js → i < length es → set (expired_entries t (take i js) es) i (expired_entry t (get_or js i j) (get_or (expired_entries t (take i js) es) i e)) ≡ expired_entries t (take (suc i) js) es
unfolding expired_entries
expired_next t i [] es j e h k = absurd (not-suc-le-zero h)
expired_next t i (x ∷ js) [] j e h k = absurd (not-suc-le-zero k)
expired_next t zero (x ∷ js) (y ∷ es) j e h k = refl
expired_next t (suc i) (x ∷ js) (y ∷ es) j e h k = ap (λ (l : List Entry). expired_entry t x y ∷ l) (expired_next t i js es j e (le_of_suc-le-suc h) (le_of_suc-le-suc k))

-- one turn over the entries
pub expired_turn : (t i : ℕ) (js : List Job) (es next : List Entry) (j : Job) (e x : Entry) → i < length js → i < length es → next ≡ expired_entries t (take i js) es → x ≡ expired_entry t (get_or js i j) (get_or next i e) → set next i x ≡ expired_entries t (take (i + 1) js) es
expired_turn t i js es next j e x h k p q = rw (q, p, add-one i) (expired_next t i js es j e h k)

-- the return test is the library's test of all
pub every_settled_all : (js : List Job) (es : List Entry) (cs : List ℕ) → list_all (λ (p : (Job × Entry) × ℕ). settled p.0.0 p.0.1 p.1) (zip (zip js es) cs) ≡ every_settled js es cs
unfolding every_settled
every_settled_all [] es cs = refl
every_settled_all (j ∷ js) [] cs = refl
every_settled_all (j ∷ js) (e ∷ es) [] = refl
every_settled_all (j ∷ js) (e ∷ es) (c ∷ cs) = ap (settled j e c &&◌) (every_settled_all js es cs)

never : (b c : Bool) → (b && false && c) ≡ false
never false c = refl
never true false = refl
never true true = refl

module _ (r : Run) (slot : Slot) (k i : ℕ) (p : slot ≡ Slot.Job k) (q : i ≡ k - 1) where
  -- a number beyond the jobs has the blank job, a LO one
  pub none_beyond : length r.plan.job ≤ i → overrun r slot ≡ false
  unfolding overrun past_lo
  none_beyond h = rw (p, ← q, get_or_past r.plan.job i blank_job h) (never (live (get_or r.entry i fresh_entry)) (blank_job.lo ≤? (get_or r.entry i fresh_entry).given))

-- no part of a step touches the plan
pub told_plan : (r told : Run) (slot : Slot) (kind : Kind) → told ≡ reported r slot kind → told.plan ≡ r.plan
unfolding reported
told_plan r told slot kind e = ap (λ (x : Run). x.plan) e

pub left_plan : (r left : Run) → left ≡ expired r → left.plan ≡ r.plan
unfolding expired
left_plan r left e = ap (λ (x : Run). x.plan) e

pub after_plan : (r after : Run) (slot : Slot) → after ≡ judged r slot → after.plan ≡ r.plan
unfolding judged
after_plan r after slot e = ap (λ (x : Run). x.plan) e

-- the parts make the next run
pub next_of : (r told left after : Run) (slot : Slot) (kind : Kind) → told ≡ reported r slot kind → left ≡ expired told → after ≡ judged left slot → (next : Run) → next ≡ refreshed after → next ≡ next_run r slot kind
unfolding next_run
next_of r told left after slot kind e e' e'' next h = rw (h, e'', e', e)
