-- Laws of the choice: the table's slot, any other slot of phase T, and the two lines of phase H, from what the code has worked out.
use Rattle.std.specs.Prelude.{ℕ, ◌-◌, Bool, not, ◌&&◌, ◌≡◌, get_or}
use Rattle.std.proofs.Math.Bool.{true, false}
use Rattle.std.proofs.Common.{sym, ap, ◌∙◌, arith}
use Rattle.ready.specs.ReadyLaws.{walk_members, ones_set}
use Rattle.words.specs.Words.{◌≤?◌, below0, above0}
use Rattle.plan.specs.Limits.{max_jobs}
use Rattle.std.specs.Int.Count.{ones}
use Rattle.spares.specs.Spares.{Spare}
use Rattle.answers.specs.Answer.{Accepted}
use Rattle.executive.specs.declared.Choice.{Choice}
use Rattle.executive.specs.declared.Run.{Run}
use Rattle.ready.specs.declared.Slot.{Slot}
use Rattle.entries.specs.Entry.{live, fresh_entry}
use Rattle.executive.specs.Run.{current_hi, current_lo}
use Rattle.ready.specs.Ready.{set_of, members_of, how_many, earliest}
use Rattle.executive.specs.Choice.{ready, members, chosen_t, chosen_h, chosen, made_choice}
use Rattle.executive.specs.MemberLaws.{Full, members_all, members_hi, members_length}

-- the slot from the set
from_set : (hi : Bool) (r : Run) (set : ℕ) (slot : Slot) → Full r → set ≡ set_of (members hi r) → slot ≡ earliest r.plan.job (members_of max_jobs set) → slot ≡ earliest r.plan.job (members hi r)
from_set hi r set slot full p q = q ∙ ap (λ (n : ℕ). earliest r.plan.job (members_of max_jobs n)) p ∙ (let l = members_length hi r full in walk_members r.plan.job max_jobs (members hi r) (omega arith))

module _ (r : Run) (t i : ℕ) (has : Bool) (et : t ≡ r.t) (ei : i ≡ get_or r.plan.table t 0 - 1)
    (eh : has ≡ ((1 ≤? get_or r.plan.table t 0) && live (get_or r.entry i fresh_entry))) where
  table_test : (b : Bool) → has ≡ b → ((1 ≤? get_or r.plan.table r.t 0) && live (get_or r.entry (get_or r.plan.table r.t 0 - 1) fresh_entry)) ≡ b
  table_test b p = rw (ei, et) at (sym eh ∙ p)

  -- the table's job is live
  pub table_slot : has ≡ true → Slot.Job (get_or r.plan.table t 0) ≡ chosen_t r
  unfolding chosen_t
  table_slot p = rw (table_test true p, et)

  -- it is not: the earliest-deadline ready job
  pub other_slot : has ≡ false → (set : ℕ) (slot : Slot) → Full r → set ≡ set_of (members false r) → slot ≡ earliest r.plan.job (members_of max_jobs set) → slot ≡ chosen_t r
  unfolding chosen_t
  other_slot p set slot full q s = rw (table_test false p, ← members_all r) (from_set false r set slot full q s)

-- phase H: the current spares say whether all ready jobs or the ready HI jobs are asked
module _ (r : Run) (hi lo : Spare) (all : Bool) (set : ℕ) (slot : Slot) (eh : hi ≡ current_hi r) (el : lo ≡ current_lo r)
    (ea : all ≡ (above0 hi && not (below0 lo))) (full : Full r) where
  spare_test : (b : Bool) → all ≡ b → (above0 (current_hi r) && not (below0 (current_lo r))) ≡ b
  spare_test b p = rw (eh, el) at (sym ea ∙ p)

  pub open_slot : all ≡ true → set ≡ set_of (members false r) → slot ≡ earliest r.plan.job (members_of max_jobs set) → slot ≡ chosen_h r
  unfolding chosen_h
  open_slot p q s = rw (spare_test true p, ← members_all r) (from_set false r set slot full q s)

  pub hi_slot : all ≡ false → set ≡ set_of (members true r) → slot ≡ earliest r.plan.job (members_of max_jobs set) → slot ≡ chosen_h r
  unfolding chosen_h
  hi_slot p q s = rw (spare_test false p, ← members_hi r) (from_set true r set slot full q s)

-- the choice, from what the code has worked out
pub choice_is : (r : Run) (slot : Slot) (set : ℕ) (hi lo : Spare) → slot ≡ chosen r → set ≡ set_of (members false r) → hi ≡ current_hi r → lo ≡ current_lo r
    → ◌≡◌ {A = Choice} (record { answer = Accepted; slot = slot; ready = ones set; hi = hi; lo = lo }) (made_choice r)
unfolding made_choice
choice_is r slot set hi lo es en eh el =
    let n : ones set ≡ how_many (ready r) = ap ones en ∙ ones_set (members false r) ∙ ap how_many (members_all r) in
    rw (es, n, eh, el)
