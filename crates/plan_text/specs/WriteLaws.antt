-- Laws of the writer's answer: it accepts exactly the plans that can be written, where there is room.
use Rattle.std.specs.Prelude.{ℕ, suc, ◌≤◌, Bool, drop, Ok, Err}
use Rattle.std.proofs.Common.{arith}
use Rattle.std.proofs.Math.Path.{◌≡◌, refl}
use Rattle.std.proofs.Math.Bool.{true, false}
use mathlib.Core.List.{List, [], ◌∷◌, ◌++◌, flat_map}
use Rattle.std.proofs.Math.ListN.{length}
use borrow.Author.Tests.{le-leb, leb-true}
use Rattle.words.specs.Words.{◌≤?◌}
use Rattle.answers.specs.Answer.{Answer, Accepted, Form, NoRoom, accepted, ◌unless◌, ◌and_then◌, first_refusal}
use Rattle.answers.specs.RefusalLaws.{both_accept}
use Rattle.plan.specs.declared.Plan.{Plan}
use Rattle.plan.specs.Limits.{max_slots, max_jobs, max_number}
use Rattle.plan.specs.Plan.{jobs_of, slots_of}
use Rattle.plan.specs.Rules.{check2, check3}
use Rattle.lines.specs.RoundLaws.{All}
use Rattle.plan_text.specs.Read.{plan_text}
use Rattle.plan_text.specs.Write.{Written, ◌and_writes◌, write_checks, numbers_on, numbers_fit, write_answer, write_out}
use Rattle.plan_text.specs.Parts.{numbers_in, four_digits, Small, Writable}
use Rattle.plan_text.specs.RoundLaws.{one_to_lem, limit_slots, limit_jobs}

-- ---- all of a list made of lists

module _ {A : Type 0} (P : A → Type 0) where
  all_append : (xs ys : List A) → All P xs → All P ys → All P (xs ++ ys)
  all_append [] ys p q = q
  all_append (x ∷ xs) ys p q = (p.0, all_append xs ys p.1 q)

  all_split : (xs ys : List A) → All P (xs ++ ys) → All P xs × All P ys
  all_split [] ys h = (tt, h)
  all_split (x ∷ xs) ys h = let r = all_split xs ys h.1 in ((h.0, r.0), r.1)

  module _ {B : Type 0} (f : B → List A) where
    all_flat : (xs : List B) → All (λ x. All P (f x)) xs → All P (flat_map f xs)
    unfolding flat_map
    all_flat [] h = tt
    all_flat (x ∷ xs) h = all_append (f x) (flat_map f xs) h.0 (all_flat xs h.1)

    all_unflat : (xs : List B) → All P (flat_map f xs) → All (λ x. All P (f x)) xs
    unfolding flat_map
    all_unflat [] h = tt
    all_unflat (x ∷ xs) h = let r = all_split (f x) (flat_map f xs) h in (r.0, all_unflat xs r.1)

-- ---- the numbers of a text

small_all : (k : ℕ) (ns : List ℕ) → accepted (first_refusal four_digits k ns) ≡ true → All Small ns
unfolding first_refusal accepted
small_all k [] h = tt
small_all k (n ∷ ns) h = step (n ≤? max_number) (leb-true n max_number) (small_all (suc k) ns) h
  where
    step : (x : Bool) → (x ≡ true → n ≤ 9999) → (accepted (first_refusal four_digits (suc k) ns) ≡ true → All Small ns)
        → accepted ((Form k unless x) and_then first_refusal four_digits (suc k) ns) ≡ true → (n ≤ 9999) × All Small ns
    step true f ih h = (f refl, ih h)
    step false f ih h = absurd (let z : ◌≡◌ {A = ℕ} 0 1 = cc in omega arith)

pub all_small : (k : ℕ) (ns : List ℕ) → All Small ns → first_refusal four_digits k ns ≡ Accepted
unfolding first_refusal accepted
all_small k [] h = refl
all_small k (n ∷ ns) h = rw (le-leb n max_number h.0) (all_small (suc k) ns h.1)

-- ---- the writer's answer

-- bytes are written only where the checks accept
writes_accepted : (checks : Answer) (bytes : ℕ) → accepted (checks and_writes bytes) ≡ true → accepted checks ≡ true
unfolding accepted
writes_accepted (Ok u) bytes h = refl
writes_accepted (Err e) bytes h = h

-- a plan that the writer accepts can be written
pub accepted_writable : (p : Plan) (room : ℕ) → accepted (write_answer p room) ≡ true → Writable p
unfolding write_answer check2 check3 numbers_fit numbers_on
accepted_writable p room h =
    let a = both_accept (check2 p) _ (writes_accepted (write_checks p room) _ h) in
    let b = both_accept (check3 p) _ a.1 in
    let c = both_accept (numbers_fit p) _ b.1 in
    let s = (small_all 1 (numbers_on p) c.0).1.1 in
    let t = all_split Small (flat_map numbers_in (jobs_of p)) (slots_of p) s in
    record { slots_fit = limit_slots _ a.0; jobs_fit = limit_jobs _ b.0; small_jobs = all_unflat Small numbers_in (jobs_of p) t.0; small_slots = t.1 }

module _ (p : Plan) (w : Writable p) where
  numbers_fit_lem : numbers_fit p ≡ Accepted
  unfolding numbers_fit numbers_on
  numbers_fit_lem =
      all_small 1 (numbers_on p) (
        omega (arith, one_to_lem max_slots p.slots w.slots_fit),
        (
          omega (arith, one_to_lem max_jobs p.jobs w.jobs_fit),
          all_append Small (flat_map numbers_in (jobs_of p)) (slots_of p) (all_flat Small numbers_in (jobs_of p) w.small_jobs) w.small_slots,
        ),
      )

  -- an accepted write had room for the text
  pub accepted_room : (room : ℕ) → accepted (write_answer p room) ≡ true → length (plan_text p) ≤ room
  unfolding write_answer check2 check3 accepted
  accepted_room room h = fits_room (length (plan_text p) ≤? room) (leb-true (length (plan_text p)) room) (rw (w.slots_fit, w.jobs_fit, numbers_fit_lem) at h)
    where
      fits_room : (x : Bool) → (x ≡ true → length (plan_text p) ≤ room) → accepted ((NoRoom (length (plan_text p)) unless x) and_writes length (plan_text p)) ≡ true → length (plan_text p) ≤ room
      fits_room true f h = f refl
      fits_room false f h = absurd (let z : ◌≡◌ {A = ℕ} 0 1 = cc in omega arith)

  -- a plan that can be written is accepted where its text has room
  pub writable_answer : (room : ℕ) → length (plan_text p) ≤ room → write_answer p room ≡ Written (length (plan_text p))
  unfolding write_answer check2 check3 accepted
  writable_answer room h = rw (w.slots_fit, w.jobs_fit, numbers_fit_lem, le-leb (length (plan_text p)) room h)

  pub writable_out : (out : List ℕ) → length (plan_text p) ≤ length out → write_out p out ≡ plan_text p ++ drop (length (plan_text p)) out
  unfolding write_out accepted
  writable_out out h = rw (writable_answer (length out) h)
