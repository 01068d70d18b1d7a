-- Laws for the writer's code: the numbers checked line by line, the lengths, the lines put one after the other, and one check after another.
use Rattle.std.specs.Prelude.{ℕ, suc, ◌+◌, ◌*◌, ◌/◌, ◌≤◌, ◌<◌, ◌≡◌, Bool, true, take, drop, get_or, Ok, Err}
use Rattle.std.proofs.Common.{add-one, zero-add, arith, ◌∙◌, length-append, drop_of_length-le, drop-cons, take-suc}
use Rattle.std.proofs.lemmas.List.{take_all, take-append-drop}
use Rattle.std.proofs.Math.Numerals.{add-two, add-three, add-four}
use Rattle.std.proofs.Math.Decide.{dec_lt}
use Rattle.std.proofs.Math.Path.{refl, sym, ap}
use Rattle.std.proofs.Math.Bool.{false}
use mathlib.Core.List.{List, [], ◌∷◌, ◌++◌, flat_map, append_assoc, append-nil}
use Rattle.std.specs.List.{sum_by}
use Rattle.std.proofs.lemmas.List.Sums.{sum_by-cons}
use Rattle.std.proofs.Math.ListN.{length}
use borrow.Author.Tests.{le-leb, lt-leb}
use Rattle.words.specs.Words.{◌≤?◌}
use Rattle.answers.specs.declared.Refusal.{Refusal}
use Rattle.answers.specs.Answer.{Answer, Accepted, Form, accepted, ◌unless◌, ◌and_then◌, first_refusal}
use Rattle.plan.specs.declared.Level.{Level}
use Rattle.plan.specs.declared.Level.TheVariants.{Lo, Hi}
use Rattle.plan.specs.declared.Job.{Job}
use Rattle.plan.specs.declared.Plan.{Plan}
use Rattle.plan.specs.Limits.{max_number}
use Rattle.plan.specs.Plan.{jobs_of, slots_of}
use Rattle.plan.specs.Rules.{check2, check3}
use Rattle.lines.specs.Lines.{bytes, line, number_line, digits}
use Rattle.lines.specs.NumberLaws.{digits_one, digits_few}
use Rattle.lines.specs.Writing.{put_fit, place_after}
use Rattle.lines.specs.WritingLaws.{digits_shorter, line_length_lem, first_room, then_room, fit_then, after_fits, put_fits, put_start}
use Rattle.plan_text.specs.Read.{level_text, job_text, plan_text}
use Rattle.plan_text.specs.Write.{Written, numbers_on, numbers_fit, write_answer}
use Rattle.plan_text.specs.Parts.{numbers_in, four_digits}

-- ---- the checks in the order of the code

-- the numbers of a job: each line in turn
pub job_in_turn : (k : ℕ) (j : Job) → first_refusal four_digits k (numbers_in j)
    ≡ (four_digits (k + 1) j.release and_then four_digits (k + 2) j.deadline and_then four_digits (k + 3) j.lo and_then four_digits (k + 4) j.hi)
unfolding first_refusal accepted
job_in_turn k j = rw (add-one, add-two, add-three, add-four) (ap (λ (a : Answer). four_digits (suc k) j.release and_then four_digits (suc (suc k)) j.deadline and_then four_digits (suc (suc (suc k))) j.lo and_then a) (last (four_digits (suc (suc (suc (suc k)))) j.hi)))
  where
    last : (a : Answer) → (a and_then Accepted) ≡ a
    last (Ok u) = refl
    last (Err e) = refl

-- the first refusal along one list and then another
first_append : (k : ℕ) (xs ys : List ℕ) → first_refusal four_digits k (xs ++ ys) ≡ (first_refusal four_digits k xs and_then first_refusal four_digits (k + length xs) ys)
unfolding first_refusal accepted
first_append k [] ys = ap (λ (n : ℕ). first_refusal four_digits n ys) (omega arith)
first_append k (x ∷ xs) ys =
    let n : suc k + length xs ≡ k + suc (length xs) = omega arith in
    step (x ≤? max_number) (first_append (suc k) xs ys ∙ ap (λ (m : ℕ). first_refusal four_digits (suc k) xs and_then first_refusal four_digits m ys) n)
  where
    step : (b : Bool) → first_refusal four_digits (suc k) (xs ++ ys) ≡ (first_refusal four_digits (suc k) xs and_then first_refusal four_digits (k + suc (length xs)) ys)
        → ((Form k unless b) and_then first_refusal four_digits (suc k) (xs ++ ys)) ≡ (((Form k unless b) and_then first_refusal four_digits (suc k) xs) and_then first_refusal four_digits (k + suc (length xs)) ys)
    step true ih = ih
    step false ih = refl

-- each job has five lines
five : (js : List Job) → length (flat_map numbers_in js) ≡ 5 * length js
unfolding flat_map
five [] = refl
five (j ∷ js) = omega (arith, length-append (numbers_in j) (flat_map numbers_in js), five js)

module _ (p : Plan) where
  -- the numbers of slots and of jobs, on the first two lines
  pub slots_stop : (r : Refusal) → four_digits 1 p.slots ≡ Err r → Err r ≡ numbers_fit p
  unfolding numbers_fit numbers_on first_refusal accepted
  slots_stop r f = sym (rw f)

  module _ (one : four_digits 1 p.slots ≡ Accepted) where
    pub jobs_stop : (r : Refusal) → four_digits 2 p.jobs ≡ Err r → Err r ≡ numbers_fit p
    unfolding numbers_fit numbers_on first_refusal accepted
    jobs_stop r f = sym (rw (one, f))

    -- the others: the jobs' from line 3 on, then the slots'
    pub numbers_parts : four_digits 2 p.jobs ≡ Accepted
        → numbers_fit p ≡ (first_refusal four_digits 3 (flat_map numbers_in (jobs_of p)) and_then first_refusal four_digits (3 + 5 * length (jobs_of p)) (slots_of p))
    unfolding numbers_fit numbers_on first_refusal accepted
    numbers_parts two =
        let n : 3 + length (flat_map numbers_in (jobs_of p)) ≡ 3 + 5 * length (jobs_of p) = omega (arith, five (jobs_of p)) in
        rw (one, two) (first_append 3 (flat_map numbers_in (jobs_of p)) (slots_of p)
        ∙ ap (λ (k : ℕ). first_refusal four_digits 3 (flat_map numbers_in (jobs_of p)) and_then first_refusal four_digits k (slots_of p)) n)

-- the jobs from i on, with the rest of the answer: job i and then the others
module _ (w rest : Answer) (js : List Job) (z : Job) (i k : ℕ) (h : i < length js) (e : w ≡ (first_refusal four_digits k (flat_map numbers_in (drop i js)) and_then rest)) where
  job_first : first_refusal four_digits k (flat_map numbers_in (drop i js))
      ≡ (first_refusal four_digits k (numbers_in (get_or js i z)) and_then first_refusal four_digits (k + 5) (flat_map numbers_in (drop (i + 1) js)))
  unfolding flat_map
  job_first = rw (add-one i, drop-cons js i z h) (first_append k (numbers_in (get_or js i z)) (flat_map numbers_in (drop (suc i) js)))

  pub job_stops : (r : Refusal) → first_refusal four_digits k (numbers_in (get_or js i z)) ≡ Err r → Err r ≡ w
  unfolding accepted
  job_stops r f = sym (e ∙ rw (job_first, f))

  pub job_goes_on : first_refusal four_digits k (numbers_in (get_or js i z)) ≡ Accepted → w ≡ (first_refusal four_digits (k + 5) (flat_map numbers_in (drop (i + 1) js)) and_then rest)
  unfolding accepted
  job_goes_on f = e ∙ rw (job_first, f)

-- no job is left
pub jobs_end : (w rest : Answer) (js : List Job) (i k : ℕ) → length js ≤ i → w ≡ (first_refusal four_digits k (flat_map numbers_in (drop i js)) and_then rest) → w ≡ rest
unfolding flat_map first_refusal accepted
jobs_end w rest js i k h e = rw (drop_of_length-le js h) at e

-- the slots from i on: slot i and then the others
module _ (w : Answer) (xs : List ℕ) (i k : ℕ) (h : i < length xs) (e : w ≡ first_refusal four_digits k (drop i xs)) where
  slot_first : first_refusal four_digits k (drop i xs) ≡ (four_digits k (get_or xs i 0) and_then first_refusal four_digits (k + 1) (drop (i + 1) xs))
  unfolding first_refusal
  slot_first = rw (add-one i, add-one k, drop-cons xs i 0 h)

  pub slot_stops : (r : Refusal) → four_digits k (get_or xs i 0) ≡ Err r → Err r ≡ w
  unfolding accepted
  slot_stops r f = sym (e ∙ slot_first ∙ rw f)

  pub slot_goes_on : four_digits k (get_or xs i 0) ≡ Accepted → w ≡ first_refusal four_digits (k + 1) (drop (i + 1) xs)
  unfolding accepted
  slot_goes_on f = e ∙ slot_first ∙ rw f

-- no slot is left
pub slots_end : (w : Answer) (xs : List ℕ) (i k : ℕ) → length xs ≤ i → w ≡ first_refusal four_digits k (drop i xs) → Accepted ≡ w
unfolding first_refusal
slots_end w xs i k h e = sym (rw (drop_of_length-le xs h) at e)

-- ---- lengths

-- a number of 16 bits has at most five digits
pub digits_five : (n : ℕ) → n < 65536 → length (digits n) ≤ 5
digits_five n h =
    elim (dec_lt n 10) [
      | yes s ↦ rw (digits_one n s) (omega arith)
      | no s ↦ omega (arith, digits_shorter n (omega arith), digits_few (n / 10) (omega arith))
    ]

pub job_length : (j : Job) → length (job_text j) ≡ 36 + length (digits j.release) + length (digits j.deadline) + length (digits j.lo) + length (digits j.hi)
unfolding job_text
job_length j =
    let A : List ℕ = line "level=" (level_text j.level) in
    let B : List ℕ = number_line "release=" j.release in
    let C : List ℕ = number_line "deadline=" j.deadline in
    let D : List ℕ = number_line "lo=" j.lo in
    let E : List ℕ = number_line "hi=" j.hi in
    sum_of A B C D E (length (digits j.release)) (length (digits j.deadline)) (length (digits j.lo)) (length (digits j.hi)) (level j.level) (line_length_lem (bytes "release=") j.release) (line_length_lem (bytes "deadline=") j.deadline) (line_length_lem (bytes "lo=") j.lo) (line_length_lem (bytes "hi=") j.hi)
  where
    level : (v : Level) → length (line "level=" (level_text v)) ≡ 9
    level Hi = refl
    level Lo = refl

    sum_of : (a b c d e : List ℕ) (p q r s : ℕ) → length a ≡ 9 → length b ≡ 8 + p + 1 → length c ≡ 9 + q + 1 → length d ≡ 3 + r + 1 → length e ≡ 3 + s + 1
        → length (a ++ b ++ c ++ d ++ e) ≡ 36 + p + q + r + s
    sum_of a b c d e p q r s f g h i k = omega (arith, length-append (a ++ b ++ c ++ d) e, length-append (a ++ b ++ c) d, length-append (a ++ b) c, length-append a b)

pub slot_length : (n : ℕ) → length (number_line "slot=" n) ≡ 6 + length (digits n)
slot_length n = omega (arith, line_length_lem (bytes "slot=") n)

-- the texts of many have their lengths' sum
length_flat : {A : Type 0} (print : A → List ℕ) (xs : List A) → length (flat_map print xs) ≡ sum_by (λ x. length (print x)) xs
unfolding flat_map
length_flat print [] = refl
length_flat print (x ∷ xs) = length-append (print x) (flat_map print xs) ∙ ap (λ (n : ℕ). length (print x) + n) (length_flat print xs) ∙ sym (sum_by-cons (λ y. length (print y)) x xs)

pub text_length : (p : Plan) → length (plan_text p)
    ≡ 13 + length (digits p.slots) + length (digits p.jobs) + sum_by (λ j. length (job_text j)) (jobs_of p) + sum_by (λ n. length (number_line "slot=" n)) (slots_of p)
unfolding plan_text
text_length p =
    sum_of (number_line "slots=" p.slots) (number_line "jobs=" p.jobs) (flat_map job_text (jobs_of p)) (flat_map (number_line "slot=") (slots_of p))
    (length (digits p.slots)) (length (digits p.jobs)) _ _ (line_length_lem (bytes "slots=") p.slots) (line_length_lem (bytes "jobs=") p.jobs)
    (length_flat job_text (jobs_of p)) (length_flat (number_line "slot=") (slots_of p))
  where
    sum_of : (a b c d : List ℕ) (m n k l : ℕ) → length a ≡ 6 + m + 1 → length b ≡ 5 + n + 1 → length c ≡ k → length d ≡ l → length (a ++ b ++ c ++ d) ≡ 13 + m + n + k + l
    sum_of a b c d m n k l e f g h = omega (arith, length-append (a ++ b ++ c) d, length-append (a ++ b) c, length-append a b)

-- ---- pieces one after the other, with room for all

module _ (at : ℕ) (a b c d out : List ℕ) (room : at + length (a ++ b ++ c ++ d) ≤ length out) where
  pub four_pieces : (p₁ p₂ p₃ p₄ : ℕ) (o₁ o₂ o₃ o₄ : List ℕ) → p₁ ≡ place_after at a out → o₁ ≡ put_fit at a out → p₂ ≡ place_after p₁ b o₁ → o₂ ≡ put_fit p₁ b o₁
      → p₃ ≡ place_after p₂ c o₂ → o₃ ≡ put_fit p₂ c o₂ → p₄ ≡ place_after p₃ d o₃ → o₄ ≡ put_fit p₃ d o₃
      → (p₄ ≡ place_after at (a ++ b ++ c ++ d) out) × (o₄ ≡ put_fit at (a ++ b ++ c ++ d) out)
  four_pieces p₁ p₂ p₃ p₄ o₁ o₂ o₃ o₄ e₁ f₁ e₂ f₂ e₃ f₃ e₄ f₄ =
      let r₃ : at + length (a ++ b ++ c) ≤ length out = first_room at (a ++ b ++ c) d out room in
      let r₂ : at + length (a ++ b) ≤ length out = first_room at (a ++ b) c out r₃ in
      let x = fit_then at a b out r₂ p₁ p₂ o₁ o₂ e₁ f₁ e₂ f₂ in
      let y = fit_then at (a ++ b) c out r₃ p₂ p₃ o₂ o₃ x.0 x.1 e₃ f₃ in
      fit_then at (a ++ b ++ c) d out room p₃ p₄ o₃ o₄ y.0 y.1 e₄ f₄

pub job_pieces : (at : ℕ) (j : Job) (out : List ℕ) → at + length (job_text j) ≤ length out
    → (p₁ p₂ p₃ p₄ p₅ : ℕ) (o₁ o₂ o₃ o₄ o₅ : List ℕ)
    → p₁ ≡ place_after at (line "level=" (level_text j.level)) out → o₁ ≡ put_fit at (line "level=" (level_text j.level)) out
    → p₂ ≡ place_after p₁ (number_line "release=" j.release) o₁ → o₂ ≡ put_fit p₁ (number_line "release=" j.release) o₁
    → p₃ ≡ place_after p₂ (number_line "deadline=" j.deadline) o₂ → o₃ ≡ put_fit p₂ (number_line "deadline=" j.deadline) o₂
    → p₄ ≡ place_after p₃ (number_line "lo=" j.lo) o₃ → o₄ ≡ put_fit p₃ (number_line "lo=" j.lo) o₃
    → p₅ ≡ place_after p₄ (number_line "hi=" j.hi) o₄ → o₅ ≡ put_fit p₄ (number_line "hi=" j.hi) o₄
    → (p₅ ≡ place_after at (job_text j) out) × (o₅ ≡ put_fit at (job_text j) out)
unfolding job_text
job_pieces at j out room p₁ p₂ p₃ p₄ p₅ o₁ o₂ o₃ o₄ o₅ e₁ f₁ e₂ f₂ e₃ f₃ e₄ f₄ e₅ f₅ =
    let A : List ℕ = line "level=" (level_text j.level) in
    let B : List ℕ = number_line "release=" j.release in
    let C : List ℕ = number_line "deadline=" j.deadline in
    let D : List ℕ = number_line "lo=" j.lo in
    let E : List ℕ = number_line "hi=" j.hi in
    let x = four_pieces at A B C D out (first_room at (A ++ B ++ C ++ D) E out room) p₁ p₂ p₃ p₄ o₁ o₂ o₃ o₄ e₁ f₁ e₂ f₂ e₃ f₃ e₄ f₄ in
    fit_then at (A ++ B ++ C ++ D) E out room p₄ p₅ o₄ o₅ x.0 x.1 e₅ f₅

-- the lines of many things, one after the other behind a text that is already there
module _ {A : Type 0} (print : A → List ℕ) where
  flat_append : (xs ys : List A) → flat_map print (xs ++ ys) ≡ flat_map print xs ++ flat_map print ys
  unfolding flat_map
  flat_append [] ys = refl
  flat_append (x ∷ xs) ys = ap (λ (r : List ℕ). print x ++ r) (flat_append xs ys) ∙ sym (append_assoc (print x) (flat_map print xs) (flat_map print ys))

  module _ (xs : List A) (head out₀ : List ℕ) where
    -- the text so far
    abbrev first : ℕ → List ℕ
    first i = head ++ flat_map print (take i xs)

    pub many_none : (p : ℕ) (out : List ℕ) → p ≡ place_after 0 head out₀ → out ≡ put_fit 0 head out₀ → (p ≡ place_after 0 (first 0) out₀) × (out ≡ put_fit 0 (first 0) out₀)
    unfolding flat_map
    many_none p out e f = rw (append-nil head) (e, f)

    pub many_all : (p i : ℕ) (out : List ℕ) → length xs ≤ i → p ≡ place_after 0 (first i) out₀ → out ≡ put_fit 0 (first i) out₀
        → (p ≡ place_after 0 (head ++ flat_map print xs) out₀) × (out ≡ put_fit 0 (head ++ flat_map print xs) out₀)
    many_all p i out h e f = (rw (take_all i xs h) at e, rw (take_all i xs h) at f)

    module _ (z : A) (room : length (head ++ flat_map print xs) ≤ length out₀) (p i : ℕ) (out : List ℕ) (h : i < length xs) (e : p ≡ place_after 0 (first i) out₀) (f : out ≡ put_fit 0 (first i) out₀) where
      abbrev next : List ℕ
      next = print (get_or xs i z)

      first_more : first (i + 1) ≡ first i ++ next
      unfolding flat_map
      first_more =
          ap (λ (k : ℕ). first k) (add-one i) ∙ ap (λ (ys : List A). head ++ flat_map print ys) (take-suc xs i z h) ∙ ap (λ (r : List ℕ). head ++ r) (flat_append (take i xs) (get_or xs i z ∷ []))
          ∙ ap (λ (r : List ℕ). head ++ (flat_map print (take i xs) ++ r)) (append-nil next) ∙ sym (append_assoc head (flat_map print (take i xs)) next)

      next_fits : 0 + length (first i ++ next) ≤ length out₀
      next_fits =
          let q = ap length (ap (λ (ys : List A). flat_map print ys) (sym (take-append-drop (i + 1) xs)) ∙ flat_append (take (i + 1) xs) (drop (i + 1) xs)) in
          omega (arith, q, ap length first_more, length-append {A = ℕ})

      -- the next has room
      pub many_room : p + length next ≤ length out
      many_room = then_room 0 (first i) next out₀ next_fits p out e f

      pub many_more : (r : ℕ) (out' : List ℕ) → r ≡ place_after p next out → out' ≡ put_fit p next out → (r ≡ place_after 0 (first (i + 1)) out₀) × (out' ≡ put_fit 0 (first (i + 1)) out₀)
      many_more r out' er ef = rw first_more (fit_then 0 (first i) next out₀ next_fits p r out out' e f er ef)

-- the text of a plan: its two first lines, its jobs and its slots
unfoldable pub heads : Plan → List ℕ
heads p = number_line "slots=" p.slots ++ number_line "jobs=" p.jobs

module _ (p : Plan) (out : List ℕ) (room : length (plan_text p) ≤ length out) where
  pub slots_room : length (heads p ++ flat_map job_text (jobs_of p) ++ flat_map (number_line "slot=") (slots_of p)) ≤ length out
  unfolding plan_text heads
  slots_room = room

  pub jobs_room : length (heads p ++ flat_map job_text (jobs_of p)) ≤ length out
  jobs_room = omega (arith, slots_room, length-append (heads p ++ flat_map job_text (jobs_of p)) (flat_map (number_line "slot=") (slots_of p)))

  pub heads_written : (p₁ p₂ : ℕ) (o₁ o₂ : List ℕ) → p₁ ≡ place_after 0 (number_line "slots=" p.slots) out → o₁ ≡ put_fit 0 (number_line "slots=" p.slots) out
      → p₂ ≡ place_after p₁ (number_line "jobs=" p.jobs) o₁ → o₂ ≡ put_fit p₁ (number_line "jobs=" p.jobs) o₁ → (p₂ ≡ place_after 0 (heads p) out) × (o₂ ≡ put_fit 0 (heads p) out)
  unfolding heads
  heads_written p₁ p₂ o₁ o₂ e₁ f₁ e₂ f₂ =
      let A : List ℕ = number_line "slots=" p.slots in
      let B : List ℕ = number_line "jobs=" p.jobs in
      fit_then 0 A B out (omega (arith, jobs_room, length-append (A ++ B) (flat_map job_text (jobs_of p)))) p₁ p₂ o₁ o₂ e₁ f₁ e₂ f₂

  -- the whole text is written
  pub plan_written : (n : ℕ) (out' : List ℕ) → n ≡ place_after 0 (heads p ++ flat_map job_text (jobs_of p) ++ flat_map (number_line "slot=") (slots_of p)) out
      → out' ≡ put_fit 0 (heads p ++ flat_map job_text (jobs_of p) ++ flat_map (number_line "slot=") (slots_of p)) out
      → (n ≡ length (plan_text p)) × (out' ≡ plan_text p ++ drop (length (plan_text p)) out)
  unfolding plan_text heads
  plan_written n out' e f =
      let w : 0 + length (plan_text p) ≤ length out = omega arith in (
        e ∙ after_fits 0 (plan_text p) out w ∙ zero-add (length (plan_text p)),
        f ∙ put_fits 0 (plan_text p) out w ∙ put_start (plan_text p) out,
      )

-- ---- the writer's ways out

-- the answer at each way out
module _ (p : Plan) (room : ℕ) where
  pub ends_2 : (e : Refusal) → check2 p ≡ Err e → write_answer p room ≡ Err e
  unfolding write_answer accepted
  ends_2 e f = rw f

  module _ (ok2 : check2 p ≡ Accepted) where
    pub ends_3 : (e : Refusal) → check3 p ≡ Err e → write_answer p room ≡ Err e
    unfolding write_answer accepted
    ends_3 e f = rw (ok2, f)

    module _ (ok3 : check3 p ≡ Accepted) where
      pub ends_1 : (e : Refusal) → numbers_fit p ≡ Err e → write_answer p room ≡ Err e
      unfolding write_answer accepted
      ends_1 e f = rw (ok2, ok3, f)

      module _ (ok1 : numbers_fit p ≡ Accepted) where
        pub ends_14 : room < length (plan_text p) → write_answer p room ≡ Err (Refusal.NoRoom (length (plan_text p)))
        unfolding write_answer accepted
        ends_14 h = rw (ok2, ok3, ok1, lt-leb (length (plan_text p)) room h)

        pub ends_written : length (plan_text p) ≤ room → write_answer p room ≡ Written (length (plan_text p))
        unfolding write_answer accepted
        ends_written h = rw (ok2, ok3, ok1, le-leb (length (plan_text p)) room h)
