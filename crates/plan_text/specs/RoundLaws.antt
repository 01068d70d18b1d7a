-- Laws of the round trip, line by line: levels, jobs, plans. The theorems are in RoundTrip.
use Rattle.std.specs.Prelude.{ℕ, suc, ◌≤◌, ◌≡◌, refl, Bool, true, false, ◌&&◌, length, if◌then◌else◌}
use Rattle.std.proofs.Common.{arith, sym, ap, ◌∙◌, take_at, eqb-true, leb-true}
use mathlib.Core.List.{List, [], ◌∷◌, ◌++◌, flat_map, append_assoc}
use Rattle.std.specs.Prelude.{None, Some}
use Rattle.words.specs.Words.{◌≤?◌, ◌=?◌, filled}
use Rattle.answers.specs.Answer.{Answer, SlotLimit, JobLimit, accepted, ◌unless◌}
use Rattle.plan.specs.declared.Level.{Level}
use Rattle.plan.specs.declared.Level.TheVariants.{Lo, Hi}
use Rattle.plan.specs.declared.Job.{Job}
use Rattle.plan.specs.declared.Plan.{Plan}
use Rattle.plan.specs.Limits.{max_slots, max_jobs, one_to}
use Rattle.plan.specs.Plan.{jobs_of, slots_of, blank_job}
use Rattle.lines.specs.Lines.{bytes, line, number_line, same_bytes, number, Cursor, got, give, must, many, field}
use Rattle.lines.specs.NumberLaws.{nothing}
use Rattle.lines.specs.RoundLaws.{cursor, plain, got_same, onward_there, onward_back, field_there, field_back, Undoes, number_undoes, All, many_there, many_back, must_there, must_back}
use Rattle.plan_text.specs.Parts.{Small, SmallJob, Writable, cleared}
use Rattle.plan_text.specs.Read.{level_text, job_text, plan_text, level_in, next_job, next_plan}

-- ---- levels

same_bytes_lem : (s t : List ℕ) → same_bytes s t ≡ true → s ≡ t
unfolding same_bytes
same_bytes_lem [] [] h = refl
same_bytes_lem [] (b ∷ t) h = absurd (let z : ◌≡◌ {A = ℕ} 0 1 = cc in omega arith)
same_bytes_lem (a ∷ s) [] h = absurd (let z : ◌≡◌ {A = ℕ} 0 1 = cc in omega arith)
same_bytes_lem (a ∷ s) (b ∷ t) h = step (a =? b) (eqb-true a b) (same_bytes_lem s t) h
  where
    step : (x : Bool) → (x ≡ true → a ≡ b) → (same_bytes s t ≡ true → s ≡ t) → (x && same_bytes s t) ≡ true → a ∷ s ≡ b ∷ t
    step true f ih h = rw (f refl, ih h)
    step false f ih h = absurd (let z : ◌≡◌ {A = ℕ} 0 1 = cc in omega arith)

level_there : (v : Level) → level_in (level_text v) ≡ Some v
unfolding level_in same_bytes
level_there Hi = refl
level_there Lo = refl

level_back : (s : List ℕ) (v : Level) → level_in s ≡ Some v → s ≡ level_text v
unfolding level_in
level_back s v e = pick (same_bytes s (bytes "HI")) (same_bytes s (bytes "LO")) (same_bytes_lem s (bytes "HI")) (same_bytes_lem s (bytes "LO")) e
  where
    pick : (x y : Bool) → (x ≡ true → s ≡ bytes "HI") → (y ≡ true → s ≡ bytes "LO") → (if x then Some Hi else if y then Some Lo else None) ≡ Some v → s ≡ level_text v
    pick true y f g e = let p : Hi ≡ v = cc in f refl ∙ ap level_text p
    pick false true f g e = let p : Lo ≡ v = cc in g refl ∙ ap level_text p
    pick false false f g e = nothing e

level_plain : (v : Level) → plain (level_text v) ≡ true
level_plain Hi = refl
level_plain Lo = refl

level_undoes : Undoes (field level_in "level=") (λ v. line "level=" (level_text v)) (λ v. Unit {0})
level_undoes =
    record {
      there = λ v l rest ok. (suc l, field_there level_in "level=" v l (level_text v) rest refl (level_plain v) (level_there v));
      back = λ v here next e.
          let f = field_back level_in "level=" v here next e in
          (f.1 ∙ ap (λ (t : List ℕ). line "level=" t ++ next.text) (level_back f.0 v f.2), tt);
    }

-- ---- a job

job_there : (j : Job) (l : ℕ) (rest : List ℕ) → SmallJob j → (m : ℕ) × (next_job (cursor l (job_text j ++ rest)) ≡ got j (cursor m rest))
unfolding next_job job_text
job_there j l rest ok =
    let A : List ℕ = line "level=" (level_text j.level) in
    let B : List ℕ = number_line "release=" j.release in
    let C : List ℕ = number_line "deadline=" j.deadline in
    let D : List ℕ = number_line "lo=" j.lo in
    let E : List ℕ = number_line "hi=" j.hi in
    let t : A ++ B ++ C ++ D ++ E ++ rest ≡ A ++ (B ++ (C ++ (D ++ (E ++ rest)))) = regroup A B C D E rest in
    let a = level_undoes.there j.level l (B ++ (C ++ (D ++ (E ++ rest)))) tt in
    let b = (number_undoes "release=" refl).there j.release a.0 (C ++ (D ++ (E ++ rest))) ok.1.0 in
    let c = (number_undoes "deadline=" refl).there j.deadline b.0 (D ++ (E ++ rest)) ok.1.1.0 in
    let d = (number_undoes "lo=" refl).there j.lo c.0 (E ++ rest) ok.1.1.1.0 in
    let f = (number_undoes "hi=" refl).there j.hi d.0 rest ok.1.1.1.1.0 in (
      f.0,
      ap (λ (s : List ℕ). next_job (cursor l s)) t
          ∙ onward_there _ _ _ _ _ a.1 (onward_there _ _ _ _ _ b.1 (onward_there _ _ _ _ _ c.1 (onward_there _ _ _ _ _ d.1 (onward_there _ _ _ _ _ f.1 refl)))),
    )
  where
    regroup : (a b c d e f : List ℕ) → a ++ b ++ c ++ d ++ e ++ f ≡ a ++ (b ++ (c ++ (d ++ (e ++ f))))
    regroup a b c d e f = simp append_assoc

-- a job's five lines, one after the other
job_lines_lem : (j : Job) (s t₁ t₂ t₃ t₄ t₅ : List ℕ) → s ≡ line "level=" (level_text j.level) ++ t₁ → t₁ ≡ number_line "release=" j.release ++ t₂
    → t₂ ≡ number_line "deadline=" j.deadline ++ t₃ → t₃ ≡ number_line "lo=" j.lo ++ t₄ → t₄ ≡ number_line "hi=" j.hi ++ t₅ → s ≡ job_text j ++ t₅
unfolding job_text
job_lines_lem j s t₁ t₂ t₃ t₄ t₅ =
    five (line "level=" (level_text j.level)) (number_line "release=" j.release) (number_line "deadline=" j.deadline) (number_line "lo=" j.lo) (number_line "hi=" j.hi) s t₁ t₂ t₃ t₄ t₅
  where
    five : (a b c d e s t₁ t₂ t₃ t₄ t₅ : List ℕ) → s ≡ a ++ t₁ → t₁ ≡ b ++ t₂ → t₂ ≡ c ++ t₃ → t₃ ≡ d ++ t₄ → t₄ ≡ e ++ t₅ → s ≡ a ++ b ++ c ++ d ++ e ++ t₅
    five a b c d e s t₁ t₂ t₃ t₄ t₅ p q r u v = p ∙ rw (q, r, u, v) (simp append_assoc)

-- what was read, by another name
job_same : (j k : Job) (s : List ℕ) (last next : Cursor) → j ≡ k → last ≡ next → (s ≡ job_text j ++ last.text) × SmallJob j → (s ≡ job_text k ++ next.text) × SmallJob k
job_same j k s last next p q h = rw (← p, ← q) h

job_back : (j : Job) (here next : Cursor) → next_job here ≡ got j next → (here.text ≡ job_text j ++ next.text) × SmallJob j
unfolding next_job
job_back j here next e =
    let a = onward_back (field level_in "level=" here) _ j next e in
    let b = onward_back (field number "release=" a.1) _ j next a.3 in
    let c = onward_back (field number "deadline=" b.1) _ j next b.3 in
    let d = onward_back (field number "lo=" c.1) _ j next c.3 in
    let f = onward_back (field number "hi=" d.1) _ j next d.3 in
    let A = level_undoes.back a.0 here a.1 a.2 in
    let B = (number_undoes "release=" refl).back b.0 a.1 b.1 b.2 in
    let C = (number_undoes "deadline=" refl).back c.0 b.1 c.1 c.2 in
    let D = (number_undoes "lo=" refl).back d.0 c.1 d.1 d.2 in
    let E = (number_undoes "hi=" refl).back f.0 d.1 f.1 f.2 in
    let k : Job = record { level = a.0; release = b.0; deadline = c.0; lo = d.0; hi = f.0 } in
    let same = got_same f.3 in
    job_same k j here.text f.1 next same.0 same.1 (
      job_lines_lem k here.text a.1.text b.1.text c.1.text d.1.text f.1.text A.0 B.0 C.0 D.0 E.0,
      (omega arith, (B.1, (C.1, (D.1, (E.1, tt))))),
    )

pub job_undoes : Undoes next_job job_text SmallJob
job_undoes = record { there = job_there; back = job_back }

-- ---- a plan

unless_accepted : (refusal : Answer) (holds : Bool) → holds ≡ true → accepted (refusal unless holds) ≡ true
unfolding accepted
unless_accepted refusal holds h = rw h

pub one_to_lem : (limit n : ℕ) → one_to limit n ≡ true → (1 ≤ n) × (n ≤ limit)
one_to_lem limit n h = pick (1 ≤? n) (n ≤? limit) (leb-true 1 n) (leb-true n limit) h
  where
    pick : (x y : Bool) → (x ≡ true → 1 ≤ n) → (y ≡ true → n ≤ limit) → (x && y) ≡ true → (1 ≤ n) × (n ≤ limit)
    pick true true f g h = (f refl, g refl)
    pick true false f g h = absurd (let z : ◌≡◌ {A = ℕ} 0 1 = cc in omega arith)
    pick false y f g h = absurd (let z : ◌≡◌ {A = ℕ} 0 1 = cc in omega arith)

pub plan_there : (p : Plan) (l : ℕ) (rest : List ℕ) → Writable p → p.jobs ≡ length (jobs_of p) → p.slots ≡ length (slots_of p)
    → (m : ℕ) × (next_plan (cursor l (plan_text p ++ rest)) ≡ got (cleared p) (cursor m rest))
unfolding next_plan plan_text
plan_there p l rest w js ss =
    let A : List ℕ = number_line "slots=" p.slots in
    let B : List ℕ = number_line "jobs=" p.jobs in
    let C : List ℕ = flat_map job_text (jobs_of p) in
    let D : List ℕ = flat_map (number_line "slot=") (slots_of p) in
    let t : A ++ B ++ C ++ D ++ rest ≡ A ++ (B ++ (C ++ (D ++ rest))) = regroup A B C D rest in
    let a = (number_undoes "slots=" refl).there p.slots l (B ++ (C ++ (D ++ rest))) (omega (arith, one_to_lem max_slots p.slots w.slots_fit)) in
    let b = (number_undoes "jobs=" refl).there p.jobs a.0 (C ++ (D ++ rest)) (omega (arith, one_to_lem max_jobs p.jobs w.jobs_fit)) in
    let c = many_there job_undoes (jobs_of p) b.0 (D ++ rest) w.small_jobs in
    let d = many_there (number_undoes "slot=" refl) (slots_of p) c.0 rest w.small_slots in (
      d.0,
      ap (λ (s : List ℕ). next_plan (cursor l s)) t
          ∙ onward_there _ _ _ _ _ a.1 (onward_there _ _ _ _ _ (must_there _ _ (unless_accepted SlotLimit _ w.slots_fit))
          (onward_there _ _ _ _ _ b.1 (onward_there _ _ _ _ _ (must_there _ _ (unless_accepted JobLimit _ w.jobs_fit))
          (onward_there _ _ _ _ _ (ap (λ (n : ℕ). many n next_job (cursor b.0 (C ++ (D ++ rest)))) js ∙ c.1) (onward_there _ _ _ _ _ (ap (λ (n : ℕ). many n (field number "slot=") (cursor c.0 (D ++ rest))) ss ∙ d.1) refl))))),
    )
  where
    regroup : (a b c d e : List ℕ) → a ++ b ++ c ++ d ++ e ≡ a ++ (b ++ (c ++ (d ++ e)))
    regroup a b c d e = simp append_assoc

plan_same : (p q : Plan) (s : List ℕ) (last next : Cursor) → p ≡ q → last ≡ next → (s ≡ plan_text p ++ last.text) × Writable p → (s ≡ plan_text q ++ next.text) × Writable q
plan_same p q s last next e f h = rw (← e, ← f) h

-- a plan made of what was read: its first n jobs and N slots are those
module _ (slots jobs : ℕ) (js : List Job) (ss : List ℕ) where
  abbrev made : Plan
  made = record { slots = slots; jobs = jobs; job = filled max_jobs blank_job js; table = filled max_slots 0 ss }

  module _ (lj : length js ≡ jobs) (ls : length ss ≡ slots) where
    made_jobs : jobs_of made ≡ js
    made_jobs = take_at js _ jobs lj

    made_slots : slots_of made ≡ ss
    made_slots = take_at ss _ slots ls

    made_text : plan_text made ≡ number_line "slots=" slots ++ number_line "jobs=" jobs ++ flat_map job_text js ++ flat_map (number_line "slot=") ss
    unfolding plan_text
    made_text = rw (made_jobs, made_slots)

    made_writable : one_to max_slots slots ≡ true → one_to max_jobs jobs ≡ true → All SmallJob js → All Small ss → Writable made
    made_writable fs fj aj as' = record { slots_fit = fs; jobs_fit = fj; small_jobs = rw made_jobs aj; small_slots = rw made_slots as' }

    made_lines : (s t₁ t₂ t₃ t₄ : List ℕ) → s ≡ number_line "slots=" slots ++ t₁ → t₁ ≡ number_line "jobs=" jobs ++ t₂ → t₂ ≡ flat_map job_text js ++ t₃ → t₃ ≡ flat_map (number_line "slot=") ss ++ t₄
        → s ≡ plan_text made ++ t₄
    made_lines s t₁ t₂ t₃ t₄ p q r u =
        four (number_line "slots=" slots) (number_line "jobs=" jobs) (flat_map job_text js) (flat_map (number_line "slot=") ss) s t₁ t₂ t₃ t₄ p q r u ∙ ap (λ (t : List ℕ). t ++ t₄) (sym made_text)
      where
        four : (a b c d s t₁ t₂ t₃ t₄ : List ℕ) → s ≡ a ++ t₁ → t₁ ≡ b ++ t₂ → t₂ ≡ c ++ t₃ → t₃ ≡ d ++ t₄ → s ≡ a ++ b ++ c ++ d ++ t₄
        four a b c d s t₁ t₂ t₃ t₄ p q r u = p ∙ rw (q, r, u) (simp append_assoc)

unless_back : (refusal : Answer) (holds : Bool) → accepted refusal ≡ false → accepted (refusal unless holds) ≡ true → holds ≡ true
unless_back refusal true f h = refl
unless_back refusal false f h = absurd (let z : ◌≡◌ {A = ℕ} 0 1 = cc in omega arith)

pub limit_slots : (holds : Bool) → accepted (SlotLimit unless holds) ≡ true → holds ≡ true
unfolding accepted
limit_slots holds h = unless_back SlotLimit holds refl h

pub limit_jobs : (holds : Bool) → accepted (JobLimit unless holds) ≡ true → holds ≡ true
unfolding accepted
limit_jobs holds h = unless_back JobLimit holds refl h

pub plan_back : (p : Plan) (here next : Cursor) → next_plan here ≡ got p next → (here.text ≡ plan_text p ++ next.text) × Writable p
unfolding next_plan
plan_back p here next e =
    let a = onward_back (field number "slots=" here) _ p next e in
    let a' = onward_back (must (SlotLimit unless one_to max_slots a.0) a.1) _ p next a.3 in
    let b = onward_back (field number "jobs=" a'.1) _ p next a'.3 in
    let b' = onward_back (must (JobLimit unless one_to max_jobs b.0) b.1) _ p next b.3 in
    let c = onward_back (many b.0 next_job b'.1) _ p next b'.3 in
    let d = onward_back (many a.0 (field number "slot=") c.1) (λ table. give (made a.0 b.0 c.0 table)) p next c.3 in
    let A = (number_undoes "slots=" refl).back a.0 here a.1 a.2 in
    let A' = must_back a.1 (SlotLimit unless one_to max_slots a.0) a'.0 a'.1 a'.2 in
    let B = (number_undoes "jobs=" refl).back b.0 a'.1 b.1 b.2 in
    let B' = must_back b.1 (JobLimit unless one_to max_jobs b.0) b'.0 b'.1 b'.2 in
    let C = many_back job_undoes b.0 c.0 b'.1 c.1 c.2 in
    let D = many_back (number_undoes "slot=" refl) a.0 d.0 c.1 d.1 d.2 in
    let same = got_same {a = made a.0 b.0 c.0 d.0} {c = d.1} d.3 in
    plan_same (made a.0 b.0 c.0 d.0) p here.text d.1 next same.0 same.1 (
      made_lines a.0 b.0 c.0 d.0 C.1 D.1 here.text a'.1.text b'.1.text c.1.text d.1.text
          (A.0 ∙ ap (λ (x : Cursor). number_line "slots=" a.0 ++ x.text) A'.1)
          (B.0 ∙ ap (λ (x : Cursor). number_line "jobs=" b.0 ++ x.text) B'.1) C.0 D.0,
      made_writable a.0 b.0 c.0 d.0 C.1 D.1 (limit_slots _ A'.0) (limit_jobs _ B'.0) C.2 D.2,
    )
