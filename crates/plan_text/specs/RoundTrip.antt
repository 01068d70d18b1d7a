-- The round trip, over the definitions and over what the functions promise: what is written reads back to an equal plan, what is read writes back to the same bytes, and a plan has one text.
use Rattle.std.specs.Prelude.{ℕ, ◌≤◌, ◌≡◌, refl, Bool, true, false, drop, if◌then◌else◌, Result}
use Rattle.std.proofs.Common.{arith, ◌∙◌, length-take-le, eqb-true}
use Rattle.std.proofs.Math.Path.{sym, ap}
use mathlib.Core.List.{List, [], ◌∷◌, ◌++◌, append-nil}
use Rattle.std.proofs.Math.ListN.{length, take}
use Rattle.std.proofs.Math.Seq.{take_at, take-append_seam, drop-append_seam}
use Rattle.words.specs.Words.{◌=?◌}
use Rattle.answers.specs.declared.Refusal.{Refusal}
use Rattle.answers.specs.Answer.{Answer, Accepted, Form, accepted, ◌unless◌}
use Rattle.plan.specs.declared.Plan.{Plan}
use Rattle.plan.specs.Limits.{max_slots, max_jobs}
use Rattle.plan.specs.Plan.{jobs_of, slots_of, SamePlan}
use Rattle.lines.specs.Lines.{Cursor, Read, got, refused, nothing_after, must, field, number, many}
use Rattle.lines.specs.RoundLaws.{onward_there, onward_back, got_same, must_back, Refuses, give_refuses, field_refuses, then_refuses, must_refuses, many_refuses, nothing_refuses}
use Rattle.plan_text.specs.declared.PlanRead.{PlanRead}
use Rattle.plan_text.specs.Read.{plan_text, level_in, next_job, next_plan, only_plan, start_of, plan_read, read_plan}
use Rattle.plan_text.specs.Write.{Written, write_answer, write_out}
use Rattle.plan_text.specs.Parts.{Writable, cleared}
use Rattle.plan_text.specs.RoundLaws.{one_to_lem, plan_there, plan_back}
use Rattle.plan_text.specs.WriteLaws.{accepted_writable, accepted_room, writable_answer, writable_out}

-- ---- what is written reads back

module _ (p : Plan) (long_jobs : length p.job ≡ max_jobs) (long-table : length p.table ≡ max_slots) (w : Writable p) where
  jobs_long : p.jobs ≡ length (jobs_of p)
  jobs_long = sym (length-take-le p.jobs p.job (omega (arith, one_to_lem max_jobs p.jobs w.jobs_fit)))

  slots_long : p.slots ≡ length (slots_of p)
  slots_long = sym (length-take-le p.slots p.table (omega (arith, one_to_lem max_slots p.slots w.slots_fit)))

  -- the plan with 0 and LO beyond n and N is equal to the plan
  pub cleared_same : SamePlan (cleared p) p
  cleared_same = (refl, refl, take_at (jobs_of p) _ p.jobs (sym jobs_long), take_at (slots_of p) _ p.slots (sym slots_long))

  -- its text reads back to that plan
  pub text_reads : read_plan (plan_text p) ≡ record { answer = Accepted; plan = cleared p }
  unfolding read_plan only_plan nothing_after accepted
  text_reads =
      let e : plan_text p ≡ plan_text p ++ [] = sym (append-nil (plan_text p)) in
      let r = plan_there p 1 [] w jobs_long slots_long in
      ap (λ (s : List ℕ). plan_read (only_plan (start_of s))) e ∙ ap plan_read (onward_there _ _ _ _ _ r.1 refl)

-- what the writer accepts reads back: accepted, an equal plan, blank beyond n and N
pub written_reads : (p : Plan) (room : ℕ) → length p.job ≡ max_jobs → length p.table ≡ max_slots → accepted (write_answer p room) ≡ true
    → (read_plan (plan_text p) ≡ record { answer = Accepted; plan = cleared p }) × SamePlan (cleared p) p
written_reads p room lj lt h = let w = accepted_writable p room h in (text_reads p lj lt w, cleared_same p lj lt w)

-- ---- what is read writes back

job_refuses : Refuses next_job
unfolding next_job
job_refuses =
    then_refuses (field level_in "level=") _ (field_refuses level_in "level=")
    (λ level. then_refuses (field number "release=") _ (field_refuses number "release=")
    (λ release. then_refuses (field number "deadline=") _ (field_refuses number "deadline=")
    (λ deadline. then_refuses (field number "lo=") _ (field_refuses number "lo=")
    (λ lo. then_refuses (field number "hi=") _ (field_refuses number "hi=") (λ hi. give_refuses _)))))

plan_refuses : Refuses next_plan
unfolding next_plan
plan_refuses =
    then_refuses (field number "slots=") _ (field_refuses number "slots=")
    (λ slots. then_refuses (must _) _ (must_refuses _)
    (λ _. then_refuses (field number "jobs=") _ (field_refuses number "jobs=")
    (λ jobs. then_refuses (must _) _ (must_refuses _)
    (λ _. then_refuses (many jobs next_job) _ (many_refuses jobs next_job job_refuses)
    (λ job. then_refuses (many slots (field number "slot=")) _ (many_refuses slots (field number "slot=") (field_refuses number "slot=")) (λ table. give_refuses _))))))

only_refuses : Refuses only_plan
unfolding only_plan
only_refuses = then_refuses next_plan _ plan_refuses (λ plan. then_refuses nothing_after _ nothing_refuses (λ _. give_refuses plan))

-- no byte is left where nothing is
left_none : (s : List ℕ) → length s ≡ 0 → s ≡ []
left_none [] h = refl
left_none (b ∷ s) h = absurd (omega arith)

nothing_back : (here next : Cursor) (u : Unit {0}) → nothing_after here ≡ got u next → here.text ≡ []
unfolding nothing_after accepted
nothing_back here next u e = left_none here.text (pick (length here.text =? 0) (eqb-true (length here.text) 0) (must_back here (Form here.line_no unless (length here.text =? 0)) u next e).0)
  where
    pick : (x : Bool) → (x ≡ true → length here.text ≡ 0) → accepted (Form here.line_no unless x) ≡ true → length here.text ≡ 0
    pick true f h = f refl
    pick false f h = absurd (let z : ◌≡◌ {A = ℕ} 0 1 = cc in omega arith)

only_back : (p : Plan) (s : List ℕ) (next : Cursor) → only_plan (start_of s) ≡ got p next → (plan_text p ≡ s) × Writable p
unfolding only_plan
only_back p s next e =
    let a = onward_back (next_plan (start_of s)) _ p next e in
    let b = onward_back (nothing_after a.1) _ p next a.3 in
    let c = plan_back a.0 (start_of s) a.1 a.2 in
    let n = nothing_back a.1 b.1 b.0 b.2 in
    whole a.0 p a.1.text (got_same b.3).0 c n
  where
    whole : (q p : Plan) (t : List ℕ) → q ≡ p → (s ≡ plan_text q ++ t) × Writable q → t ≡ [] → (plan_text p ≡ s) × Writable p
    whole q p t e h n = rw (← e) (sym (h.0 ∙ rw n (append-nil (plan_text q))), h.1)

read_back : (s : List ℕ) → (read_plan s).answer ≡ Accepted → (plan_text (read_plan s).plan ≡ s) × Writable (read_plan s).plan
unfolding read_plan accepted
read_back s h = pick (only_plan (start_of s)) (only_refuses (start_of s)) (λ p next. only_back p s next) h
  where
    pick : (r : Read Plan) → ((answer : Answer) → r ≡ refused answer → accepted answer ≡ false) → ((p : Plan) (next : Cursor) → r ≡ got p next → (plan_text p ≡ s) × Writable p)
        → (plan_read r).answer ≡ Accepted → (plan_text (plan_read r).plan ≡ s) × Writable (plan_read r).plan
    pick (got p next) f g h = g p next refl
    pick (refused answer) f g h = absurd (let z : ◌≡◌ {A = ℕ} 1 0 = ap (λ (b : Bool). if b then 1 else 0) (sym (ap accepted h) ∙ f answer refl) in omega arith)

-- a text that is read is the text of its plan
pub read_writes : (s : List ℕ) → (read_plan s).answer ≡ Accepted → plan_text (read_plan s).plan ≡ s
read_writes s h = (read_back s h).0

-- with room for it, the writer accepts that plan, says how long the text is, and the output begins with the same bytes
pub read_written : (s out : List ℕ) → (read_plan s).answer ≡ Accepted → length s ≤ length out
    → (write_answer (read_plan s).plan (length out) ≡ Written (length s)) × (write_out (read_plan s).plan out ≡ s ++ drop (length s) out)
read_written s out h room = same (read_plan s).plan (read_back s h)
  where
    same : (p : Plan) → (plan_text p ≡ s) × Writable p → (write_answer p (length out) ≡ Written (length s)) × (write_out p out ≡ s ++ drop (length s) out)
    same p w =
        let room' : length (plan_text p) ≤ length out = rw w.0 room in (
          writable_answer p w.1 (length out) room' ∙ ap (λ (t : List ℕ). Written (length t)) w.0,
          writable_out p w.1 out room' ∙ ap (λ (t : List ℕ). t ++ drop (length t) out) w.0,
        )

-- ---- a plan has one text, and a text one plan

-- equal plans have the same text
pub same_text : (p q : Plan) → SamePlan p q → plan_text p ≡ plan_text q
unfolding plan_text
same_text p q h = rw (h.2, h.3, h.0, h.1)

-- plans with the same text are equal
pub text_same : (p q : Plan) (room : ℕ) → length p.job ≡ max_jobs → length p.table ≡ max_slots → length q.job ≡ max_jobs → length q.table ≡ max_slots
    → accepted (write_answer p room) ≡ true → accepted (write_answer q room) ≡ true → plan_text p ≡ plan_text q → SamePlan p q
text_same p q room lp tp lq tq hp hq e =
    let a = written_reads p room lp tp hp in
    let b = written_reads q room lq tq hq in
    let c : cleared p ≡ cleared q = ap (λ (r : PlanRead). r.plan) (sym a.0 ∙ ap read_plan e ∙ b.0) in
    let x = a.1 in
    let y = b.1 in
    (ap (λ (r : Plan). r.slots) c, ap (λ (r : Plan). r.jobs) c, sym x.2 ∙ ap jobs_of c ∙ y.2, sym x.3 ∙ ap slots_of c ∙ y.3)

-- writable plans are equal exactly when their texts are the same
pub one_text : (p q : Plan) (room : ℕ) → length p.job ≡ max_jobs → length p.table ≡ max_slots → length q.job ≡ max_jobs → length q.table ≡ max_slots
    → accepted (write_answer p room) ≡ true → accepted (write_answer q room) ≡ true
    → (SamePlan p q → plan_text p ≡ plan_text q) × (plan_text p ≡ plan_text q → SamePlan p q)
one_text p q room lp tp lq tq hp hq = (same_text p q, text_same p q room lp tp lq tq hp hq)

-- ---- the same of what the functions promise

-- the writer's answer and output on a plan, and the reader's answer on the bytes written: an equal plan, blank beyond n and N
module _ (p : Plan) (lj : length p.job ≡ max_jobs) (lt : length p.table ≡ max_slots) (out o : List ℕ) (n : ℕ) (r : PlanRead) where
  pub write_then_read : Written n ≡ write_answer p (length out) → o ≡ write_out p out → r ≡ read_plan (take n o)
      → (r ≡ record { answer = Accepted; plan = cleared p }) × SamePlan r.plan p
  unfolding accepted
  write_then_read ea eo er =
      let w : Writable p = accepted_writable p (length out) (ap accepted (sym ea)) in
      let room : length (plan_text p) ≤ length out = accepted_room p w (length out) (ap accepted (sym ea)) in
      let long : length (plan_text p) ≡ n = written_bytes (writable_answer p w (length out) room) in
      let text : take n o ≡ plan_text p = ap (take n) (eo ∙ writable_out p w out room) ∙ take_at (plan_text p) _ n long in
      let e : r ≡ record { answer = Accepted; plan = cleared p } = er ∙ ap read_plan text ∙ text_reads p lj lt w in
      (e, same_read r.plan (ap (λ (x : PlanRead). x.plan) e) (cleared_same p lj lt w))
    where
      written_bytes : write_answer p (length out) ≡ Written (length (plan_text p)) → length (plan_text p) ≡ n
      written_bytes e = let f : Written n ≡ Written (length (plan_text p)) = ea ∙ e in cc

      same_read : (q : Plan) → q ≡ cleared p → SamePlan (cleared p) p → SamePlan q p
      same_read q e h = rw e h

-- the reader's answer on a text, and the writer's answer and output on its plan: the same bytes, and those past them as they were
module _ (s out o : List ℕ) (r : PlanRead) (a : Result ℕ Refusal) where
  pub read_then_write : r ≡ read_plan s → r.answer ≡ Accepted → length s ≤ length out → a ≡ write_answer r.plan (length out) → o ≡ write_out r.plan out
      → (a ≡ Written (length s)) × (take (length s) o ≡ s) × (drop (length s) o ≡ drop (length s) out)
  read_then_write e h room ea eo =
      let w = read_written s out (sym (ap (λ (x : PlanRead). x.answer) e) ∙ h) room in
      let q : write_out r.plan out ≡ s ++ drop (length s) out = ap (λ (x : PlanRead). write_out x.plan out) e ∙ w.1 in (
        ea ∙ ap (λ (x : PlanRead). write_answer x.plan (length out)) e ∙ w.0,
        ap (take (length s)) (eo ∙ q) ∙ take-append_seam s _,
        ap (drop (length s)) (eo ∙ q) ∙ drop-append_seam s _,
      )
