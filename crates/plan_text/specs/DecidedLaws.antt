-- How much of a text decides its plan: with `enough` bytes in hand, or with the line at fault complete, a refusal is the one for any longer text.
use Rattle.std.specs.Prelude.{ℕ, ◌+◌, ◌*◌, ◌≤◌, ◌<◌, ◌≡◌, refl, Bool, true, false, ◌||◌, List, ◌++◌, length}
use Rattle.std.proofs.Common.{arith, sym, ◌∙◌, length-append, ne_eqb, leb-true, leb-false}
use Rattle.std.proofs.lemmas.Bool.{false≢true}
use Rattle.std.specs.Prelude.{None}
use Rattle.words.specs.Words.{◌≤?◌}
use Rattle.words.specs.Cases.{by_test, both_hold}
use Rattle.answers.specs.Answer.{Answer, SlotLimit, JobLimit, accepted, ◌unless◌, first_place}
use Rattle.answers.specs.RefusalLaws.{neither_true}
use Rattle.lines.specs.Lines.{bytes, number, Read, got, refused, Reader, ◌>>=◌, must, lines_in, nothing_after}
use Rattle.lines.specs.RoundLaws.{cursor, unread}
use Rattle.lines.specs.ReadingLaws.{number_long, same_length}
use Rattle.lines.specs.DecidedLaws.{Decided, decided_more, give_decided, must_decided, then_decided, many_decided, field_decided}
use Rattle.plan.specs.declared.Plan.{Plan}
use Rattle.plan.specs.Limits.{max_slots, max_jobs, one_to}
use Rattle.plan_text.specs.Read.{level_in, next_job, next_plan, start_of, only_plan, read_plan}

-- a level has two bytes
level_long : (v : List ℕ) → 2 < length v → level_in v ≡ None
unfolding level_in
level_long v h = rw (sym (same_length v (bytes "HI") (λ e. omega arith)), sym (same_length v (bytes "LO") (λ e. omega arith)))

-- the five lines of a job: 9, 13, 14, 8 and 8 bytes at most
pub job_decided : Decided 52 next_job
unfolding next_job
job_decided =
    then_decided 9 43 _ _ (field_decided level_in "level=" 2 level_long)
    (λ level. then_decided 13 30 _ _ (field_decided number "release=" 4 number_long)
    (λ release. then_decided 14 16 _ _ (field_decided number "deadline=" 4 number_long)
    (λ deadline. then_decided 8 8 _ _ (field_decided number "lo=" 4 number_long)
    (λ lo. then_decided 8 0 _ _ (field_decided number "hi=" 4 number_long)
    (λ hi. give_decided _)))))

-- a limit goes before what it limits: past the limit there is nothing to decide
within : {A : Type 0} (b : ℕ) (answer : Answer) (rest : Reader A) → (accepted answer ≡ true → Decided b rest) → Decided b (must answer >>= λ _. rest)
within {A} b answer rest d = by_test (accepted answer) passes stops
  where
    passes : accepted answer ≡ true → Decided b (must answer >>= λ _. rest)
    passes h = decided_more (0 + b) b _ (omega arith) (then_decided 0 b (must answer) _ (must_decided answer) (λ _. d h))

    stops : accepted answer ≡ false → Decided b (must answer >>= λ _. rest)
    stops h = record {
      goes = λ l s u a m r e. unread (rw h at e);
      stays = λ l s u x le e. rw h (rw h at e);
      closes = λ l s u x le e. rw h (rw h at e);
    }

pub limited : (refusal : Answer) (limit n : ℕ) → accepted refusal ≡ false → accepted (refusal unless one_to limit n) ≡ true → n ≤ limit
limited refusal limit n refuses h =
    by_test (one_to limit n)
    (λ e. leb-true n limit (both_hold (1 ≤? n) (n ≤? limit) e).1)
    (λ e. absurd (false≢true (sym refuses ∙ (rw e at h))))

-- two lines of at most 11 and 10 bytes, 32 jobs, 512 slots of at most 10 bytes
abbrev pub enough : ℕ
enough = 6805

pub plan_decided : Decided enough next_plan
unfolding next_plan accepted
plan_decided =
    then_decided 11 6794 _ _ (field_decided number "slots=" 4 number_long)
    (λ slots. within 6794 (SlotLimit unless one_to max_slots slots) _
    (λ N. then_decided 10 6784 _ _ (field_decided number "jobs=" 4 number_long)
    (λ jobs. within 6784 (JobLimit unless one_to max_jobs jobs) _
    (λ n. then_decided 1664 5120 _ _ (decided_more (jobs * 52) 1664 _ (omega (arith, limited JobLimit max_jobs jobs accepted_job n)) (many_decided 52 jobs next_job job_decided))
    (λ job. then_decided 5120 0 _ _ (decided_more (slots * 10) 5120 _ (omega (arith, limited SlotLimit max_slots slots accepted_slot N)) (many_decided 10 slots _ (field_decided number "slot=" 4 number_long)))
    (λ table. give_decided _))))))
  where
    accepted_job : accepted JobLimit ≡ false
    accepted_job = refl

    accepted_slot : accepted SlotLimit ≡ false
    accepted_slot = refl

-- the plan of a text, once it is there, is the plan of every longer text
pub plan_goes : (s u : List ℕ) (p : Plan) (m : ℕ) (r : List ℕ) → next_plan (start_of s) ≡ got p (cursor m r) → next_plan (start_of (s ++ u)) ≡ got p (cursor m (r ++ u))
plan_goes s u p m r e = (plan_decided.goes 1 s u p m r e).0

-- with enough bytes in hand a refusal is final
pub plan_stays : (s u : List ℕ) (x : Answer) → enough ≤ length s → next_plan (start_of s) ≡ refused x → next_plan (start_of (s ++ u)) ≡ refused x
plan_stays s u x le e = plan_decided.stays 1 s u x le e

-- and so is a refusal at a line that is complete
pub plan_closes : (s u : List ℕ) (x : Answer) → first_place x ≤ lines_in s → next_plan (start_of s) ≡ refused x → next_plan (start_of (s ++ u)) ≡ refused x
plan_closes s u x le e = plan_decided.closes 1 s u x (omega arith) e

-- the text in hand settles its refusal: the line at fault is complete, or enough bytes are in hand
unfoldable pub is_final : List ℕ → Answer → Bool
is_final s x = (first_place x ≤? lines_in s) || (enough ≤? length s)

-- what is refused so stays refused with more text
pub final_stays : (s u : List ℕ) (x : Answer) → is_final s x ≡ true → next_plan (start_of s) ≡ refused x → next_plan (start_of (s ++ u)) ≡ refused x
unfolding is_final
final_stays s u x h e =
    by_test (first_place x ≤? lines_in s)
    (λ c. plan_closes s u x (leb-true (first_place x) (lines_in s) c) e)
    (λ c. plan_stays s u x (leb-true enough (length s) (rw c at h)) e)

-- while more text may yet make a plan, fewer than enough bytes are in hand
pub open_short : (s : List ℕ) (x : Answer) → is_final s x ≡ false → length s < enough
unfolding is_final
open_short s x h = leb-false enough (length s) (neither_true (first_place x ≤? lines_in s) (enough ≤? length s) h).1

-- with one byte more than enough, so is the answer for the whole text: what follows the plan is extra in any case
pub text_stays : (s u : List ℕ) → enough < length s → read_plan (s ++ u) ≡ read_plan s
unfolding read_plan only_plan nothing_after accepted
text_stays s u le = after (next_plan (start_of s)) refl
  where
    after : (o : Read Plan) → next_plan (start_of s) ≡ o → read_plan (s ++ u) ≡ read_plan s
    after (refused x) e = rw (plan_stays s u x (omega arith) e, e)
    after (got p next) e =
        let g = plan_decided.goes 1 s u p next.line_no next.text e in
        let one_more : length next.text ≡ 0 → ⊥ = (λ z. omega (arith, g.1)) in
        let more : length (next.text ++ u) ≡ 0 → ⊥ = (λ z. omega (arith, g.1, length-append next.text u)) in
        rw (g.0, e, ne_eqb (length (next.text ++ u)) 0 more, ne_eqb (length next.text) 0 one_more)
