-- Laws of lines under more text: how many lines a plan has, and a report line is decided by its longest form.
use Rattle.std.specs.Prelude.{ℕ, zero, suc, ◌+◌, ◌*◌, ◌≤◌, ◌<◌, ◌≡◌, refl, true, List, [], ◌∷◌, length, take, drop}
use Prim.Native.String.{String}
use Rattle.std.proofs.Common.{suc-mul, arith, sym, ap, length-drop, length-take, leb-true, leb-false}
use Rattle.std.specs.Prelude.{Option, None, Some}
use Rattle.words.specs.Words.{◌≤?◌}
use Rattle.words.specs.Cases.{by_test}
use Rattle.answers.specs.Answer.{Answer, SlotLimit, JobLimit, accepted, ◌unless◌}
use Rattle.lines.specs.Lines.{bytes, number, Cursor, got, Reader, give, ◌>>=◌, must, many, value_in, or_form, field}
use Rattle.lines.specs.RoundLaws.{cursor, unread, got_same, onward_back, must_back}
use Rattle.lines.specs.ReadingLaws.{number_long, same_length}
use Rattle.lines.specs.DecidedLaws.{Decided, field_decided}
use Rattle.plan.specs.declared.Plan.{Plan}
use Rattle.plan.specs.Limits.{max_slots, max_jobs, one_to}
use Rattle.plan_text.specs.DecidedLaws.{limited}
use Rattle.plan_text.specs.Read.{level_in, next_job, next_plan, start_of}
use Rattle.entries.specs.declared.Kind.{Kind}
use Rattle.console.specs.Run.{kind_in, before_comma, report, report_in}
use Rattle.console.specs.Reports.{comma_within}

-- ---- how many lines a reader goes on

abbrev pub LinesAtMost : {A : Type 0} → ℕ → Reader A → Type 0
LinesAtMost {A} k reader = (here next : Cursor) (a : A) → reader here ≡ got a next → next.line_no ≤ here.line_no + k

give_lines : {A : Type 0} (a : A) → LinesAtMost 0 (give a)
give_lines a here next b e = omega (arith, ap (λ (c : Cursor). c.line_no) (got_same e).1)

more_lines : {A : Type 0} (j k : ℕ) (reader : Reader A) → j ≤ k → LinesAtMost j reader → LinesAtMost k reader
more_lines j k reader h f here next a e = omega (arith, f here next a e)

then_lines : {A B : Type 0} (j k : ℕ) (reader : Reader A) (rest : A → Reader B) → LinesAtMost j reader → ((a : A) → LinesAtMost k (rest a)) → LinesAtMost (j + k) (reader >>= rest)
then_lines j k reader rest f g here next b e =
    let h = onward_back (reader here) rest b next e in
    omega (arith, f here h.1 h.0 h.2, g h.0 h.1 next b h.3)

field_lines : {A : Type 0} (meaning : List ℕ → Option A) (key : String) → LinesAtMost 1 (field meaning key)
unfolding field
field_lines {A} meaning key here next a e = pick (value_in meaning (bytes key) here.text) e
  where
    pick : (o : Option A) → or_form o here ≡ got a next → next.line_no ≤ here.line_no + 1
    pick (Some v) e = omega (arith, ap (λ (c : Cursor). c.line_no) (got_same e).1)
    pick None e = unread e

many_lines : {A : Type 0} (j k : ℕ) (one : Reader A) → LinesAtMost j one → LinesAtMost (k * j) (many k one)
unfolding many
many_lines j zero one f = more_lines 0 (0 * j) (give []) (omega arith) (give_lines [])
many_lines j (suc k) one f =
    more_lines (j + (k * j + 0)) (suc k * j) _ (omega (arith, suc-mul k j))
    (then_lines j (k * j + 0) one _ f (λ first. then_lines (k * j) 0 (many k one) _ (many_lines j k one f) (λ others. give_lines (first ∷ others))))

-- a limit goes before what it limits
within_lines : {A : Type 0} (k : ℕ) (answer : Answer) (rest : Reader A) → (accepted answer ≡ true → LinesAtMost k rest) → LinesAtMost k (must answer >>= λ _. rest)
within_lines k answer rest f here next b e =
    let h = onward_back (must answer here) (λ _. rest) b next e in
    let m = must_back here answer h.0 h.1 h.2 in
    omega (arith, f m.0 h.1 next b h.3, ap (λ (c : Cursor). c.line_no) m.1)

job_lines_lem : LinesAtMost 5 next_job
unfolding next_job
job_lines_lem =
    then_lines 1 4 _ _ (field_lines level_in "level=")
    (λ level. then_lines 1 3 _ _ (field_lines number "release=")
    (λ release. then_lines 1 2 _ _ (field_lines number "deadline=")
    (λ deadline. then_lines 1 1 _ _ (field_lines number "lo=")
    (λ lo. then_lines 1 0 _ _ (field_lines number "hi=")
    (λ hi. give_lines _)))))

-- two lines, five a job, one a slot
plan_lines : LinesAtMost 674 next_plan
unfolding next_plan accepted
plan_lines =
    then_lines 1 673 _ _ (field_lines number "slots=")
    (λ slots. within_lines 673 (SlotLimit unless one_to max_slots slots) _
    (λ N. then_lines 1 672 _ _ (field_lines number "jobs=")
    (λ jobs. within_lines 672 (JobLimit unless one_to max_jobs jobs) _
    (λ n. then_lines 160 512 _ _ (more_lines (jobs * 5) 160 _ (omega (arith, limited JobLimit max_jobs jobs refl n)) (many_lines 5 jobs next_job job_lines_lem))
    (λ job. then_lines 512 0 _ _ (more_lines (slots * 1) 512 _ (omega (arith, limited SlotLimit max_slots slots refl N)) (many_lines 1 slots _ (field_lines number "slot=")))
    (λ table. give_lines _))))))

-- the first line after a plan has a number of at most 675
pub plan_line : (s r : List ℕ) (p : Plan) (m : ℕ) → next_plan (start_of s) ≡ got p (cursor m r) → m ≤ 675
plan_line s r p m e = omega (arith, plan_lines (start_of s) (cursor m r) p e)

-- ---- a report line

-- a kind has at most four letters
kind_long : (w : List ℕ) → 4 < length w → kind_in w ≡ None
unfolding kind_in
kind_long w h = rw (sym (same_length w (bytes "end") (λ e. omega arith)), sym (same_length w (bytes "more") (λ e. omega arith)), sym (same_length w (bytes "none") (λ e. omega arith)))

-- a slot of four digits, a comma and a kind of four letters
report_long : (v : List ℕ) → 9 < length v → report_in v ≡ None
unfolding report_in
report_long v h =
    by_test (before_comma v ≤? 4)
    (λ e. slot_short (leb-true (before_comma v) 4 e))
    (λ e. pick (number (take (before_comma v) v)) (kind_in (drop (suc (before_comma v)) v)) (number_long (take (before_comma v) v) (rw (length-take) (omega (arith, leb-false (before_comma v) 4 e, comma_within v)))))
  where
    pick : (o : Option ℕ) (k : Option Kind) → o ≡ None → report o k ≡ None
    pick o k e = rw e

    kindless : (o : Option ℕ) (k : Option Kind) → k ≡ None → report o k ≡ None
    kindless None k e = refl
    kindless (Some n) k e = rw e

    slot_short : before_comma v ≤ 4 → report (number (take (before_comma v) v)) (kind_in (drop (suc (before_comma v)) v)) ≡ None
    slot_short b = kindless (number (take (before_comma v) v)) (kind_in (drop (suc (before_comma v)) v)) (kind_long (drop (suc (before_comma v)) v) (rw length-drop (omega arith)))

pub report_decided : Decided 17 (field report_in "report=")
report_decided = field_decided report_in "report=" 9 report_long
