-- Lines one after the other: the lines of one more interval or job, and the rooms of whole outputs.
use Rattle.std.specs.Prelude.{ℕ, zero, suc, ◌+◌, ◌*◌, ◌≤◌, ◌<◌, min, ◌≡◌, refl, List, [], ◌∷◌, ◌++◌, ℤ, pos, get_or, take, drop, if◌then◌else◌, Ok, Err}
use Rattle.std.proofs.Common.{add-one, le_of_suc-le-suc, arith, sym, ap, ◌∙◌, append-nil, append_assoc, take_all, le-leb}
use Rattle.std.specs.Array.{IsFirstChunk}
use Rattle.std.proofs.Math.ListN.{length}
use Rattle.std.proofs.lemmas.Bool.{lt-leb}
use Rattle.words.specs.Words.{◌≤?◌}
use Rattle.words.specs.Cases.{by_less}
use Rattle.lines.specs.Lines.{bytes, digits, digits_in, line}
use Rattle.lines.specs.Writing.{put}
use Rattle.lines.specs.WritingLaws.{length_put}
use Rattle.intervals.specs.declared.Interval.{Interval}
use Rattle.intervals.specs.Intervals.{max_intervals}
use Rattle.intervals.specs.Layout.{blank_interval}
use Rattle.entries.specs.declared.Entry.{Entry}
use Rattle.executive.specs.declared.Run.{Run}
use Rattle.entries.specs.Entry.{fresh_entry}
use Rattle.answers.specs.declared.Refusal.{Refusal}
use Rattle.answers.specs.Answer.{accepted}
use Rattle.plan_text.specs.declared.PlanRead.{PlanRead}
use Rattle.plan_text.specs.Read.{read_plan}
use Rattle.acceptance.specs.declared.Analysis.{Analysis}
use Rattle.acceptance.specs.Analysis.{analysis}
use Rattle.console.specs.Print.{refused_line}
use Rattle.console.specs.Check.{interval_lines, analysis_lines, check_output}
use Rattle.console.specs.Run.{job_lines_from, job_lines}
use Rattle.console.specs.Pieces.{longest, CountsIn, counts_in_lem, chunk_put, Piece}
use Rattle.console.specs.declared.print.Sheet.{Sheet}
use Rattle.console.specs.Sheet.{Puts, puts_within, puts_then, puts_is}
use Rattle.console.specs.Printed.{interval_line, job_line}

-- room for a line of each interval and the answer's line
abbrev pub check_room : ℕ
check_room = suc max_intervals * longest

-- what check_output writes, and how much: an output without room stays as it is
unfoldable pub check_written : List ℕ → List ℕ → List ℕ
check_written text d = if check_room ≤? length d then put 0 (check_output text) d else d

unfoldable pub check_length : List ℕ → List ℕ → ℕ
check_length text d = if check_room ≤? length d then length (check_output text) else 0

-- ---- one line more

pub intervals_on : (i : ℕ) (xs : List Interval) (his los : List ℤ) → i < length xs → i < length his → i < length los
    → interval_lines (take i xs) his los ++ interval_line (get_or xs i blank_interval) (get_or his i (pos 0)) (get_or los i (pos 0)) ≡ interval_lines (take (suc i) xs) his los
unfolding interval_lines
intervals_on i [] his los a b c = absurd (omega arith)
intervals_on i (x ∷ xs) [] los a b c = absurd (omega arith)
intervals_on i (x ∷ xs) (hi ∷ his) [] a b c = absurd (omega arith)
intervals_on zero (x ∷ xs) (hi ∷ his) (lo ∷ los) a b c = sym (append-nil (interval_line x hi lo))
intervals_on (suc i) (x ∷ xs) (hi ∷ his) (lo ∷ los) a b c =
    append_assoc (interval_line x hi lo) (interval_lines (take i xs) his los) _
    ∙ ap (λ (w : List ℕ). interval_line x hi lo ++ w) (intervals_on i xs his los (le_of_suc-le-suc a) (le_of_suc-le-suc b) (le_of_suc-le-suc c))

pub intervals_none : (xs : List Interval) (his los : List ℤ) → interval_lines (take 0 xs) his los ≡ []
unfolding interval_lines
intervals_none xs his los = refl

pub jobs_on : (i k : ℕ) (es : List Entry) → i < length es → job_lines_from k (take i es) ++ job_line (k + i) (get_or es i fresh_entry) ≡ job_lines_from k (take (suc i) es)
unfolding job_lines_from
jobs_on i k [] a = absurd (omega arith)
jobs_on zero k (e ∷ es) a = let n : k + 0 ≡ k = omega arith in rw n (sym (append-nil (job_line k e)))
jobs_on (suc i) k (e ∷ es) a =
    let n : k + suc i ≡ suc k + i = omega arith in
    rw n (append_assoc (job_line k e) (job_lines_from (suc k) (take i es)) _
    ∙ ap (λ (w : List ℕ). job_line k e ++ w) (jobs_on i (suc k) es (le_of_suc-le-suc a)))

-- more than there are is all
pub taken_all : {A : Type 0} (i n : ℕ) (xs : List A) → length xs ≤ i → length xs ≤ n → take i xs ≡ take n xs
taken_all i n xs a b = take_all i xs a ∙ sym (take_all n xs b)

pub answer_line : bytes "answer=0\n" ≡ line "answer=" (digits 0)
unfolding digits digits_in
answer_line = refl

-- ---- the loops: one more line put after the others

module _ {a b c : Sheet} (i : ℕ) where
  pub interval_put : (xs : List Interval) (his los : List ℤ) (y z : ℤ) → i < length xs → i < length his → i < length los
      → Puts (i * longest) (interval_lines (take i xs) his los) a b → y ≡ get_or his i (pos 0) → z ≡ get_or los i (pos 0)
      → Puts longest (interval_line (get_or xs i blank_interval) y z) b c → Puts ((i + 1) * longest) (interval_lines (take (i + 1) xs) his los) a c
  interval_put xs his los y z u v w p hy hz q =
      let line : interval_line (get_or xs i blank_interval) y z ≡ interval_line (get_or xs i blank_interval) (get_or his i (pos 0)) (get_or los i (pos 0)) =
      ap (λ (n : ℤ). interval_line (get_or xs i blank_interval) n z) hy ∙ ap (λ (n : ℤ). interval_line (get_or xs i blank_interval) (get_or his i (pos 0)) n) hz in
      rw add-one (puts_within (puts_is (intervals_on i xs his los u v w) (puts_then p (puts_is line q))) (omega arith))

  pub job_put : (es : List Entry) → i < length es → Puts (i * longest) (job_lines_from 1 (take i es)) a b
      → Puts longest (job_line (1 + i) (get_or es i fresh_entry)) b c → Puts ((i + 1) * longest) (job_lines_from 1 (take (i + 1) es)) a c
  job_put es u p q = rw add-one (puts_within (puts_is (jobs_on i 1 es u) (puts_then p q)) (omega arith))

-- the first n of an array of k, for any n
pub listed_all : {A : Type 0} (n i k : ℕ) (xs : List A) → length xs ≡ k → i ≡ min n k → take i xs ≡ take n xs
listed_all n i k xs l e =
    by_less n k
    (λ h. let same : i ≡ n = omega arith in ap (λ (j : ℕ). take j xs) same)
    (λ h. taken_all i n xs (omega arith) (omega arith))

pub jobs_none : (k : ℕ) (es : List Entry) → job_lines_from k (take 0 es) ≡ []
unfolding job_lines_from
jobs_none k es = refl

pub jobs_listed : (r : Run) (i : ℕ) → length r.entry ≡ 32 → i ≡ min r.plan.jobs 32 → job_lines_from 1 (take i r.entry) ≡ job_lines r
unfolding job_lines
jobs_listed r i l e = ap (job_lines_from 1) (listed_all r.plan.jobs i 32 r.entry l e)

-- ---- the analysis

module _ (a : Analysis) where
  pub analysis_refused : (e : Refusal) → a.answer ≡ Err e → refused_line (Err e) ≡ analysis_lines a
  unfolding analysis_lines accepted
  analysis_refused e h = rw h

  pub analysis_accepted : (u : Unit {0}) → a.answer ≡ Ok u → interval_lines (take a.count a.interval) a.hi a.lo ++ bytes "answer=0\n" ≡ analysis_lines a
  unfolding analysis_lines accepted
  analysis_accepted u h = rw (h, answer_line)

-- ---- the check program

module _ (text : List ℕ) (read : PlanRead) (is : read ≡ read_plan text) where
  pub check_refused : (e : Refusal) → read.answer ≡ Err e → refused_line (Err e) ≡ check_output text
  unfolding check_output accepted
  check_refused e h = let h' : (read_plan text).answer ≡ Err e = rw is at h in rw h'

  pub check_analysed : (u : Unit {0}) → read.answer ≡ Ok u → (a : Analysis) → a ≡ analysis read.plan → analysis_lines a ≡ check_output text
  unfolding check_output accepted
  check_analysed u h a e = let h' : (read_plan text).answer ≡ Ok u = rw is at h in rw (h', e, is)

module _ (text d : List ℕ) where
  pub check_no_room : length d < check_room → (0 ≡ check_length text d) × ((d ≡ check_written text d) × CountsIn 0 d)
  unfolding check_length check_written
  check_no_room h = rw (lt-leb check_room (length d) h) (refl, (refl, counts_in_lem 0 d (omega arith)))

  pub check_written_lem : (e : List ℕ) → IsFirstChunk d e check_room → (m r : ℕ) (f : List ℕ) → m ≤ check_room → Piece m 0 (check_output text) e r f
      → (r ≡ check_length text d) × ((f ++ drop check_room d ≡ check_written text d) × CountsIn r (f ++ drop check_room d))
  unfolding check_length check_written
  check_written_lem e k m r f few p =
      let w : List ℕ = check_output text in
      let out : f ++ drop check_room d ≡ put 0 w d = ap (λ (x : List ℕ). x ++ drop check_room d) p.text ∙ chunk_put check_room w d e k (omega (arith, p.short)) in
      let l : length (f ++ drop check_room d) ≡ length d = ap length out ∙ length_put 0 w d (omega (arith, p.short, k.enough)) in
      rw (le-leb check_room (length d) k.enough) (omega (arith, p.place), (out, counts_in_lem r (f ++ drop check_room d) (omega (arith, p.place, p.short, k.enough))))
