-- Laws of the reader: a line taken is the definitions' field, and one reader goes on after the other.
use Rattle.std.specs.Prelude.{ℕ, ◌+◌, ◌-◌, drop, false, ◌*◌, ◌≤◌, ◌<◌, ◌≡◌, refl, true, List, length, take, set, replicate, ◌++◌, Option, Some, None, Result, Ok, Err}
use Rattle.std.proofs.lemmas.List.{length-replicate, drop-replicate}
use borrow.Author.Tests.{lt-leb, le-leb, eq-eqb, ne_eqb}
use Rattle.std.proofs.Common.{length-drop, length-take-le, arith, sym, ◌∙◌, add-one, mul-suc, mul-le-mul_left}
use Rattle.words.specs.Cases.{never}
use Rattle.words.specs.Words.{filled, ◌=?◌}
use Rattle.answers.specs.declared.Refusal.{Refusal}
use Rattle.answers.specs.Answer.{Answer, accepted}
use Rattle.lines.specs.Lines.{bytes, got, refused, Reader, give, ◌>>=◌, must, many, nothing_after}
use Rattle.lines.specs.Reading.{field_at, standing, line_with}
use Rattle.lines.specs.ReadingLaws.{same_length, field_got, field_refused}
use Rattle.lines.specs.ManyLaws.{Filling, filling_on, filling_stops, filling_ends}
use Rattle.plan.specs.declared.Plan.{Plan}
use Rattle.plan_text.specs.Read.{level_in, next_plan, only_plan, read_plan}
use Rattle.plan_text.specs.Reader.{stands, Reads, Taken, last_line, plan_lines, plan_from, prefix_told, plan_told}
use Rattle.plan_text.specs.declared.reader.Lines.{Lines}

module _ {A : Type 0} (meaning : List ℕ → Option A) (key : List ℕ) (before after : Lines) (answer : Result A Refusal) where
  -- what was found on the line is read
  pub taken_reads : (found : Option (A × ℕ)) → Taken before found answer after → found ≡ field_at meaning before.reader.text.now before.reader.at key
      → Reads (line_with meaning key) 1 before answer after
  taken_reads (Some v) taken e =
      let f = field_got meaning key before.reader.text.now before.reader.at before.line (before.line + 1) (omega arith) v e in
      rw (taken.0, taken.1) (record { read = sym f.0; text = refl; lines = omega arith; within = λ ok. f.1 })
  taken_reads None taken e =
      rw (taken.0, taken.1)
      (record { read = sym (field_refused meaning key before.reader.text.now before.reader.at before.line 0 e); text = refl; lines = omega arith; within = λ ok. absurd (never ok refl) })

-- ---- one reader after the other, as `?` goes on

module _ {A B : Type 0} (one : Reader A) (rest : A → Reader B) (k m : ℕ) {before between : Lines} {answer : Result A Refusal} (first : Reads one k before answer between) where
  -- the first was read: what follows decides
  pub goes_on : {a : A} → answer ≡ Ok a → {b : Result B Refusal} {after : Lines} → Reads (rest a) m between b after → Reads (one >>= rest) (k + m) before b after
  goes_on {a} e then =
      let r : got a (stands between) ≡ one (stands before) = rw e at first.read in
      record { read = rw (← r) then.read; text = then.text ∙ first.text; lines = omega (arith, first.lines, then.lines); within = then.within }

  -- the first was refused: so is the whole
  pub stops : {e : Refusal} → answer ≡ Err e → Reads (one >>= rest) (k + m) before (Err e) between
  stops {e} w =
      let r : refused (Err e) ≡ one (stands before) = rw w at first.read in
      record { read = rw (← r); text = first.text; lines = omega (arith, first.lines); within = λ ok. absurd (never ok refl) }

-- a thing made of the last one read
pub made : {A B : Type 0} (one : Reader A) (make : A → B) (k : ℕ) {before after : Lines} {answer : Result A Refusal} → Reads one k before answer after
    → {a : A} → answer ≡ Ok a → Reads (one >>= (λ x. give (make x))) k before (Ok (make a)) after
made one make k {before} {after} h {a} e =
    let r : got a (stands after) ≡ one (stands before) = rw e at h.read in
    record { read = rw (← r); text = h.text; lines = h.lines; within = λ ok. h.within (rw e) }

-- at most so many lines
pub wider : {A : Type 0} {one : Reader A} (k m : ℕ) {before after : Lines} {answer : Result A Refusal} → k ≤ m → Reads one k before answer after → Reads one m before answer after
wider k m le h = record { read = h.read; text = h.text; lines = omega (arith, h.lines); within = h.within }

-- an answer that must be accepted
pub must_reads : (limit : Answer) {answer : Answer} (here : Lines) → answer ≡ limit → here.reader.at ≤ length here.reader.text.now → Reads (must limit) 0 here answer here
unfolding accepted
must_reads (Ok u) here e h = rw e (record { read = refl; text = refl; lines = omega arith; within = λ ok. h })
must_reads (Err r) here e h = rw e (record { read = refl; text = refl; lines = omega arith; within = λ ok. h })

-- a thing that takes no text
pub given : {A : Type 0} {x y : A} (here : Lines) → x ≡ y → here.reader.at ≤ length here.reader.text.now → Reads (give y) 0 here (Ok x) here
given here e h = rw e (record { read = refl; text = refl; lines = omega arith; within = λ ok. h })

-- ---- things of one kind read into a lent array, `step` lines each

module _ {A : Type 0} (one : Reader A) (step count : ℕ) (before : Lines) where
  -- what holds at the loop's head
  pub record Fills (array : List A) (here : Lines) (i : ℕ) : Type 0 where
    pub filling : Filling one count (stands before) array (stands here) i
    pub text : here.reader.text ≡ before.reader.text
    pub lines : here.line ≤ before.line + step * i
    pub within : here.reader.at ≤ length here.reader.text.now

  module _ (array : List A) (here there : Lines) (i : ℕ) (inv : Fills array here i) (more : i < count) (answer : Result A Refusal) (next : Reads one step here answer there) where
    pub fills_on : (x : A) → answer ≡ Ok x → Fills (set array i x) there (i + 1)
    fills_on x e =
        let r : got x (stands there) ≡ one (stands here) = rw e at next.read in
        let grown : step * (i + 1) ≡ step * i + step = rw add-one (mul-suc step i) in
        record {
          filling = filling_on one count (stands before) array (stands here) i inv.filling x (stands there) more (sym r);
          text = next.text ∙ inv.text;
          lines = omega (arith, inv.lines, next.lines, grown);
          within = next.within (rw e);
        }

    pub fills_stop : {k : ℕ} → step * count ≡ k → {e : Refusal} → answer ≡ Err e → Reads (many count one) k before (Err e) there
    fills_stop all {e} w =
        let r : refused (Err e) ≡ one (stands here) = rw w at next.read in
        let grown : step * (i + 1) ≡ step * i + step = rw add-one (mul-suc step i) in
        let most : step * (i + 1) ≤ step * count = mul-le-mul_left step (omega arith) in
        record {
          read = sym (filling_stops one count (stands before) array (stands here) i inv.filling (Err e) more (sym r));
          text = next.text ∙ inv.text;
          lines = omega (arith, inv.lines, next.lines, grown, most, all);
          within = λ ok. absurd (never ok refl);
        }

  pub fills_end : {k : ℕ} → step * count ≡ k → (array : List A) (here : Lines) (i : ℕ) → Fills array here i → count ≤ i → Reads (many count one) k before (Ok array) here
  fills_end every array here i inv h =
      let all : i ≡ count = omega (arith, inv.filling.low) in
      record {
        read = sym (filling_ends one count (stands before) array (stands here) i inv.filling h);
        text = inv.text;
        lines = rw (all, every) at inv.lines;
        within = λ ok. inv.within;
      }

-- what was read into a part of so many
pub reads_part : {A C : Type 0} (one : ℕ → Reader A) (lines : ℕ → ℕ) (n : ℕ) (part : List C) {before after : Lines} {answer : Result A Refusal}
    → length part ≡ n → Reads (one (length part)) (lines (length part)) before answer after → Reads (one n) (lines n) before answer after
reads_part one lines n part e h = rw e at h

-- the part of a blank array that was lent has the length asked for, and what was read into it fills the array
module _ {A : Type 0} (n m k : ℕ) (z : A) (few : n ≤ m) (same : k ≡ n) where
  pub part_long : length (take k (replicate m z)) ≡ n
  part_long = rw same (length-take-le n (replicate m z) (omega (arith, few, length-replicate m z)))

  pub part_fills : (xs : List A) → length xs ≡ length (take k (replicate m z)) → xs ++ drop k (replicate m z) ≡ filled m z xs
  part_fills xs long =
      let l : length xs ≡ n = long ∙ part_long in
      let e : k ≡ length xs = omega (arith, same, l) in
      rw (e, drop-replicate)

-- ---- the plan at a place of a text

-- its lines would pass the last number
pub told_late : (here : Lines) → last_line < here.line + plan_lines → prefix_told (Err (Refusal.Form here.line)) here ≡ plan_from here.reader.text.now here.reader.at here.line
unfolding plan_from
told_late here h = rw (lt-leb (here.line + plan_lines) last_line h)

-- a plan that was read, or not
pub told_plan : (before after : Lines) (answer : Result Plan Refusal) → before.line + plan_lines ≤ last_line → Reads next_plan plan_lines before answer after
    → prefix_told answer after ≡ plan_from before.reader.text.now before.reader.at before.line
unfolding plan_from
told_plan before after (Ok plan) h r =
    let there : after.reader.at ≤ length before.reader.text.now = rw r.text at r.within refl in
    let n : length before.reader.text.now - length (drop after.reader.at after.reader.text.now) ≡ after.reader.at = rw r.text (omega (arith, length-drop after.reader.at before.reader.text.now)) in
    rw (le-leb (before.line + plan_lines) last_line h, ← r.read, n)
told_plan before after (Err e) h r = rw (le-leb (before.line + plan_lines) last_line h, ← r.read)

-- ---- the plan and nothing after
module _ (before after : Lines) (first : before.line ≡ 1) (start : before.reader.at ≡ 0) where
  pub whole_refused : {e : Refusal} {answer : Result Plan Refusal} → Reads next_plan plan_lines before answer after → answer ≡ Err e → plan_told (Err e) ≡ read_plan before.reader.text.now
  unfolding read_plan only_plan
  whole_refused {e} r w =
      let q : refused (Err e) ≡ next_plan (standing before.reader.text.now 0 1) = rw (w, first, start) at r.read in
      rw (← q)

  module _ {plan : Plan} {answer : Result Plan Refusal} (r : Reads next_plan plan_lines before answer after) (w : answer ≡ Ok plan) where
    was : got plan (stands after) ≡ next_plan (standing before.reader.text.now 0 1)
    was = rw (w, first, start) at r.read

    rest : length (drop after.reader.at after.reader.text.now) ≡ length after.reader.text.now - after.reader.at
    rest = length-drop after.reader.at after.reader.text.now

    pub whole_more : after.reader.at < length before.reader.text.now → plan_told (Err (Refusal.Form after.line)) ≡ read_plan before.reader.text.now
    unfolding read_plan only_plan nothing_after accepted
    whole_more h =
        let l : after.reader.at < length after.reader.text.now = rw r.text h in
        let n : (length (drop after.reader.at after.reader.text.now) =? 0) ≡ false = ne_eqb (length (drop after.reader.at after.reader.text.now)) 0 (λ z. omega (arith, rest)) in
        rw (← was, n)

    pub whole_is : length before.reader.text.now ≤ after.reader.at → plan_told (Ok plan) ≡ read_plan before.reader.text.now
    unfolding read_plan only_plan nothing_after accepted
    whole_is h =
        let l : length after.reader.text.now ≤ after.reader.at = rw r.text h in
        let n : (length (drop after.reader.at after.reader.text.now) =? 0) ≡ true = eq-eqb (length (drop after.reader.at after.reader.text.now)) 0 (omega (arith, rest)) in
        rw (← was, n)

-- ---- a level

-- a level has two letters
pub level_two : (s : List ℕ) → (length s ≡ 2 → ⊥) → None ≡ level_in s
unfolding level_in
level_two s h = rw (sym (same_length s (bytes "HI") h), sym (same_length s (bytes "LO") h))
