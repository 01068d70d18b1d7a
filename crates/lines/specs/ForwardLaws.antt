-- A reader goes forward: what it leaves of the text is an end of it, and a refusal is one of the refusing answers.
-- It holds of a field, of one reader after another, and of many of one kind; so it holds of every reader made of these.
use Rattle.std.specs.Prelude.{◌≡◌, refl, Bool, true, false, ◌&&◌, List, ℕ, zero, suc, ◌+◌, ◌-◌, ◌≤◌, ◌<◌, length, take, drop, if◌then◌else◌}
use Rattle.std.proofs.Common.{ap, ◌∙◌, arith, length-drop, drop-drop, ltb-true}
use Rattle.std.specs.Prelude.{Option, None, Some}
use Prim.Native.String.{String}
use Rattle.answers.specs.Answer.{Answer, accepted}
use Rattle.words.specs.Words.{◌<?◌}
use Rattle.lines.specs.Lines.{bytes, Cursor, Read, got, refused, Reader, onward, must, many, line_length, begins, or_form, value_in, field}

-- s is the end of t from some place on
pub record EndOf (s t : List ℕ) : Type 0 where
  pub place : ℕ
  pub within : place ≤ length t
  pub same : s ≡ drop place t

pub end_self : (t : List ℕ) → EndOf t t
end_self t = record { place = 0; within = omega arith; same = refl }

end_end : {r s t : List ℕ} → EndOf r s → EndOf s t → EndOf r t
end_end {r} {s} {t} a b =
    let l : length s ≡ length t - b.place = ap length b.same ∙ length-drop b.place t in
    record {
      place = b.place + a.place;
      within = omega (arith, a.within, b.within);
      same = a.same ∙ ap (drop a.place) b.same ∙ drop-drop a.place b.place t;
    }

-- the end of t that is so long
pub end_place : {s t : List ℕ} → EndOf s t → (length s ≤ length t) × (s ≡ drop (length t - length s) t)
end_place {s} {t} e =
    let l : length s ≡ length t - e.place = ap length e.same ∙ length-drop e.place t in
    let p : e.place ≡ length t - length s = omega (arith, e.within) in
    (omega arith, rw (← p) e.same)

abbrev pub Forward : {A : Type 0} → List ℕ → Read A → Type 0
Forward t (got a here) = EndOf here.text t
Forward t (refused answer) = accepted answer ≡ false

abbrev pub GoesForward : {A : Type 0} → Reader A → Type 0
GoesForward reader = (here : Cursor) → Forward here.text (reader here)

end_of_end : {A : Type 0} {s t : List ℕ} (r : Read A) → EndOf s t → Forward s r → Forward t r
end_of_end (got a here) f e = end_end e f
end_of_end (refused answer) f e = e

pub onward_forward : {A B : Type 0} (t : List ℕ) (r : Read A) (rest : A → Reader B)
    → Forward t r → ((a : A) → GoesForward (rest a)) → Forward t (onward r rest)
onward_forward t (got a here) rest f g = end_of_end (rest a here) f (g a here)
onward_forward t (refused answer) rest f g = f

pub must_forward : (answer : Answer) → GoesForward (must answer)
must_forward answer here = judged (accepted answer) refl
  where
    judged : (b : Bool) → accepted answer ≡ b → Forward here.text (if b then got (tt {0}) here else refused answer)
    judged true e = end_self here.text
    judged false e = e

pub many_forward : {A : Type 0} (k : ℕ) (one : Reader A) → GoesForward one → GoesForward (many k one)
unfolding many
many_forward zero one f here = end_self here.text
many_forward (suc k) one f here =
    onward_forward here.text (one here) _ (f here)
    (λ first there. onward_forward there.text (many k one there) _ (many_forward k one f there) (λ others onto. end_self onto.text))

pub field_forward : {A : Type 0} (meaning : List ℕ → Option A) (key : String) → GoesForward (field meaning key)
unfolding field value_in accepted
field_forward {A} meaning key here =
    inner (line_length here.text <? length here.text) (begins (bytes key) (take (line_length here.text) here.text)) refl
  where
    meant : (o : Option A) → line_length here.text < length here.text → Forward here.text (or_form o here)
    meant (Some a) h = record { place = suc (line_length here.text); within = h; same = refl }
    meant None h = refl

    inner : (b d : Bool) → (line_length here.text <? length here.text) ≡ b
        → Forward here.text (or_form (if b && d then meaning (drop (length (bytes key)) (take (line_length here.text) here.text)) else None) here)
    inner true true p = meant (meaning (drop (length (bytes key)) (take (line_length here.text) here.text))) (ltb-true _ _ p)
    inner true false p = refl
    inner false d p = refl
