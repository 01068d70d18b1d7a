-- The report on the first line of a text, and its laws: it is the definitions' field, and its line is closed.
use Rattle.std.specs.Prelude.{ℕ, suc, ◌+◌, ◌-◌, ◌≤◌, ◌≡◌, refl, false, List, [], ◌∷◌, length, get_or, take, drop, Option, Some, None, option_map, ◌==◌, position, option_and_then}
use Rattle.std.specs.List.{position_or_len}
use Rattle.std.proofs.Common.{add-one, arith, ap, sym, ◌∙◌, drop_of_length-le, take_all, length-drop}
use borrow.Author.Tests.{lt-ltb, le-ltb, ne_eqb}
use Rattle.std.proofs.lemmas.Option.{same_Some}
use Rattle.entries.specs.declared.Kind.{Kind}
use Rattle.answers.specs.Answer.{Form}
use Rattle.words.specs.Words.{◌=?◌}
use Rattle.words.specs.Cases.{by_less, by_test}
use Rattle.executive.specs.declared.Report.{Report}
use Rattle.lines.specs.Lines.{bytes, comma, same_bytes, number, got, refused, line_length, or_form, value_in, field}
use Rattle.lines.specs.Reading.{field_at}
use Rattle.lines.specs.ReadingLaws.{same_length, value_within}
use Rattle.lines.specs.RoundLaws.{cursor}
use Rattle.console.specs.Run.{kind_in, before_comma, report, report_in}

-- the report on the first line, and the place of the line after it
abbrev pub report_at : List ℕ → Option (Report × ℕ)
report_at text = field_at report_in text 0 (bytes "report=")

-- ---- the comma

-- a kind has three letters or four
pub kind_none : (s : List ℕ) → (length s ≡ 3 → ⊥) → (length s ≡ 4 → ⊥) → None ≡ kind_in s
unfolding kind_in
kind_none s three four = rw (sym (same_length s (bytes "end") three), sym (same_length s (bytes "more") four), sym (same_length s (bytes "none") four))

-- another first byte, another word
other_first : (s : List ℕ) (b : ℕ) (t : List ℕ) → (get_or s 0 0 ≡ b → ⊥) → same_bytes s (b ∷ t) ≡ false
unfolding same_bytes
other_first [] b t h = refl
other_first (a ∷ s) b t h = rw (ne_eqb a b h)

pub kind_three : (s : List ℕ) → length s ≡ 3 → (get_or s 0 0 ≡ 101 → ⊥) → None ≡ kind_in s
unfolding kind_in
kind_three s l e = rw (other_first s 101 _ e, sym (same_length s (bytes "more") (λ h. omega arith)), sym (same_length s (bytes "none") (λ h. omega arith)))

pub kind_four : (s : List ℕ) → length s ≡ 4 → (get_or s 0 0 ≡ 109 → ⊥) → (get_or s 0 0 ≡ 110 → ⊥) → None ≡ kind_in s
unfolding kind_in
kind_four s l m n = rw (sym (same_length s (bytes "end") (λ h. omega arith)), other_first s 109 _ m, other_first s 110 _ n)

comma_or_len : (s : List ℕ) → before_comma s ≡ position_or_len (λ (b : ℕ). b == 44) s
unfolding before_comma
comma_or_len [] = refl
comma_or_len (b ∷ s) = by_test (b =? comma) (λ e. rw e) (λ e. rw (e, comma_or_len s) (omega arith))

pub comma_within : (s : List ℕ) → before_comma s ≤ length s
unfolding before_comma
comma_within [] = omega arith
comma_within (b ∷ s) = by_test (b =? comma) (λ e. rw e (omega arith)) (λ e. rw e (omega (arith, comma_within s)))

-- all that is from a place on
pub rest_after : (k : ℕ) (s : List ℕ) → take (length s - k) (drop k s) ≡ drop k s
rest_after k s = take_all (length s - k) (drop k s) (omega (arith, length-drop k s))

-- a report read: its comma is found, then its slot is a number, then its kind is one
abbrev pub from_comma : List ℕ → ℕ → Option Report
from_comma s k = option_and_then (λ (slot : ℕ). option_map (λ (kind : Kind). record { slot = slot; kind = kind }) (kind_in (drop (k + 1) s))) (number (take k s))

pub report_steps : (s : List ℕ) → report_in s ≡ option_and_then (from_comma s) (position (λ (b : ℕ). b == 44) s)
unfolding report_in kind_in same_bytes
report_steps s =
    by_less (before_comma s) (length s)
    (λ h. let place : position (λ (b : ℕ). b == 44) s ≡ Some (before_comma s) = rw (← comma_or_len s, lt-ltb (before_comma s) (length s) h) in
    rw (place, add-one) (pick (number (take (before_comma s) s)) (kind_in (drop (suc (before_comma s)) s))))
    (λ h. let place : position (λ (b : ℕ). b == 44) s ≡ None = rw (← comma_or_len s, le-ltb (before_comma s) (length s) h) in
    let rest : drop (suc (before_comma s)) s ≡ [] = drop_of_length-le s {i = suc (before_comma s)} (omega arith) in
    rw (place, rest) (kindless (number (take (before_comma s) s))))
  where
    pick : (o : Option ℕ) (q : Option Kind) → report o q ≡ option_and_then (λ (slot : ℕ). option_map (λ (kind : Kind). record { slot = slot; kind = kind }) q) o
    pick None q = refl
    pick (Some n) None = refl
    pick (Some n) (Some kind) = refl

    kindless : (o : Option ℕ) → report o (kind_in []) ≡ None
    kindless None = refl
    kindless (Some n) = refl

-- ---- the report on the first line

-- a report and the place of the line after it
abbrev with_next : List ℕ → Option Report → Option (Report × ℕ)
with_next t o = option_map (λ (r : Report). (r, suc (line_length t))) o

pub report_at_lem : (t : List ℕ) → report_at t ≡ with_next t (value_in report_in (bytes "report=") t)
unfolding field_at
report_at_lem t = let n : 0 + line_length t + 1 ≡ suc (line_length t) = omega arith in rw n

module _ (t : List ℕ) where
  -- it is the definitions' field
  pub report_got : (r : Report) (next l : ℕ) → ◌≡◌ {A = Option (Report × ℕ)} (Some (r, next)) (report_at t) → (field report_in "report=" (cursor l t) ≡ got r (cursor (suc l) (drop next t))) × (next ≡ suc (line_length t))
  unfolding field
  report_got r next l e = pick (value_in report_in (bytes "report=") t) (e ∙ report_at_lem t)
    where
      pick : (o : Option Report) → ◌≡◌ {A = Option (Report × ℕ)} (Some (r, next)) (with_next t o) → (or_form o (cursor l t) ≡ got r (cursor (suc l) (drop next t))) × (next ≡ suc (line_length t))
      pick (Some x) e = let p : r ≡ x = ap (λ (y : Report × ℕ). y.0) (same_Some _ _ e) in let q : next ≡ suc (line_length t) = ap (λ (y : Report × ℕ). y.1) (same_Some _ _ e) in (rw (p, q), q)
      pick None e = absurd (let z : ◌≡◌ {A = ℕ} 0 1 = cc in omega arith)

  pub report_bad : (l : ℕ) → None ≡ report_at t → field report_in "report=" (cursor l t) ≡ refused (Form l)
  unfolding field
  report_bad l e = pick (value_in report_in (bytes "report=") t) (e ∙ report_at_lem t)
    where
      pick : (o : Option Report) → ◌≡◌ {A = Option (Report × ℕ)} None (with_next t o) → or_form o (cursor l t) ≡ refused (Form l)
      pick (Some x) e = absurd (let z : ◌≡◌ {A = ℕ} 0 1 = cc in omega arith)
      pick None e = refl

  -- the line is closed
  pub report_within : (r : Report) (next : ℕ) → ◌≡◌ {A = Option (Report × ℕ)} (Some (r, next)) (report_at t) → next ≤ length t
  report_within r next e = pick (value_in report_in (bytes "report=") t) refl (e ∙ report_at_lem t)
    where
      pick : (o : Option Report) → value_in report_in (bytes "report=") t ≡ o → ◌≡◌ {A = Option (Report × ℕ)} (Some (r, next)) (with_next t o) → next ≤ length t
      pick (Some x) p e = let q : next ≡ suc (line_length t) = ap (λ (y : Report × ℕ). y.1) (same_Some _ _ e) in omega (arith, value_within report_in (bytes "report=") t 0 0 0 x p)
      pick None p e = absurd (let z : ◌≡◌ {A = ℕ} 0 1 = cc in omega arith)
