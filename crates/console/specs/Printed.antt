-- The printed lines by their values, and that the pieces which the code writes are the line.
use Rattle.std.specs.Prelude.{ℕ, ◌≡◌, refl, ℤ, Err}
use mathlib.Core.List.{List, [], ◌∷◌, ◌++◌, append_assoc}
use Rattle.answers.specs.declared.Refusal.{Refusal}
use Rattle.answers.specs.Answer.{number_of, places_of, first_place}
use Rattle.intervals.specs.declared.Interval.{Interval}
use Rattle.executive.specs.declared.Phase.{Phase}
use Rattle.executive.specs.declared.Run.{Run}
use Rattle.executive.specs.declared.Choice.{Choice}
use Rattle.entries.specs.declared.Entry.{Entry}
use Rattle.lines.specs.Lines.{bytes, LF, comma, digits}
use Rattle.console.specs.Print.{signed, commas, values, refused_line}
use Rattle.console.specs.Run.{job_number, phase_letter, standing_letter}

-- `interval=start,end,hi,lo`
abbrev pub interval_line : Interval → ℤ → ℤ → List ℕ
interval_line x hi lo = values "interval=" (digits x.start ∷ digits x.end ∷ signed hi ∷ signed lo ∷ [])

-- `step=slot,job,phase,hi,lo`
abbrev pub step_line_of : ℕ → ℕ → Phase → ℤ → ℤ → List ℕ
step_line_of slot job phase hi lo = values "step=" (digits slot ∷ digits job ∷ phase_letter phase ∷ signed hi ∷ signed lo ∷ [])

-- of the run before the slot and the choice that its step made
abbrev pub step_line_from : Run → Choice → List ℕ
step_line_from r choice = step_line_of r.t (job_number choice.slot) r.phase choice.hi choice.lo

-- `job=number,standing,given`
abbrev pub job_line : ℕ → Entry → List ℕ
job_line k e = values "job=" (digits k ∷ standing_letter e.standing ∷ digits e.given ∷ [])

-- ---- values, each with the byte that closes it, are the values with commas between, and LF

module _ (key a b : List ℕ) where
  pub two_values : key ++ (a ++ comma ∷ []) ++ (b ++ LF ∷ []) ≡ key ++ commas (a ∷ b ∷ []) ++ LF ∷ []
  unfolding commas
  two_values = simp append_assoc

  pub three_values : (c : List ℕ) → key ++ (a ++ comma ∷ []) ++ (b ++ comma ∷ []) ++ (c ++ LF ∷ []) ≡ key ++ commas (a ∷ b ∷ c ∷ []) ++ LF ∷ []
  unfolding commas
  three_values c = simp append_assoc

  pub four_values : (c d : List ℕ) → key ++ (a ++ comma ∷ []) ++ (b ++ comma ∷ []) ++ (c ++ comma ∷ []) ++ (d ++ LF ∷ []) ≡ key ++ commas (a ∷ b ∷ c ∷ d ∷ []) ++ LF ∷ []
  unfolding commas
  four_values c d = simp append_assoc

  pub five_values : (c d e : List ℕ) → key ++ (a ++ comma ∷ []) ++ (b ++ comma ∷ []) ++ (c ++ comma ∷ []) ++ (d ++ comma ∷ []) ++ (e ++ LF ∷ []) ≡ key ++ commas (a ∷ b ∷ c ∷ d ∷ e ∷ []) ++ LF ∷ []
  unfolding commas
  five_values c d e = simp append_assoc

-- ---- a refusal has one place, and 8 has two

one_place : (r : Refusal) → ((a b : ℕ) → r ≡ Refusal.Overfull a b → ⊥) → places_of (Err r) ≡ first_place (Err r) ∷ []
one_place (Refusal.Form line) h = refl
one_place Refusal.SlotLimit h = refl
one_place Refusal.JobLimit h = refl
one_place (Refusal.Window job) h = refl
one_place (Refusal.Budget job) h = refl
one_place (Refusal.TableSlot slot) h = refl
one_place (Refusal.TableCount job) h = refl
one_place (Refusal.Overfull a b) h = absurd (h a b refl)
one_place (Refusal.Overdrawn border) h = refl
one_place Refusal.Incoherent h = refl
one_place (Refusal.Over t) h = refl
one_place (Refusal.OtherSlot t) h = refl
one_place (Refusal.WrongKind t) h = refl
one_place (Refusal.NoRoom bytes) h = refl
one_place (Refusal.Chopped job) h = refl

module _ (r : Refusal) (n : ℕ) (number : n ≡ number_of (Err r)) where
  pub refused_one : ((a b : ℕ) → r ≡ Refusal.Overfull a b → ⊥) → (p : ℕ) → p ≡ first_place (Err r) → bytes "refused=" ++ (digits n ++ comma ∷ []) ++ (digits p ++ LF ∷ []) ≡ refused_line (Err r)
  unfolding refused_line
  refused_one h p place = rw (number, place, one_place r h) (two_values (bytes "refused=") (digits (number_of (Err r))) (digits (first_place (Err r))))

  pub refused_two : (a b : ℕ) → r ≡ Refusal.Overfull a b → bytes "refused=" ++ (digits n ++ comma ∷ []) ++ (digits a ++ comma ∷ []) ++ (digits b ++ LF ∷ []) ≡ refused_line (Err r)
  unfolding refused_line
  refused_two a b is = rw (number, is) (three_values (bytes "refused=") (digits 8) (digits a) (digits b))
