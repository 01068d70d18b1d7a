-- The sheet: an output and the place in it where the next piece goes. What it means that a text is put on it, and texts one after the other.
use Rattle.std.specs.Prelude.{ℕ, ◌+◌, ◌≤◌, ◌≡◌, refl, List, [], ◌++◌, length}
use Rattle.std.proofs.Common.{arith, ◌∙◌}
use Rattle.lines.specs.Writing.{put_fit, place_after}
use Rattle.console.specs.Pieces.{Piece, piece_fit, piece_none, piece_within, piece_room, piece_then, piece_is}
use Rattle.console.specs.declared.print.Sheet.{Sheet}

-- the text, at most `most` bytes, is put on the sheet where there is room for so many; the sheet stays on the same output
pub record Puts (most : ℕ) (text : List ℕ) (before after : Sheet) : Type 0 where
  pub piece : before.at + most ≤ length before.out.now → Piece most before.at text before.out.now after.at after.out.now
  pub same_output : after.out.ghost_name ≡ before.out.ghost_name

-- bytes that are written where they have room
pub puts_fit : (w : List ℕ) (a b : Sheet) → b.at ≡ place_after a.at w a.out.now → b.out.now ≡ put_fit a.at w a.out.now → b.out.ghost_name ≡ a.out.ghost_name
    → Puts (length w) w a b
puts_fit w a b p q n = record { piece = λ h. piece_fit _ _ _ _ _ h p q; same_output = n }

-- a sheet on which nothing was put
pub puts_none : (a : Sheet) → Puts 0 [] a a
puts_none a = record { piece = λ h. piece_none _ _ (omega (arith, h)); same_output = refl }

-- a larger bound serves too
pub puts_within : {m n : ℕ} {w : List ℕ} {a b : Sheet} → Puts m w a b → m ≤ n → Puts n w a b
puts_within p few = record { piece = λ h. piece_within (p.piece (omega (arith, h, few))) few; same_output = p.same_output }

-- a text after a text is one text
pub puts_then : {m n : ℕ} {v w : List ℕ} {a b c : Sheet} → Puts m v a b → Puts n w b c → Puts (m + n) (v ++ w) a c
puts_then {m} {n} p q =
    record {
      piece = λ h. (
          let one = p.piece (omega (arith, h)) in
          piece_then one (q.piece (piece_room one n h)) h);
      same_output = q.same_output ∙ p.same_output;
    }

-- a text that is this text
pub puts_is : {m : ℕ} {v w : List ℕ} {a b : Sheet} → v ≡ w → Puts m v a b → Puts m w a b
puts_is e p = record { piece = λ h. piece_is e (p.piece h); same_output = p.same_output }
