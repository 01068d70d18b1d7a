-- Pieces of a printed line: what it means that one was written at a place of an output, and that pieces one after the other are one piece.
use Rattle.std.specs.Prelude.{ℕ, zero, suc, ◌+◌, ◌*◌, ◌/◌, ◌%◌, ◌^◌, ◌≤◌, ◌<◌, ◌≡◌, List, [], ◌++◌, length, take, drop}
use Rattle.std.proofs.Common.{pow-suc, arith, sym, ap, ◌∙◌, length-append, length-take-le, append_assoc, take-append-drop}
use Rattle.std.specs.Array.{IsFirstChunk}
use Rattle.std.proofs.lemmas.List.{drop-append-le}
use Rattle.std.proofs.Math.Decide.{dec_lt}
use Rattle.lines.specs.Lines.{digits}
use Rattle.lines.specs.NumberLaws.{digits_one, digits_more}
use Rattle.lines.specs.Writing.{put, put_fit, place_after}
use Rattle.lines.specs.WritingLaws.{put_fits, after_fits, length_put, put_put, put_nil, put_start, digits_shorter}

-- w, at most `most` bytes, was written into d at a place: r is the place after it, e the output then
pub record Piece (most at : ℕ) (w d : List ℕ) (r : ℕ) (e : List ℕ) : Type 0 where
  pub place : r ≡ at + length w
  pub text : e ≡ put at w d
  pub short : length w ≤ most

-- a piece that has room is written
pub piece_fit : (at : ℕ) (w d : List ℕ) (r : ℕ) (e : List ℕ) → at + length w ≤ length d → r ≡ place_after at w d → e ≡ put_fit at w d → Piece (length w) at w d r e
piece_fit at w d r e room p q = record { place = p ∙ after_fits at w d room; text = q ∙ put_fits at w d room; short = omega arith }

-- the piece of no bytes
pub piece_none : (at : ℕ) (d : List ℕ) → at ≤ length d → Piece 0 at [] d at d
piece_none at d h = record { place = omega arith; text = put_nil at d h; short = omega arith }

-- a larger bound serves too
pub piece_within : {m n at r : ℕ} {w d e : List ℕ} → Piece m at w d r e → m ≤ n → Piece n at w d r e
piece_within p h = record { place = p.place; text = p.text; short = omega (arith, p.short) }

module _ {m at a : ℕ} {v d e : List ℕ} (p : Piece m at v d a e) where
  -- writing keeps the output's length
  pub piece_long : at + m ≤ length d → length e ≡ length d
  piece_long h = ap length p.text ∙ length_put at v d (omega (arith, p.short))

  -- room for the next piece
  pub piece_room : (n : ℕ) → at + (m + n) ≤ length d → a + n ≤ length e
  piece_room n h = omega (arith, piece_long (omega arith), p.place, p.short)

  -- a piece after a piece is one piece
  pub piece_then : {n r : ℕ} {w f : List ℕ} → Piece n a w e r f → at + (m + n) ≤ length d → Piece (m + n) at (v ++ w) d r f
  piece_then {n} {r} {w} {f} q h =
      let room : at + length v ≤ length d = omega (arith, p.short) in
      record {
        place = omega (arith, p.place, q.place, length-append v w);
        text = q.text ∙ ap (λ (k : ℕ). put k w e) p.place ∙ ap (put (at + length v) w) p.text ∙ put_put at v d room w;
        short = omega (arith, p.short, q.short, length-append v w);
      }

-- ---- how many digits

pub digits_within : (k n : ℕ) → n < 10 ^ suc k → length (digits n) ≤ suc k
digits_within zero n h = rw (digits_one n (omega arith)) (omega arith)
digits_within (suc k) n h =
    let e : 10 ^ suc (suc k) ≡ 10 ^ suc k * 10 = pow-suc 10 (suc k) in
    elim (dec_lt n 10) [
      | yes s ↦ rw (digits_one n s) (omega arith)
      | no s ↦ omega (arith, digits_shorter n (omega arith), digits_within k (n / 10) (omega arith))
    ]

-- a 64-bit number has at most twenty
pub digits_twenty : (n : ℕ) → n < 2 ^ 64 → length (digits n) ≤ 20
digits_twenty n h = digits_within 19 n (omega arith)

-- the last digit after the others
pub digits_last : (n : ℕ) → 10 ≤ n → digits (n / 10) ++ digits (n % 10) ≡ digits n
digits_last n h = ap (λ (w : List ℕ). digits (n / 10) ++ w) (digits_one (n % 10) (omega arith)) ∙ sym (digits_more n h)

-- no printed line is longer
abbrev pub longest : ℕ
longest = 128

-- a piece that is this text
pub piece_is : {m at r : ℕ} {v w d e : List ℕ} → v ≡ w → Piece m at v d r e → Piece m at w d r e
piece_is {m} {at} {r} {v} {w} {d} {e} q p = record { place = p.place ∙ ap (λ (x : List ℕ). at + length x) q; text = p.text ∙ ap (λ (x : List ℕ). put at x d) q; short = rw (← q) p.short }

-- n counts bytes at the start of xs; the second part follows from the first, and is what a program that lends these bytes has to show
abbrev pub CountsIn : ℕ → List ℕ → Type 0
CountsIn n xs = (n ≤ length xs) × (n ≡ length (take n xs))

pub counts_in_lem : (n : ℕ) (xs : List ℕ) → n ≤ length xs → CountsIn n xs
counts_in_lem n xs h = (h, sym (length-take-le n xs h))

-- what was written at the start of an output's first n bytes stands at the start of the output
pub chunk_put : (n : ℕ) (w d e : List ℕ) → IsFirstChunk d e n → length w ≤ n → put 0 w e ++ drop n d ≡ put 0 w d
chunk_put n w d e k few =
    let long : length e ≡ n = omega (arith, ap length k.same, length-take-le n d k.enough) in
    let whole : e ++ drop n d ≡ d = ap (λ (x : List ℕ). x ++ drop n d) k.same ∙ take-append-drop n d in
    ap (λ (x : List ℕ). x ++ drop n d) (put_start w e)
    ∙ append_assoc w (drop (length w) e) (drop n d)
    ∙ ap (λ (x : List ℕ). w ++ x) (sym (drop-append-le (length w) e (drop n d) (omega arith)) ∙ ap (drop (length w)) whole)
    ∙ sym (put_start w d)
