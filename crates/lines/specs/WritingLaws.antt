-- Laws of writing: a piece after a piece is one piece, and what a piece that has room does.
use Prim.Native.Nat.{ℕ, zero, suc, ◌+◌, ◌-◌, ◌/◌, ◌%◌, ◌≤◌, ◌<◌}
use Rattle.std.proofs.Common.{zero-add, arith, sym, ◌∙◌, length-set, drop_at, take-take, length-take-le, le-leb, leb-true, leb-false}
use Rattle.std.proofs.Math.Decide.{dec_lt}
use Rattle.std.specs.Prelude.{◌≡◌, refl, Bool, true, false, not, set}
use Rattle.std.proofs.Math.Path.{ap}
use mathlib.Core.List.{List, [], ◌∷◌, ◌++◌, append_assoc, append-nil}
use Rattle.std.proofs.Math.ListN.{length, take, drop, length-append, length-drop}
use Rattle.std.proofs.Math.Seq.{take_at, drop-drop, drop-append-add, append_snoc}
use Rattle.std.proofs.lemmas.List.{take-append-le, set_split}
use Rattle.std.proofs.lemmas.List.Edits.{sets-eq}
use Rattle.std.proofs.lemmas.Bool.{lt-leb, not-true, not-false}
use Rattle.words.specs.Words.{◌≤?◌}
use Rattle.lines.specs.Lines.{LF, digits}
use Rattle.lines.specs.NumberLaws.{digits_one, digits_more}
use Rattle.lines.specs.Writing.{put, put_fit, place_after, number_line_of}

module _ (at : ℕ) (v d : List ℕ) (room : at + length v ≤ length d) where
  head_long : length (take at d ++ v) ≡ at + length v
  head_long = length-append (take at d) v ∙ ap (λ (k : ℕ). k + length v) (length-take-le at d (omega arith))

  -- no byte more and none less
  pub length_put : length (put at v d) ≡ length d
  unfolding put
  length_put = length-append (take at d ++ v) (drop (at + length v) d) ∙ omega (arith, head_long, length-drop (at + length v) d)

  -- a piece after a piece is one piece
  pub put_put : (w : List ℕ) → put (at + length v) w (put at v d) ≡ put at (v ++ w) d
  unfolding put
  put_put w =
      let h : List ℕ = take at d ++ v in
      let r : List ℕ = drop (at + length v) d in
      let t : take (at + length v) (h ++ r) ≡ h = take_at h r (at + length v) head_long in
      let e : at + length v + length w ≡ length h + length w = omega (arith, head_long) in
      let n : at + length v + length w ≡ at + length (v ++ w) = omega (arith, length-append v w) in
      let q : drop (at + length v + length w) (h ++ r) ≡ drop (at + length (v ++ w)) d =
      ap (λ (k : ℕ). drop k (h ++ r)) e ∙ drop-append-add h r (length w) ∙ drop-drop (length w) (at + length v) d ∙ ap (λ (k : ℕ). drop k d) n in
      ap (λ (x : List ℕ). x ++ w ++ drop (at + length v + length w) (h ++ r)) t
      ∙ ap (λ (x : List ℕ). h ++ w ++ x) q
      ∙ ap (λ (x : List ℕ). x ++ drop (at + length (v ++ w)) d) (append_assoc (take at d) v w)

  -- a piece that has room is written, and the next goes after it
  pub put_fits : put_fit at v d ≡ put at v d
  unfolding put_fit
  put_fits = rw (le-leb (at + length v) (length d) room)

  pub after_fits : place_after at v d ≡ at + length v
  unfolding place_after
  after_fits = rw (le-leb (at + length v) (length d) room)

-- a piece that has no room is not
module _ (at : ℕ) (v d : List ℕ) (none : length d < at + length v) where
  pub put_refused : put_fit at v d ≡ d
  unfolding put_fit
  put_refused = rw (lt-leb (at + length v) (length d) none)

  pub after_refused : place_after at v d ≡ at
  unfolding place_after
  after_refused = rw (lt-leb (at + length v) (length d) none)

-- nothing written
pub put_nil : (at : ℕ) (d : List ℕ) → at ≤ length d → d ≡ put at [] d
unfolding put
put_nil at d h = sets-eq [] d at (omega arith)

-- a byte in front of a piece
pub put_front : (at b : ℕ) (w d : List ℕ) → at + suc (length w) ≤ length d → set (put (suc at) w d) at b ≡ put at (b ∷ w) d
unfolding put
put_front at b w d h =
    let t : take (suc at) d ++ w ++ drop (suc at + length w) d ≡ take (suc at) d ++ (w ++ drop (suc at + length w) d) = append_assoc (take (suc at) d) w (drop (suc at + length w) d) in
    let l : length (take (suc at) d) ≡ suc at = length-take-le (suc at) d (omega arith) in
    let n : at < length (take (suc at) d ++ (w ++ drop (suc at + length w) d)) = omega (arith, length-append (take (suc at) d) (w ++ drop (suc at + length w) d)) in
    let k : suc at + length w ≡ at + suc (length w) = omega arith in
    let x : take at (take (suc at) d ++ (w ++ drop (suc at + length w) d)) ≡ take at d =
    take-append-le at (take (suc at) d) _ (omega arith) ∙ take-take at (suc at) d (omega arith) in
    let y : drop (suc at) (take (suc at) d ++ (w ++ drop (suc at + length w) d)) ≡ w ++ drop (suc at + length w) d = drop_at (take (suc at) d) _ (suc at) l in
    rw (t, set_split _ at b n, x, y, k) (sym (append_assoc (take at d) (b ∷ w) (drop (at + suc (length w)) d)))

-- written from the start: the piece, and then what was there
pub put_start : (w d : List ℕ) → put 0 w d ≡ w ++ drop (length w) d
unfolding put
put_start w d = rw zero-add

pub line_length_lem : (key : List ℕ) (n : ℕ) → length (number_line_of key n) ≡ length key + length (digits n) + 1
line_length_lem key n = length-append (key ++ digits n) (LF ∷ []) ∙ ap (λ (k : ℕ). k + 1) (length-append key (digits n))

-- one piece after the other, with room for both, is one piece
module _ (at : ℕ) (v w d : List ℕ) (room : at + length (v ++ w) ≤ length d) where
  pub first_room : at + length v ≤ length d
  first_room = omega (arith, length-append v w)

  -- the second still has room after the first
  pub then_room : (a : ℕ) (d₁ : List ℕ) → a ≡ place_after at v d → d₁ ≡ put_fit at v d → a + length w ≤ length d₁
  then_room a d₁ ea e₁ =
      let l : length d₁ ≡ length d = ap length (e₁ ∙ put_fits at v d first_room) ∙ length_put at v d first_room in
      omega (arith, ea ∙ after_fits at v d first_room, length-append v w)

  pub fit_then : (a r : ℕ) (d₁ d₂ : List ℕ) → a ≡ place_after at v d → d₁ ≡ put_fit at v d → r ≡ place_after a w d₁ → d₂ ≡ put_fit a w d₁
      → (r ≡ place_after at (v ++ w) d) × (d₂ ≡ put_fit at (v ++ w) d)
  fit_then a r d₁ d₂ ea e₁ er e₂ =
      let a' : a ≡ at + length v = ea ∙ after_fits at v d first_room in
      let p : d₁ ≡ put at v d = e₁ ∙ put_fits at v d first_room in
      let room' : a + length w ≤ length d₁ = then_room a d₁ ea e₁ in
      let n : length (v ++ w) ≡ length v + length w = length-append v w in
      let r' : r ≡ at + length (v ++ w) = omega (arith, er ∙ after_fits a w d₁ room') in
      let q : d₂ ≡ put at (v ++ w) d = e₂ ∙ put_fits a w d₁ room' ∙ ap (λ (k : ℕ). put k w d₁) a' ∙ ap (put (at + length v) w) p ∙ put_put at v d first_room w in
      (r' ∙ sym (after_fits at (v ++ w) d room), q ∙ sym (put_fits at (v ++ w) d room))

-- what the test of the room tells: t is its answer for a piece of len bytes
pub piece_room : (at len long room : ℕ) → len ≡ long → (t : Bool) → t ≡ (at + len ≤? room) → not t ≡ false → at + long ≤ room
piece_room at len long room p t e h = let r : at + len ≤ room = leb-true (at + len) room (sym e ∙ not-false t h) in omega arith

pub piece_refused : (at len : ℕ) (w d : List ℕ) → len ≡ length w → (t : Bool) → t ≡ (at + len ≤? length d) → not t ≡ true → (at ≡ place_after at w d) × (d ≡ put_fit at w d)
piece_refused at len w d p t e h =
    let r : length d < at + len = leb-false (at + len) (length d) (sym e ∙ not-true t h) in
    let none : length d < at + length w = omega arith in
    (sym (after_refused at w d none), sym (put_refused at w d none))

-- a piece written with room for it
pub piece_written : (at : ℕ) (w d : List ℕ) → at + length w ≤ length d → (r : ℕ) (d' : List ℕ) → r ≡ at + length w → d' ≡ put at w d → (r ≡ place_after at w d) × (d' ≡ put_fit at w d)
piece_written at w d room r d' p q = (p ∙ sym (after_fits at w d room), q ∙ sym (put_fits at w d room))

-- ---- digits from the last to the first

-- one digit fewer
pub digits_shorter : (n : ℕ) → 10 ≤ n → length (digits n) ≡ length (digits (n / 10)) + 1
digits_shorter n h = ap length (digits_more n h) ∙ length-append (digits (n / 10)) ((48 + n % 10) ∷ [])

-- at least one, and not more than n + 1
digits_upto : (k n : ℕ) → n ≤ k → (1 ≤ length (digits n)) × (length (digits n) ≤ n + 1)
digits_upto zero n h = rw (digits_one n (omega arith)) (omega arith)
digits_upto (suc k) n h =
    elim (dec_lt n 10) [
      | yes s ↦ rw (digits_one n s) (omega arith)
      | no s ↦ omega (arith, digits_shorter n (omega arith), digits_upto k (n / 10) (omega arith))
    ]

pub digits_bound : (n : ℕ) → (1 ≤ length (digits n)) × (length (digits n) ≤ n + 1)
digits_bound n = digits_upto n n (omega arith)

-- a number of one digit is below 10, one of more is not
pub digits_few : (n : ℕ) → length (digits n) ≤ 1 → n < 10
digits_few n h =
    elim (dec_lt n 10) [
      | yes s ↦ s
      | no s ↦ absurd (omega (arith, digits_shorter n (omega arith), digits_bound (n / 10)))
    ]

pub digits_many : (n : ℕ) → 2 ≤ length (digits n) → 10 ≤ n
digits_many n h =
    elim (dec_lt n 10) [
      | yes s ↦ absurd (omega (arith, ap length (digits_one n s)))
      | no s ↦ omega arith
    ]

-- the last digits of n stand in the output from `end + 1` on, and those of `rest` are left
pub record Tail (n at : ℕ) (out₀ out : List ℕ) (end rest : ℕ) : Type 0 where
  pub tail : List ℕ
  pub whole : digits n ≡ digits rest ++ tail
  pub place : end + 1 ≡ at + length (digits rest)
  pub text : out ≡ put (suc end) tail out₀
  pub long : length out ≡ length out₀
  pub fits : at + length (digits n) ≤ length out₀

pub tail_start : (n at : ℕ) (out : List ℕ) → at + length (digits n) ≤ length out → Tail n at out out (at + length (digits n) - 1) n
tail_start n at out h =
    record {
      tail = [];
      whole = sym (append-nil (digits n));
      place = omega (arith, digits_bound n);
      text = put_nil (suc (at + length (digits n) - 1)) out (omega (arith, digits_bound n));
      long = refl;
      fits = h;
    }

module _ (n at : ℕ) (out₀ out : List ℕ) (end rest : ℕ) (t : Tail n at out₀ out end rest) where
  tail_length : length (digits n) ≡ length (digits rest) + length t.tail
  tail_length = ap length t.whole ∙ length-append (digits rest) t.tail

  pub tail_room : end < length out
  tail_room = omega (arith, t.long, t.place, t.fits, tail_length, digits_bound rest)

  -- the digit before them
  tail_set : (b : ℕ) → set out end b ≡ put end (b ∷ t.tail) out₀
  tail_set b = ap (λ (d : List ℕ). set d end b) t.text ∙ put_front end b t.tail out₀ (omega (arith, t.place, t.fits, tail_length))

  pub tail_more : 10 ≤ rest → Tail n at out₀ (set out end (48 + rest % 10)) (end - 1) (rest / 10)
  tail_more h =
      let e : end ≡ suc (end - 1) = omega (arith, t.place, digits_shorter rest h, digits_bound (rest / 10)) in
      record {
        tail = (48 + rest % 10) ∷ t.tail;
        whole = t.whole ∙ ap (λ (w : List ℕ). w ++ t.tail) (digits_more rest h) ∙ append_snoc (digits (rest / 10)) (48 + rest % 10) t.tail;
        place = omega (arith, t.place, digits_shorter rest h, digits_bound (rest / 10));
        text = tail_set (48 + rest % 10) ∙ ap (λ (k : ℕ). put k ((48 + rest % 10) ∷ t.tail) out₀) e;
        long = length-set out end (48 + rest % 10) ∙ t.long;
        fits = t.fits;
      }

  -- the first one: all stand there
  pub tail_done : rest < 10 → set out end (48 + rest) ≡ put at (digits n) out₀
  tail_done h =
      let d : digits rest ≡ (48 + rest) ∷ [] = digits_one rest h in
      let e : end ≡ at = omega (arith, t.place, ap length d) in
      tail_set (48 + rest) ∙ ap (λ (k : ℕ). put k ((48 + rest) ∷ t.tail) out₀) e ∙ ap (λ (w : List ℕ). put at w out₀) (sym (t.whole ∙ ap (λ (w : List ℕ). w ++ t.tail) d))

-- room for the line is room for its key and number
pub key_room : (at : ℕ) (key : List ℕ) (n : ℕ) (d : List ℕ) → at + length (number_line_of key n) ≤ length d → at + length (key ++ digits n) ≤ length d
key_room at key n d h = omega (arith, length-append (key ++ digits n) (LF ∷ []))
