-- Laws of the run program on a whole text: what is still to be printed after an event, and where the console waits.
use Prim.Native.Nat.{ℕ, ◌+◌, ◌-◌, ◌≤◌, ◌<◌}
use Rattle.std.proofs.Common.{zero-add, arith, sym, ◌∙◌, take_all, le-leb, leb-true}
use Rattle.std.specs.Prelude.{◌≡◌, refl, Bool, not, Option, None, Some}
use Rattle.std.proofs.Math.Path.{ap}
use Rattle.std.proofs.Math.Bool.{true, false}
use mathlib.Core.List.{List, [], ◌∷◌, ◌++◌, append-nil, append_assoc}
use Rattle.std.proofs.Math.ListN.{length, take, drop, length-append, length-drop}
use Rattle.std.proofs.Math.Seq.{take-append_seam}
use Rattle.std.proofs.lemmas.Bool.{lt-leb, not-false}
use Rattle.words.specs.Words.{◌≤?◌}
use Rattle.words.specs.Cases.{by_less, by_test}
use Rattle.lines.specs.Writing.{put, put_fit, place_after}
use Rattle.lines.specs.WritingLaws.{put_fits, after_fits, length_put, put_put, put_start, piece_refused, piece_written}
use Rattle.console.specs.declared.run.Console.{Console}
use Rattle.console.specs.declared.run.Turn.{Turn}
use Rattle.console.specs.Run.{run_output}
use Rattle.console.specs.Console.{fresh_console, turn_of, event, end_output, session, next_turn, next_out, end_length, end_written, run_room}
use Rattle.console.specs.ProgressLaws.{rests, rests_after}
use Rattle.console.specs.SessionLaws.{todo, event_less, session_output}
use Rattle.embed.specs.Rest.{rest, Counting, Writing}

-- ---- the rest

pub rest_whole : (s : List ℕ) → rest fresh_console s ≡ run_output s
unfolding rest session
rest_whole s = session_output (s ∷ []) ∙ ap run_output (append-nil s)

module _ (c : Console) (s : List ℕ) where
  pub rest_waits : (event c s).waiting ≡ true → rest c s ≡ end_output c s
  unfolding rest
  rest_waits h = rw (rests c s h)

  pub rest_goes : (event c s).waiting ≡ false → rest c s ≡ (event c s).printed ++ rest (event c s).console (drop (event c s).used s)
  unfolding rest
  rest_goes h = rw (rests_after c s h) (append_assoc (event c s).printed _ _)

-- ---- one event and the end, as the console answers them

-- what was put at the start, taken again
put_taken : (w d : List ℕ) → take (length w) (put 0 w d) ≡ w
put_taken w d = ap (take (length w)) (put_start w d) ∙ take-append_seam w _

-- the part of a text from a place on, as it is lent
lent_from : (at : ℕ) (s : List ℕ) → take (length s - at) (drop at s) ≡ drop at s
lent_from at s = take_all (length s - at) (drop at s) (omega (arith, length-drop at s))

-- a turn is the event's
pub record Goes (c : Console) (s : List ℕ) (turn : Turn) : Type 0 where
  pub goes : (event c s).waiting ≡ false
  pub console : turn.console ≡ (event c s).console
  pub used : turn.used ≡ (event c s).used
  pub printed : turn.printed ≡ length (event c s).printed

-- there is then less to do
pub goes_less : (c : Console) (s : List ℕ) (turn : Turn) → Goes c s turn → todo turn.console (take (length s - turn.used) (drop turn.used s)) < todo c s
goes_less c s turn g = rw (lent_from turn.used s, g.console, g.used) (event_less c s g.goes)

module _ (c : Console) (s d : List ℕ) (room : length d ≡ run_room) where
  has_room_lem : (run_room ≤? length d) ≡ true
  has_room_lem = le-leb run_room (length d) (omega arith)

  -- the console waits
  pub next_waits : None ≡ next_turn c s d → (event c s).waiting ≡ true
  unfolding next_turn
  next_waits e = by_test (event c s).waiting (λ w. w) (λ w. absurd (let z : ◌≡◌ {A = Option Turn} None (turn_of (event c s)) = rw has_room_lem at e in let y = rw w at z in cc))

  -- the event, and what is printed
  pub next_goes : (turn : Turn) → Some turn ≡ next_turn c s d → Goes c s turn
  unfolding next_turn
  next_goes turn e =
      let is : ◌≡◌ {A = Option Turn} (Some turn) (turn_of (event c s)) = rw has_room_lem at e in
      by_test (event c s).waiting
      (λ w. absurd (let none : ◌≡◌ {A = Option Turn} (Some turn) None = rw w at is in cc))
      (λ w.
      let same : turn ≡ record { console = (event c s).console; used = (event c s).used; printed = length (event c s).printed } = (let one = rw w at is in cc) in
      record { goes = w; console = ap (λ (t : Turn). t.console) same; used = ap (λ (t : Turn). t.used) same; printed = ap (λ (t : Turn). t.printed) same })

  pub next_printed : (turn : Turn) (printed : List ℕ) → Goes c s turn → printed ≡ next_out c s d → take turn.printed printed ≡ (event c s).printed
  unfolding next_out
  next_printed turn printed g e = rw (g.printed, e, has_room_lem) (put_taken (event c s).printed d)

  pub end_counted : (n : ℕ) → n ≡ end_length c s d → n ≡ length (end_output c s)
  unfolding end_length
  end_counted n e = e ∙ rw has_room_lem

  pub end_printed : (n : ℕ) (printed : List ℕ) → n ≡ end_length c s d → printed ≡ end_written c s d → take n printed ≡ end_output c s
  unfolding end_written
  end_printed n printed en ep = rw (end_counted n en, ep, has_room_lem) (put_taken (end_output c s) d)

-- ---- counting

pub count_starts : (s : List ℕ) (room : ℕ) (c : Console) → c ≡ fresh_console → Counting s room c s room
count_starts s room c e = record { same = ap (λ (w : List ℕ). length w ≤? room) (sym (rest_whole s) ∙ ap (λ (x : Console). rest x s) (sym e)) }

-- what is printed of the rest, and what is left of the room
module _ (p w : List ℕ) (left : ℕ) where
  none_left : left < length p → (length (p ++ w) ≤? left) ≡ false
  none_left h = lt-leb (length (p ++ w)) left (omega (arith, length-append p w))

  some_left : length p ≤ left → (length (p ++ w) ≤? left) ≡ (length w ≤? left - length p)
  some_left h =
      by_less (left - length p) (length w)
      (λ l. lt-leb (length (p ++ w)) left (omega (arith, length-append p w)) ∙ sym (lt-leb (length w) (left - length p) l))
      (λ l. le-leb (length (p ++ w)) left (omega (arith, length-append p w)) ∙ sym (le-leb (length w) (left - length p) l))

module _ (text : List ℕ) (room : ℕ) (c : Console) (s : List ℕ) (left : ℕ) (k : Counting text room c s left) where
  pub count_ends : (event c s).waiting ≡ true → (length (end_output c s) ≤? left) ≡ (length (run_output text) ≤? room)
  count_ends h = sym (k.same ∙ ap (λ (w : List ℕ). length w ≤? left) (rest_waits c s h))

  module _ (turn : Turn) (g : Goes c s turn) where
    more : (length (run_output text) ≤? room) ≡ (length ((event c s).printed ++ rest (event c s).console (drop (event c s).used s)) ≤? left)
    more = k.same ∙ ap (λ (w : List ℕ). length w ≤? left) (rest_goes c s g.goes)

    pub count_full : left < turn.printed → false ≡ (length (run_output text) ≤? room)
    count_full l = sym (more ∙ none_left (event c s).printed (rest (event c s).console (drop (event c s).used s)) left (omega (arith, g.printed)))

    pub count_goes : turn.printed ≤ left → Counting text room turn.console (take (length s - turn.used) (drop turn.used s)) (left - turn.printed)
    count_goes l =
        let f : length (event c s).printed ≤ left = omega (arith, g.printed) in
        record { same = more ∙ some_left (event c s).printed _ left f ∙ rw (lent_from turn.used s, g.console, g.used, g.printed) }

-- ---- writing

pub write_starts : (text d : List ℕ) (c : Console) → c ≡ fresh_console → Writing text d c text 0 d
write_starts text d c e =
    let w : rest c text ≡ run_output text = ap (λ (x : Console). rest x text) e ∙ rest_whole text in
    record { long = refl; fits = omega (arith, ap length w); whole = ap (λ (x : List ℕ). put 0 x d) w }

module _ (text before : List ℕ) (c : Console) (s : List ℕ) (place : ℕ) (d : List ℕ) (room : length (run_output text) ≤ length before) (k : Writing text before c s place d) where
  -- the end's lines are the rest
  pub write_ends : (event c s).waiting ≡ true → (w : List ℕ) → w ≡ end_output c s → (r : ℕ) (d' : List ℕ) → r ≡ place_after place w d → d' ≡ put_fit place w d
      → (r ≡ length (run_output text)) × (d' ≡ put 0 (run_output text) before)
  write_ends h w ew r d' er ed =
      let e : rest c s ≡ w = rest_waits c s h ∙ sym ew in
      let f : place + length w ≡ length (run_output text) = ap (λ (x : List ℕ). place + length x) (sym e) ∙ k.fits in
      let in_room : place + length w ≤ length d = omega (arith, k.long) in
      (er ∙ after_fits place w d in_room ∙ f, ed ∙ put_fits place w d in_room ∙ ap (λ (x : List ℕ). put place x d) (sym e) ∙ k.whole)

  pub write_goes : (turn : Turn) → Goes c s turn → (w : List ℕ) → w ≡ (event c s).printed → (r : ℕ) (d' : List ℕ) → r ≡ place_after place w d → d' ≡ put_fit place w d
      → Writing text before turn.console (take (length s - turn.used) (drop turn.used s)) r d'
  write_goes turn g w ew r d' er ed =
      let later : List ℕ = rest (event c s).console (drop (event c s).used s) in
      let e : rest c s ≡ w ++ later = rest_goes c s g.goes ∙ ap (λ (x : List ℕ). x ++ later) (sym ew) in
      let l : place + length (w ++ later) ≡ length (run_output text) = ap (λ (x : List ℕ). place + length x) (sym e) ∙ k.fits in
      let in_room : place + length w ≤ length d = omega (arith, k.long, length-append w later) in
      let q : d' ≡ put place w d = ed ∙ put_fits place w d in_room in
      let n : r ≡ place + length w = er ∙ after_fits place w d in_room in
      let same : rest turn.console (take (length s - turn.used) (drop turn.used s)) ≡ later = rw (lent_from turn.used s, g.console, g.used) in
      record {
        long = ap length q ∙ length_put place w d in_room ∙ k.long;
        fits = rw same (omega (arith, l, length-append w later));
        whole = rw (same, n, q) (put_put place w d in_room later ∙ ap (λ (x : List ℕ). put place x d) (sym e) ∙ k.whole);
      }

-- ---- both passes

module _ (w d : List ℕ) (t : Bool) (e : t ≡ (length w ≤? length d)) where
  at_start : t ≡ (0 + length w ≤? length d)
  at_start = e ∙ ap (λ (k : ℕ). k ≤? length d) (sym (zero-add (length w)))

  pub run_refused : not t ≡ true → (0 ≡ place_after 0 w d) × (d ≡ put_fit 0 w d)
  run_refused h = piece_refused 0 (length w) w d refl t at_start h

  pub run_fits : not t ≡ false → length w ≤ length d
  run_fits h = leb-true (length w) (length d) (sym e ∙ not-false t h)

  pub run_written : not t ≡ false → (r : ℕ) (d' : List ℕ) → r ≡ length w → d' ≡ put 0 w d → (r ≡ place_after 0 w d) × (d' ≡ put_fit 0 w d)
  run_written h r d' er ed = piece_written 0 w d (omega (arith, run_fits h)) r d' (er ∙ sym (zero-add (length w))) ed
