-- Laws of the run program's loop: each event brings it nearer to rest, the rest of the input moves to the front, and one read is one more piece.
use Rattle.std.specs.Prelude.{ℕ, ◌+◌, ◌-◌, ◌≤◌, ◌<◌, ◌≡◌, refl, true, false, List, [], ◌∷◌, ◌++◌, length, take, drop, Option, None, Some, IfSome}
use Rattle.std.proofs.Common.{arith, length-drop, length-take, length-take-le, ◌∙◌, sym, ap, append_assoc, drop-drop, take_all, append-nil, le-leb}
use Rattle.std.specs.List.{copy_within}
use Rattle.std.proofs.lemmas.List.{take_rest, drop-take}
use Rattle.std.proofs.lemmas.List.Edits.{take-paste}
use Rattle.std.proofs.Math.Seq.{take-append_seam, take-add}
use Rattle.std.proofs.KnownBytes.{Appends-nil, Appends-trans}
use Rattle.std.specs.Io.KnownBytes.{Consumes, Appends}
use Rattle.plan_text.specs.DecidedLaws.{enough}
use Rattle.words.specs.Cases.{by_test}
use Rattle.lines.specs.Writing.{put}
use Rattle.lines.specs.WritingLaws.{put_start}
use Rattle.console.specs.declared.run.Console.{Console}
use Rattle.console.specs.declared.run.Turn.{Turn}
use Rattle.console.specs.Console.{fresh_console, run_room, is_stopped, turn_of, event, next_turn, next_out, end_output, end_length, end_written, Settled, after}
use Rattle.console.specs.SessionLaws.{todo, event_less}
use Rattle.console.specs.HeldLaws.{waits_few}
use Rattle.console.specs.ProgressLaws.{at_rest, rests, rests_after, progress, progress_on, progress_output}
use Rattle.console.specs.Pieces.{CountsIn}
use Rattle.run_plan.specs.Loop.{Answered, Went, Rested, Standing, Ended, Turned}

-- what was written from the start stands there
written : (w d : List ℕ) (r : ℕ) (e : List ℕ) → r ≡ length w → e ≡ put 0 w d → take r e ≡ w
written w d r e p q = rw (p, q, put_start w d) (take-append_seam w (drop (length w) d))

-- ---- one event

module _ (c : Console) (text out out' : List ℕ) (room : run_room ≤ length out) (put_in : out' ≡ next_out c text out) where
  went : (turn : Turn) → Some turn ≡ turn_of (event c text) → turn.used ≤ length text → turn.printed ≤ length out' → Went c text turn out'
  unfolding next_out
  went turn e u p =
      by_test (event c text).waiting
      (λ w. let z : ◌≡◌ {A = Option Turn} (Some turn) None = e ∙ rw w in absurd (cc))
      (λ g.
      let first : Turn = record { console = (event c text).console; used = (event c text).used; printed = length (event c text).printed } in
      let z : ◌≡◌ {A = Option Turn} (Some turn) (Some first) = e ∙ rw g in
      let same : turn ≡ first = cc in
      record {
        console = ap (λ (t : Turn). t.console) same;
        used = ap (λ (t : Turn). t.used) same;
        goes = g;
        printed = written (event c text).printed out turn.printed out' (ap (λ (t : Turn). t.printed) same) (put_in ∙ rw (le-leb run_room (length out) room));
        within = u;
        fits = p;
      })

  waits : None ≡ turn_of (event c text) → (event c text).waiting ≡ true
  waits e = by_test (event c text).waiting (λ w. w) (λ g. let z : ◌≡◌ {A = Option Turn} None (Some (record { console = (event c text).console; used = (event c text).used; printed = length (event c text).printed })) = e ∙ rw g in absurd (cc))

  pub turn_answered : (r : Option Turn) → r ≡ next_turn c text out → IfSome r (λ turn. (turn.used ≤ length text) × CountsIn turn.printed out') → Answered c text r out'
  unfolding next_turn
  turn_answered None e h = waits (e ∙ rw (le-leb run_room (length out) room))
  turn_answered (Some turn) e h = went turn (e ∙ rw (le-leb run_room (length out) room)) h.0 h.1.0

-- ---- events until the console waits

after_after : (w v : List ℕ) (r : Settled) → after w (after v r) ≡ after (w ++ v) r
after_after w v r = ap (λ (p : List ℕ). record { printed = p; console = r.console; left = r.left }) (sym (append_assoc w v r.printed))

-- the events so far, which printed this, lead to the same rest, and what they printed has gone out
pub record Nearing (first : Console) (text : List ℕ) (c : Console) (done : ℕ) (sent sent' : Option (List ℕ)) : Type 0 where
  pub within : done ≤ length text
  pub printed : List ℕ
  pub rest : at_rest first text ≡ after printed (at_rest c (drop done text))
  pub gone : Appends sent sent' printed

pub near_start : (c : Console) (text : List ℕ) (sent : Option (List ℕ)) → Nearing c text c 0 sent sent
near_start c text sent = record { within = omega arith; printed = []; rest = refl; gone = Appends-nil sent }

module _ (c : Console) (s : List ℕ) (c' : Console) (s' : List ℕ) (e : c' ≡ (event c s).console) (f : s' ≡ drop (event c s).used s) (goes : (event c s).waiting ≡ false) where
  rest_on : (w : List ℕ) → after w (at_rest c s) ≡ after (w ++ (event c s).printed) (at_rest c' s')
  rest_on w = rw (e, f) (ap (after w) (rests_after c s goes) ∙ after_after w (event c s).printed _)

  less : todo c' s' < todo c s
  less = rw (e, f) (event_less c s goes)

module _ (first : Console) (text : List ℕ) (c : Console) (done : ℕ) (sent sent' : Option (List ℕ)) (h : Nearing first text c done sent sent') where
  module _ (turn : Turn) (out : List ℕ) (went : Went c (take (length text - done) (drop done text)) turn out) where
    here : Went c (drop done text) turn out
    here = rw (take_rest text done) at went

    left : drop (done + turn.used) text ≡ drop (event c (drop done text)).used (drop done text)
    left = ap (λ (k : ℕ). drop (done + k) text) here.used ∙ sym (drop-drop (event c (drop done text)).used done text)

    -- one event more, all of whose text has gone out
    pub near_on : (sent'' : Option (List ℕ)) (k : ℕ) → turn.printed ≤ k → Appends sent' sent'' (take k (take turn.printed out)) → Nearing first text turn.console (done + turn.used) sent sent''
    near_on sent'' k all went-out =
        let within : turn.used ≤ length (drop done text) = here.within in
        record {
          within = omega (arith, within, length-drop done text, h.within);
          printed = h.printed ++ (event c (drop done text)).printed;
          rest = h.rest ∙ rest_on c (drop done text) turn.console (drop (done + turn.used) text) here.console left here.goes h.printed;
          gone = Appends-trans sent sent' sent'' h.printed _ h.gone (rw (take_all k (take turn.printed out) (omega (arith, length-take turn.printed out)), here.printed) at went-out);
        }

    pub near_less : todo turn.console (drop (done + turn.used) text) < todo c (drop done text)
    near_less = less c (drop done text) turn.console (drop (done + turn.used) text) here.console left here.goes

  -- the console waits
  pub near_rest : (event c (take (length text - done) (drop done text))).waiting ≡ true → Rested first text c done sent sent'
  near_rest q =
      let w = rw (take_rest text done) at q in
      let none : h.printed ++ [] ≡ h.printed = append-nil h.printed in
      record {
        printed = h.printed;
        rest =
            h.rest
            ∙ ap (after h.printed) (rests c (drop done text) w)
            ∙ ap (λ (v : List ℕ). record { printed = v; console = c; left = drop done text }) none;
        waits = w;
        within = h.within;
        gone = h.gone;
      }

-- ---- the rest of the input moves to the front

module _ (held : List ℕ) (done came : ℕ) (order : done ≤ came) (in-held : came ≤ length held) where
  pub moved : (after : List ℕ) → after ≡ copy_within held done came 0 → take (came - done) after ≡ drop done (take came held)
  moved after f =
      let long : came - done ≤ length (drop done held) = omega (arith, length-drop done held) in
      let e : done + (came - done) ≡ came = omega arith in
      let none : came - done ≡ 0 + (came - done) = omega arith in
      ap (take (came - done)) f
      ∙ ap (λ (k : ℕ). take k (copy_within held done came 0)) none
      ∙ take-paste held 0 (drop done held) (came - done) (omega arith) long
      ∙ sym (drop-take done (came - done) held)
      ∙ ap (λ (k : ℕ). drop done (take k held)) e

  -- a console that waits holds less than one plan
  pub moved_few : (c : Console) → (event c (drop done (take came held))).waiting ≡ true → is_stopped c.stage ≡ false → came - done < enough
  moved_few c w goes = omega (arith, waits_few c (drop done (take came held)) w goes, length-drop done (take came held), length-take-le came held in-held)

-- ---- a piece of input

pub stands_first : (c : Console) → c ≡ fresh_console → Standing c []
unfolding progress
stands_first c e = record { pieces = []; console = sym e; rest = refl }

-- what is held, and the bytes that came after it
module _ (n more done : ℕ) (before mid : List ℕ) (stays : take n mid ≡ take n before) where
  piece : List ℕ
  piece = take more (drop n mid)

  joined : take n before ++ piece ≡ take (n + more) mid
  unfolding piece
  joined = ap (λ (l : List ℕ). l ++ take more (drop n mid)) (sym stays) ∙ sym (take-add n more mid)

  pub stands_on : (c r : Console) (left : List ℕ) (unread unread' sent sent' : Option (List ℕ)) → Standing c (take n before) → Consumes unread unread' (take more (drop n mid))
      → Rested c (take (n + more) mid) r done sent sent' → left ≡ drop done (take (n + more) mid) → Turned c (take n before) r left unread unread' sent sent'
  unfolding piece
  stands_on c r left unread unread' sent sent' s came h e =
      let now = progress fresh_console [] s.pieces in
      let next : at_rest c (take n before ++ piece) ≡ record { printed = h.printed; console = r; left = left } = rw (joined, e) h.rest in
      let onward : at_rest now.console (now.left ++ piece) ≡ record { printed = h.printed; console = r; left = left } = rw (s.console, s.rest) next in
      let all = progress_on fresh_console [] s.pieces piece ∙ ap (after now.printed) onward in
      record {
        piece = piece;
        came = came;
        printed = h.printed;
        gone = h.gone;
        rest = next;
        stands = record { pieces = s.pieces ++ (piece ∷ []); console = ap (λ (x : Settled). x.console) all; rest = ap (λ (x : Settled). x.left) all };
      }

-- ---- the end of input

pub ends : (c : Console) (left out out' : List ℕ) (r : ℕ) → Standing c left → run_room ≤ length out → r ≡ end_length c left out → out' ≡ end_written c left out → r ≤ length out' → length out' ≡ length out → Ended c left out r out'
unfolding end_length end_written
ends c left out out' r s room e o fits long =
    let many : r ≡ length (end_output c left) = e ∙ rw (le-leb run_room (length out) room) in
    let put_in : out' ≡ put 0 (end_output c left) out = o ∙ rw (le-leb run_room (length out) room) in
    let printed = written (end_output c left) out r out' many put_in in
    record { pieces = s.pieces; printed = printed; whole = rw printed (rw (s.console, s.rest) at (progress_output s.pieces)); fits = fits; long = long }
