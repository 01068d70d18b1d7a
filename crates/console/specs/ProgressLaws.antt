-- The run program's session so far: after some pieces of input, the console that waits, the text that is left and what was printed.
-- What was printed so far and what is printed from there on are the session's output; what is left is the rest of the input.
use Rattle.std.specs.Prelude.{ℕ, zero, suc, ◌+◌, ◌<◌, ◌≡◌, refl, true, false, List, [], ◌∷◌, ◌++◌, length, take, drop}
use Rattle.std.proofs.Common.{arith, sym, ap, ◌∙◌, append-nil, append_assoc, take-append-drop}
use Rattle.words.specs.Cases.{by_test}
use Rattle.console.specs.declared.run.Stage.{Stage}
use Rattle.console.specs.declared.run.Stage.TheVariants.{Reading, Running, Stopped}
use Rattle.console.specs.declared.run.Console.{Console}
use Rattle.console.specs.Run.{run_output}
use Rattle.console.specs.Console.{fresh_console, event, end_output, Settled, after, settled, session}
use Rattle.console.specs.SessionLaws.{todo_in, todo, event_less, together, session_output}

-- ---- events until the console waits

-- with so many turns it comes to wait
abbrev pub at_rest : Console → List ℕ → Settled
at_rest c s = settled (length s + 2) c s

module _ (turns : ℕ) (c : Console) (s : List ℕ) where
  turn_waits : (event c s).waiting ≡ true → settled (suc turns) c s ≡ record { printed = []; console = c; left = s }
  unfolding settled
  turn_waits h = rw h

  turn_goes : (event c s).waiting ≡ false → settled (suc turns) c s ≡ after (event c s).printed (settled turns (event c s).console (drop (event c s).used s))
  unfolding settled
  turn_goes h = rw h

-- how many turns there may be does not matter, if there may be enough
settled_same : (j k : ℕ) (c : Console) (s : List ℕ) → todo c s < j → todo c s < k → settled j c s ≡ settled k c s
settled_same zero k c s a b = absurd (omega arith)
settled_same (suc j) zero c s a b = absurd (omega arith)
settled_same (suc j) (suc k) c s a b =
    by_test (event c s).waiting
    (λ w. turn_waits j c s w ∙ sym (turn_waits k c s w))
    (λ w.
    let less = event_less c s w in
    turn_goes j c s w
    ∙ ap (after (event c s).printed) (settled_same j k (event c s).console (drop (event c s).used s) (omega arith) (omega arith))
    ∙ sym (turn_goes k c s w))

module _ (c : Console) (s : List ℕ) where
  few : todo c s < length s + 2
  few = pick c.stage
    where
      pick : (x : Stage) → todo_in x s < length s + 2
      pick Reading = omega arith
      pick Running = omega arith
      pick Stopped = omega arith

  one_more : at_rest c s ≡ settled (suc (length s + 1)) c s
  one_more = let e : length s + 2 ≡ suc (length s + 1) = omega arith in ap (λ (k : ℕ). settled k c s) e

  -- a console that waits is at rest
  pub rests : (event c s).waiting ≡ true → at_rest c s ≡ record { printed = []; console = c; left = s }
  rests w = one_more ∙ turn_waits (length s + 1) c s w

module _ (c : Console) (s : List ℕ) where
  -- an event brings it nearer to the same rest
  pub rests_after : (event c s).waiting ≡ false → at_rest c s ≡ after (event c s).printed (at_rest (event c s).console (drop (event c s).used s))
  rests_after w =
      let next = (event c s).console in
      let rest = drop (event c s).used s in
      let less = event_less c s w in
      one_more c s ∙ turn_goes (length s + 1) c s w
      ∙ ap (after (event c s).printed) (settled_same (length s + 1) (length rest + 2) next rest (omega (arith, few c s)) (few next rest))

-- ---- the session so far

-- each piece is added to what is left, and all that can be answered is answered
unfoldable pub progress : Console → List ℕ → List (List ℕ) → Settled
progress c left [] = record { printed = []; console = c; left = left }
progress c left (piece ∷ pieces) =
    let now = at_rest c (left ++ piece) in
    after now.printed (progress now.console now.left pieces)

-- one more piece
pub progress_on : (c : Console) (left : List ℕ) (pieces : List (List ℕ)) (piece : List ℕ)
    → progress c left (pieces ++ (piece ∷ [])) ≡ after (progress c left pieces).printed (at_rest (progress c left pieces).console ((progress c left pieces).left ++ piece))
unfolding progress
progress_on c left [] piece = let now = at_rest c (left ++ piece) in ap (λ (w : List ℕ). record { printed = w; console = now.console; left = now.left }) (append-nil now.printed)
progress_on c left (first ∷ pieces) piece =
    let now = at_rest c (left ++ first) in
    let so_far = progress now.console now.left pieces in
    let next = at_rest so_far.console (so_far.left ++ piece) in
    ap (after now.printed) (progress_on now.console now.left pieces piece)
    ∙ ap (λ (w : List ℕ). record { printed = w; console = next.console; left = next.left }) (sym (append_assoc now.printed so_far.printed next.printed))

-- the session's output is what was printed so far and what is printed from there on
pub session_on : (c : Console) (left : List ℕ) (pieces more : List (List ℕ))
    → session c left (pieces ++ more) ≡ (progress c left pieces).printed ++ session (progress c left pieces).console (progress c left pieces).left more
unfolding progress session
session_on c left [] more = refl
session_on c left (piece ∷ pieces) more =
    let now = at_rest c (left ++ piece) in
    ap (λ (w : List ℕ). now.printed ++ w) (session_on now.console now.left pieces more)
    ∙ sym (append_assoc now.printed _ _)

-- what was printed so far, and the end's output, are the output for all input so far
pub progress_output : (pieces : List (List ℕ)) → (progress fresh_console [] pieces).printed ++ end_output (progress fresh_console [] pieces).console (progress fresh_console [] pieces).left ≡ run_output (together pieces)
unfolding session
progress_output pieces = sym (session_on fresh_console [] pieces []) ∙ ap (session fresh_console []) (append-nil pieces) ∙ session_output pieces

-- ---- what is left is the rest of the input

-- all = what is done with, and then what is left
pub record Rest (all left : List ℕ) : Type 0 where
  pub done : List ℕ
  pub whole : done ++ left ≡ all

settled_rest : (turns : ℕ) (c : Console) (s : List ℕ) → Rest s (settled turns c s).left
unfolding settled
settled_rest zero c s = record { done = []; whole = refl }
settled_rest (suc turns) c s =
    by_test (event c s).waiting
    (λ w. rw (turn_waits turns c s w) (record { done = []; whole = refl }))
    (λ w.
    let used = (event c s).used in
    let r = settled_rest turns (event c s).console (drop used s) in
    rw (turn_goes turns c s w) (record {
      done = take used s ++ r.done;
      whole = append_assoc (take used s) r.done _ ∙ ap (λ (t : List ℕ). take used s ++ t) r.whole ∙ take-append-drop used s;
    }))

pub progress_rest : (c : Console) (left : List ℕ) (pieces : List (List ℕ)) → Rest (left ++ together pieces) (progress c left pieces).left
unfolding progress
progress_rest c left [] = record { done = []; whole = sym (append-nil left) }
progress_rest c left (piece ∷ pieces) =
    let now = at_rest c (left ++ piece) in
    let here = settled_rest (length (left ++ piece) + 2) c (left ++ piece) in
    let r = progress_rest now.console now.left pieces in
    record {
      done = here.done ++ r.done;
      whole =
          append_assoc here.done r.done _
          ∙ ap (λ (t : List ℕ). here.done ++ t) r.whole
          ∙ sym (append_assoc here.done now.left (together pieces))
          ∙ ap (λ (t : List ℕ). t ++ together pieces) here.whole
          ∙ append_assoc left piece (together pieces);
    }

-- ---- after a refusal

stopped_waits : (c : Console) (s : List ℕ) → c.stage ≡ Stopped → (event c s).waiting ≡ true
unfolding event
stopped_waits c s e = rw e

-- a console that has stopped prints nothing more, whatever comes
pub stopped_silent : (c : Console) (left : List ℕ) (pieces : List (List ℕ)) → c.stage ≡ Stopped → session c left pieces ≡ []
unfolding session end_output
stopped_silent c left [] e = rw e
stopped_silent c left (piece ∷ pieces) e = rw (rests c (left ++ piece) (stopped_waits c (left ++ piece) e)) (stopped_silent c (left ++ piece) pieces e)
