-- The words of the run program's loop: one event, a console at rest, and a program that has seen all input so far.
-- What an event is and prints, and a session after some pieces of input, are in console.
use Rattle.std.specs.Prelude.{ℕ, ◌≤◌, ◌≡◌, true, false, List, [], ◌++◌, length, take, drop, Option, None, Some}
use Rattle.std.specs.Io.KnownBytes.{Consumes, Appends}
use Rattle.console.specs.declared.run.Console.{Console}
use Rattle.console.specs.declared.run.Turn.{Turn}
use Rattle.console.specs.Run.{run_output}
use Rattle.console.specs.Console.{fresh_console, event, end_output}
use Rattle.console.specs.SessionLaws.{together}
use Rattle.console.specs.ProgressLaws.{at_rest, progress}

-- r is what the event for the text leaves, and what it prints stands at the start of the output
pub record Went (c : Console) (text : List ℕ) (r : Turn) (out : List ℕ) : Type 0 where
  pub console : r.console ≡ (event c text).console
  pub used : r.used ≡ (event c text).used
  pub goes : (event c text).waiting ≡ false
  pub printed : take r.printed out ≡ (event c text).printed
  pub within : r.used ≤ length text
  pub fits : r.printed ≤ length out

-- the event's turn, or none where the console waits
abbrev pub Answered : Console → List ℕ → Option Turn → List ℕ → Type 0
Answered c text (Some r) out = Went c text r out
Answered c text None out = (event c text).waiting ≡ true

-- the events for the text bring the console to rest as r, with the bytes from `done` on left, and what they print has gone out
pub record Rested (c : Console) (text : List ℕ) (r : Console) (done : ℕ) (sent sent' : Option (List ℕ)) : Type 0 where
  pub printed : List ℕ
  pub rest : at_rest c text ≡ record { printed = printed; console = r; left = drop done text }
  pub waits : (event r (drop done text)).waiting ≡ true
  pub within : done ≤ length text
  pub gone : Appends sent sent' printed

-- after some pieces of input: the console and the bytes held are those of the session
pub record Standing (c : Console) (left : List ℕ) : Type 0 where
  pub pieces : List (List ℕ)
  pub console : (progress fresh_console [] pieces).console ≡ c
  pub rest : (progress fresh_console [] pieces).left ≡ left

-- what the events printed, and what now stands at the start of the output, are the run program's output for all input
pub record Ended (c : Console) (left : List ℕ) (before : List ℕ) (r : ℕ) (after : List ℕ) : Type 0 where
  pub pieces : List (List ℕ)
  pub printed : take r after ≡ end_output c left
  pub whole : (progress fresh_console [] pieces).printed ++ take r after ≡ run_output (together pieces)
  pub fits : r ≤ length after
  pub long : length after ≡ length before

-- one read more: the bytes that were held, with the piece behind them that was read, were answered as far as they go, and what is held then is their rest;
-- what was printed has gone out
pub record Turned (c : Console) (held : List ℕ) (r : Console) (left : List ℕ) (unread unread' : Option (List ℕ)) (sent sent' : Option (List ℕ)) : Type 0 where
  pub piece : List ℕ
  pub came : Consumes unread unread' piece
  pub printed : List ℕ
  pub gone : Appends sent sent' printed
  pub rest : at_rest c (held ++ piece) ≡ record { printed = printed; console = r; left = left }
  pub stands : Standing r left
