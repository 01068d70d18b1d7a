-- What the run program has still to print, with the console at some place of a whole text. The program's whole output is in console.
use Rattle.std.specs.Prelude.{ℕ, ◌+◌, ◌≡◌, List, ◌++◌, length}
use Rattle.words.specs.Words.{◌≤?◌}
use Rattle.lines.specs.Writing.{put}
use Rattle.console.specs.declared.run.Console.{Console}
use Rattle.console.specs.Run.{run_output}
use Rattle.console.specs.Console.{end_output}
use Rattle.console.specs.ProgressLaws.{at_rest}

-- the text s being left: events until the console waits, then the end of input
unfoldable pub rest : Console → List ℕ → List ℕ
rest c s =
    let r = at_rest c s in
    r.printed ++ end_output r.console r.left

-- counting: the whole output has the room exactly when the rest has what is left of it
pub record Counting (text : List ℕ) (room : ℕ) (c : Console) (s : List ℕ) (left : ℕ) : Type 0 where
  pub same : (length (run_output text) ≤? room) ≡ (length (rest c s) ≤? left)

-- writing: the rest, put at the place, makes the output that has the whole
pub record Writing (text before : List ℕ) (c : Console) (s : List ℕ) (place : ℕ) (d : List ℕ) : Type 0 where
  pub long : length d ≡ length before
  pub fits : place + length (rest c s) ≡ length (run_output text)
  pub whole : put place (rest c s) d ≡ put 0 (run_output text) before
