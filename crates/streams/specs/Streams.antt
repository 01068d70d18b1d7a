-- What the programs' reading and writing promise: which bytes stay, how many came or went, and which failures pass.
-- Which bytes the system gives and takes no promise can say.
use Rattle.std.specs.Prelude.{ℕ, ◌+◌, ◌≤◌, ◌≡◌, Bool, true, false, ℤ, List, length, take, Option, Some, None, Result, IfOk}
use Rattle.std.specs.declared.io.Error.{Error}
use Rattle.std.specs.declared.io.ErrorKind.{ErrorKind}
use Rattle.std.specs.declared.io.ErrorKind.TheVariants.{Interrupted, WouldBlock}

-- a call that failed so may be made again: a signal came first, or nothing could be moved yet
abbrev pub passes : ErrorKind → Bool
passes Interrupted = true
passes WouldBlock = true
passes _ = false

-- the kind of a failure that passes, where the error has a number of the system's; none of any other
abbrev pub passing : Option ℤ → ErrorKind → Option ErrorKind
passing (Some number) Interrupted = Some Interrupted
passing (Some number) WouldBlock = Some WouldBlock
passing _ _ = None

-- the n bytes that are held stay, and what came stands after them; no bytes are the end of input
pub record ReadAfter (n : ℕ) (before : List ℕ) (r : Result ℕ Error) (after : List ℕ) : Type 0 where
  pub stays : take n after ≡ take n before
  pub long : length after ≡ length before
  pub came : IfOk r (λ more. n + more ≤ length before)
