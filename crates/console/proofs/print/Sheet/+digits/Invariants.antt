-- The measure is the number.
use Rattle.console.proofs.print.Sheet.+digits.Given as goal

abbrev pub decreases-digits : goal.decreases-digits
decreases-digits l = l.n
