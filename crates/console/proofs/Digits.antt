-- The law of digits printed: the last digit after the others.
use Rattle.std.proofs.Common.{arith, sym, ap, ◌∙◌, length-append}
use Rattle.std.specs.Prelude.{ℕ, ◌+◌, ◌/◌, ◌%◌, ◌≤◌, ◌≡◌, length}
use Rattle.lines.specs.Lines.{digits}
use Rattle.console.specs.declared.print.Sheet.{Sheet}
use Rattle.console.specs.Pieces.{digits_last}
use Rattle.console.specs.Sheet.{Puts, puts_within, puts_then, puts_is}

-- the digits of a tenth were put, and then the last digit
pub digits_puts : (n : ℕ) {a b c : Sheet} → 10 ≤ n → Puts (length (digits (n / 10))) (digits (n / 10)) a b → Puts (length (digits (n % 10))) (digits (n % 10)) b c
    → Puts (length (digits n)) (digits n) a c
digits_puts n h p q =
    let l : length (digits (n / 10)) + length (digits (n % 10)) ≡ length (digits n) = sym (length-append (digits (n / 10)) (digits (n % 10))) ∙ ap length (digits_last n h) in
    puts_is (digits_last n h) (puts_within (puts_then p q) (omega (arith, l)))
