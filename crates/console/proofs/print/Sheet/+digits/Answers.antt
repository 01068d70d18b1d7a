-- `Sheet::digits` meets its promise: the digits of a tenth, and then the last one.
use Rattle.std.proofs.Common.{arith, refl, ◌≤◌}
use Rattle.console.specs.Sheet.{puts_fit}
use Rattle.console.proofs.Digits.{digits_puts}
use Rattle.console.proofs.print.Sheet.+digits.Goals as goal

pub returns-then-n-lt1000000000 : goal.returns-then-n-lt1000000000
returns-then-n-lt1000000000 t c = puts_fit _ _ _ c.put_number-self.ensures.value c.put_number-self.ensures.out_after refl

pub returns : goal.returns
returns t c =
    let h : 10 ≤ c.args.n = omega arith in
    digits_puts _ h c.digits.ensures (puts_fit _ _ _ c.put_number-self-2.ensures.value c.put_number-self-2.ensures.out_after refl)
