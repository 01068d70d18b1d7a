-- `Sheet::value` meets its promise: the digits, and one byte after them.
use Rattle.std.proofs.Common.{arith}
use Rattle.console.specs.Pieces.{digits_twenty}
use Rattle.console.specs.Sheet.{puts_within, puts_then}
use Rattle.console.proofs.print.Sheet.value.Goals as goal

pub returns : goal.returns
returns c = puts_then (puts_within c.digits.ensures (digits_twenty c.args.n (omega arith))) c.key.ensures
