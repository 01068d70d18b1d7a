-- `print::put_refusal` meets its promise: the sheet is the output from its start.
use Rattle.std.proofs.Common.{arith}
use Rattle.console.proofs.print.put_refusal.Goals as goal

pub returns : goal.returns
returns c =
    let p = c.refused_line.ensures.piece (omega (arith, c.requires)) in
    let n = c.refused_line.ensures.same_output in
    grind (arith, p, n)
