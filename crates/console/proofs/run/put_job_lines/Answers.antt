-- `run::put_job_lines` meets its promise. The invariant: the lines of the jobs passed are on the sheet.
use native.Mathlib.Omega.{arith}
use Prim.Native.Nat.{◌+◌}
use mathlib.Core.Path.{◌≡◌, sym, ap}
use Rattle.std.proofs.Common.{take_all}
use Rattle.console.specs.Run.{job_lines_from}
use Rattle.console.specs.Pieces.{piece_within}
use Rattle.console.specs.Sheet.{puts_none, puts_is}
use Rattle.console.specs.Lists.{jobs_none, job_put}
use Rattle.console.proofs.run.put_job_lines.Goals as goal

pub loop-i-init : goal.loop-i-init
loop-i-init c = puts_is (sym (jobs_none 1 c.args.entries.now)) (puts_none _)

pub loop-i-preserved : goal.loop-i-preserved
loop-i-preserved c =
    let number : c.loop-i.i + 1 ≡ 1 + c.loop-i.i = omega arith in
    job_put _ _ (omega arith) c.loop-i.invariant (rw number at c.job_line.ensures)

pub returns : goal.returns
returns c =
    let es = c.args.entries.now in
    let all = puts_is (ap (job_lines_from 1) (take_all c.loop-i.i es c.loop-i-test.false)) c.loop-i.invariant in
    piece_within (all.piece (omega arith)) (omega arith)
