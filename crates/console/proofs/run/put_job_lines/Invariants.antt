-- `run::put_job_lines` meets its promise. The invariant: the lines of the jobs passed are on the sheet.
use Prim.Native.Nat.{◌*◌}
use lib.ListN.{take}
use Rattle.console.specs.Run.{job_lines_from}
use Rattle.console.specs.Pieces.{longest}
use Rattle.console.specs.Sheet.{Puts}
use Rattle.console.proofs.run.put_job_lines.Given as goal

abbrev pub invariant-loop-i : goal.invariant-loop-i
invariant-loop-i l = Puts (l.i * longest) (job_lines_from 1 (take l.i l.entries)) l.initial.sheet l.sheet
