-- `print::phase_letter` meets its promise, case by case.
use Rattle.console.proofs.print.phase_letter.Goals as goal

pub returns-in-T : goal.returns-in-T
returns-in-T c = rw c.in-T.is

pub returns-in-H : goal.returns-in-H
returns-in-H c = rw c.in-H.is
