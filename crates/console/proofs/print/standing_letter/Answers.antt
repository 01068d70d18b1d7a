-- `print::standing_letter` meets its promise, case by case.
use Rattle.console.proofs.print.standing_letter.Goals as goal

pub returns-in-Waiting : goal.returns-in-Waiting
returns-in-Waiting c = rw c.in-Waiting.is

pub returns-in-Finished : goal.returns-in-Finished
returns-in-Finished c = rw c.in-Finished.is

pub returns-in-Cut : goal.returns-in-Cut
returns-in-Cut c = rw c.in-Cut.is

pub returns-in-Dropped : goal.returns-in-Dropped
returns-in-Dropped c = rw c.in-Dropped.is
