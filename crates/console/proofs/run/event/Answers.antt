-- `run::event` meets its promise: the event of the console's stage.
use Rattle.console.specs.declared.run.Stage.TheVariants.{Reading, Running, Stopped}
use Rattle.console.specs.Turns.{told_is, told_wait, stage_event}
use Rattle.console.proofs.run.event.Goals as goal

pub returns-in-Reading : goal.returns-in-Reading
returns-in-Reading c = told_is (stage_event c.args.c.now c.args.text.now Reading c.in-Reading.is) c.take_plan.ensures

pub returns-in-Running : goal.returns-in-Running
returns-in-Running c = told_is (stage_event c.args.c.now c.args.text.now Running c.in-Running.is) c.take_line.ensures

pub returns-in-Stopped : goal.returns-in-Stopped
returns-in-Stopped c = told_is (stage_event c.args.c.now c.args.text.now Stopped c.in-Stopped.is) (told_wait _ _)
