-- Before each read the console and the bytes held are those of the session after the pieces read so far.
use Rattle.std.proofs.Common.{take}
use Rattle.run_plan.specs.Loop.{Standing}
use Rattle.run_plan.proofs.main.Given as goal

abbrev pub invariant-loop : goal.invariant-loop
invariant-loop l = Standing l.session.console (take l.session.n l.session.held)
