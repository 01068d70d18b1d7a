-- Each event brings the console nearer to rest, and what it printed has gone out.
use Rattle.std.proofs.Common.{drop}
use Rattle.console.specs.SessionLaws.{todo}
use Rattle.run_plan.specs.LoopLaws.{Nearing}
use Rattle.run_plan.proofs.settled.Given as goal

abbrev pub invariant-loop-turn : goal.invariant-loop-turn
invariant-loop-turn g l = Nearing l.fn.first l.text l.c l.done (g.W.Write.contents l.fn.output) (g.W.Write.contents l.output)

abbrev pub decreases-loop-turn : goal.decreases-loop-turn
decreases-loop-turn g l = todo l.c (drop l.done l.text)
