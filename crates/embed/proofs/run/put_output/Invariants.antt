-- `run::put_output` meets its promise: the rest, put at the place, makes the output that has the whole.
use Rattle.console.specs.SessionLaws.{todo}
use Rattle.embed.specs.Rest.{Writing}
use Rattle.embed.proofs.run.put_output.Given as goal

abbrev pub invariant-loop-turn : goal.invariant-loop-turn
invariant-loop-turn l = Writing l.text l.fn.out l.c l.rest l.place l.out

abbrev pub decreases-loop-turn : goal.decreases-loop-turn
decreases-loop-turn l = todo l.c l.rest
