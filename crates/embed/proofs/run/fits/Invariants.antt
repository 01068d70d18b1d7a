-- `run::fits` meets its promise: the rest fits what is left of the room exactly when the whole fits it.
use Rattle.console.specs.SessionLaws.{todo}
use Rattle.embed.specs.Rest.{Counting}
use Rattle.embed.proofs.run.fits.Given as goal

abbrev pub invariant-loop-turn : goal.invariant-loop-turn
invariant-loop-turn l = Counting l.text l.room l.c l.rest l.left

abbrev pub decreases-loop-turn : goal.decreases-loop-turn
decreases-loop-turn l = todo l.c l.rest
