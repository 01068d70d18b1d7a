-- `run::fits` meets its promise: the rest fits what is left of the room exactly when the whole fits it.
use native.Mathlib.Omega.{arith}
use Prim.Native.Nat.{ℕ}
use mathlib.Core.Path.{sym, ap, ◌∙◌}
use Rattle.words.specs.Words.{◌≤?◌}
use Rattle.embed.specs.RestLaws.{next_waits, next_goes, goes_less, end_counted, count_starts, count_full, count_goes, count_ends}
use Rattle.embed.proofs.run.fits.Goals as goal

pub loop-turn-init : goal.loop-turn-init
loop-turn-init c = count_starts _ _ _ c.fresh_console-c.ensures

pub returns-then-left-turn : goal.returns-then-left-turn
returns-then-left-turn c =
    let goes = next_goes _ _ _ (omega (arith, c.loop-turn.array_long)) _ (sym c.in-Some.is ∙ c.next.ensures.value) in
    count_full _ _ _ _ _ c.loop-turn.invariant _ goes c.if-left-turn.true

pub loop-turn-smaller : goal.loop-turn-smaller
loop-turn-smaller c =
    goes_less _ _ _ (next_goes _ _ _ (omega (arith, c.loop-turn.array_long)) _ (sym c.in-Some.is ∙ c.next.ensures.value))

pub loop-turn-preserved : goal.loop-turn-preserved
loop-turn-preserved c =
    let goes = next_goes _ _ _ (omega (arith, c.loop-turn.array_long)) _ (sym c.in-Some.is ∙ c.next.ensures.value) in
    count_goes _ _ _ _ _ c.loop-turn.invariant _ goes c.if-left-turn.false

pub returns : goal.returns
returns c =
    let waits = next_waits _ _ _ (omega (arith, c.loop-turn.array_long)) (sym c.in_default.is ∙ c.next.ensures.value) in
    ap (λ (k : ℕ). k ≤? c.loop-turn.left) (end_counted _ _ _ (omega (arith, c.loop-turn.array_long, c.next.auto.out)) _ c.end.ensures.value)
    ∙ count_ends _ _ _ _ _ c.loop-turn.invariant waits
