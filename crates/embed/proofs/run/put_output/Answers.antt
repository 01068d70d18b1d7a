-- `run::put_output` meets its promise: the rest, put at the place, makes the output that has the whole.
use native.Mathlib.Omega.{arith}
use mathlib.Core.Path.{sym, ◌∙◌}
use Rattle.embed.specs.RestLaws.{next_waits, next_goes, next_printed, goes_less, end_printed, write_starts, write_goes, write_ends}
use Rattle.embed.proofs.run.put_output.Goals as goal

pub loop-turn-init : goal.loop-turn-init
loop-turn-init c = write_starts _ _ _ c.fresh_console-c.ensures

pub loop-turn-smaller : goal.loop-turn-smaller
loop-turn-smaller c =
    goes_less _ _ _ (next_goes _ _ _ (omega (arith, c.loop-turn.array_long)) _ (sym c.in-Some.is ∙ c.next.ensures.value))

pub loop-turn-preserved : goal.loop-turn-preserved
loop-turn-preserved c =
    let goes = next_goes _ _ _ (omega (arith, c.loop-turn.array_long)) _ (sym c.in-Some.is ∙ c.next.ensures.value) in
    let part = next_printed _ _ _ (omega (arith, c.loop-turn.array_long)) _ _ goes c.next.ensures.out_after in
    write_goes _ _ _ _ _ _ c.requires c.loop-turn.invariant _ goes _ part _ _ c.put_bytes-place.ensures.value c.put_bytes-place.ensures.out_after

pub returns : goal.returns
returns c =
    let waits = next_waits _ _ _ (omega (arith, c.loop-turn.array_long)) (sym c.in_default.is ∙ c.next.ensures.value) in
    let part = end_printed _ _ _ (omega (arith, c.loop-turn.array_long, c.next.auto.out)) _ _ c.end-count.ensures.value c.end-count.ensures.out_after in
    let both = write_ends _ _ _ _ _ _ c.requires c.loop-turn.invariant waits _ part _ _ c.put_bytes.ensures.value c.put_bytes.ensures.out_after in
    record { value = both.0; out_after = both.1 }
