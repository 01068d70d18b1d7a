-- `check::put_interval_lines` meets its promise. The invariant: the lines of the intervals passed are on the sheet.
use borrow.Author.Rules.{rules}
use native.Mathlib.Omega.{arith}
use Prim.Native.Nat.{min, ◌<◌}
use mathlib.Core.Path.{◌≡◌, sym, ap}
use mathlib.Core.List.{List}
use lib.ListN.{length}
use mir.Facts.{to_z-of_z}
use mir.Syntax.{w32}
use Rattle.words.specs.ListLaws.{long}
use Rattle.intervals.specs.declared.Interval.{Interval}
use Rattle.console.specs.Check.{interval_lines}
use Rattle.console.specs.Sheet.{puts_none, puts_within, puts_is}
use Rattle.console.specs.Lists.{intervals_none, interval_put, listed_all}
use Rattle.console.proofs.check.put_interval_lines.Goals as goal

pub loop-i-init : goal.loop-i-init
loop-i-init c = record { few = search (rules, long); lines = puts_is (sym (intervals_none c.args.a.interval c.args.a.hi c.args.a.lo)) (puts_none _) }

pub loop-i-preserved : goal.loop-i-preserved
loop-i-preserved c =
    let his : length c.args.a.hi ≡ 65 = search (rules, long) in
    let los : length c.args.a.lo ≡ 65 = search (rules, long) in
    let below : c.loop-i.i < 65 = omega (arith, c.min-i-end.ensures) in
    record { few = c.loop-i.invariant.few; lines = interval_put _ _ _ _ _ _ (omega (arith, c.loop-i.invariant.few)) (omega arith) (omega arith) c.loop-i.invariant.lines (to_z-of_z {w = w32} (record { sfits = omega arith })) (to_z-of_z {w = w32} (record { sfits = omega arith })) c.interval_line.ensures }

pub returns : goal.returns
returns c =
    let a = c.args.a in
    let all : c.loop-i.i ≡ min a.count 65 = omega (arith, c.min-i-end.ensures, c.from.ensures) in
    puts_is (ap (λ (xs : List Interval). interval_lines xs a.hi a.lo) (listed_all a.count c.loop-i.i 65 a.interval c.loop-i.invariant.few all)) (puts_within c.loop-i.invariant.lines (omega arith))
