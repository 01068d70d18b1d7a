-- `intervals::by_deadline::places_by_end` meets its contract. The loop's invariant: the table is that of the intervals from i on.
use Rattle.std.proofs.Common.{◌≡◌, length, drop}
use Rattle.intervals.specs.ByDeadline.{borders, PlacesFrom}
use Rattle.intervals.proofs.by_deadline.places_by_end.Given as goal

abbrev pub invariant-loop-i : goal.invariant-loop-i
invariant-loop-i l = (length l.place ≡ borders) × PlacesFrom l.i (drop l.i l.interval) l.place
