-- `reading::digits_number`: the number so far has as many digits as were read, and the digits left go on from it.
use Rattle.std.proofs.Common.{◌≡◌, ◌<◌, ◌≤◌, ◌^◌, length, drop}
use Rattle.lines.specs.Lines.{number_from}
use Rattle.lines.proofs.reading.digits_number.Given as goal

abbrev pub invariant-loop-b : goal.invariant-loop-b
invariant-loop-b l = record {
  within : l.b-index ≤ length l.s;
  small : l.n < 10 ^ l.b-index;
  onward : number_from 0 l.s ≡ number_from l.n (drop l.b-index l.s);
}
