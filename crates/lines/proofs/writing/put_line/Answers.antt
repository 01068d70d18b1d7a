-- `writing::put_line`: with room for the whole line, its three pieces go one after the other.
use Rattle.std.proofs.Common.{◌≤◌, ◌+◌, [], ◌∷◌, ◌++◌, length, arith}
use Rattle.lines.specs.Lines.{LF, digits}
use Rattle.lines.specs.Writing.{number_line_of}
use Rattle.lines.specs.WritingLaws.{fit_then, line_length_lem, key_room}
use Rattle.lines.proofs.writing.put_line.Goals as goal

pub returns-clause-out_after : goal.returns-clause-out_after
returns-clause-out_after c =
    let key = c.args.key.now in
    let out = c.args.out.now in
    let room : c.args.at + length (number_line_of key c.args.n) ≤ length out = grind (arith, line_length_lem) in
    let v = fit_then c.args.at key (digits c.args.n) out (key_room c.args.at key c.args.n out room) _ _ _ _ c.put_bytes-value.ensures.value c.put_bytes-value.ensures.out_after c.put_digits-end.ensures.value c.put_digits-end.ensures.out_after in
    (fit_then c.args.at (key ++ digits c.args.n) (LF ∷ []) out room _ _ _ _ v.0 v.1 c.put_bytes.ensures.value c.put_bytes.ensures.out_after).1
