-- `reading::line_end`: the first LF of the text from the place on.
use Rattle.std.proofs.Common.{◌+◌, ap, ◌∙◌}
use Rattle.lines.specs.Lines.{line_length}
use Rattle.lines.specs.TextLaws.{rest_is, length_found}
use Rattle.lines.proofs.reading.line_end.Goals as goal

pub returns : goal.returns
returns c =
    ap (λ k. c.args.at + k)
    (c.unwrap_or.ensures ∙ length_found _ _ c.first_lf.ensures ∙ ap line_length (rest_is c.args.text.now c.args.at c.min.result c.min.ensures))
