-- `reading::key_at`: as much of the text from the place on as the key is long is the key, and the key has no LF.
use Rattle.std.specs.Prelude.{◌≡◌, true, false, not, eqb, drop}
use Rattle.std.specs.List.{starts_with}
use Rattle.std.proofs.Common.{sym, ap, ◌∙◌}
use Rattle.std.proofs.lemmas.Iterator.{YieldsList-from_slice}
use Rattle.std.proofs.lemmas.Iterator.Search.{any_from_yields_List}
use borrow.Author.Rules.{rules}
use borrow.Author.Tests.{tests}
use Rattle.lines.specs.TextLaws.{key_here}
use Rattle.lines.proofs.reading.key_at.Goals as goal

pub returns-then-eq : goal.returns-then-eq
returns-then-eq c =
    let starts : starts_with eqb (drop c.args.at c.args.text.now) c.args.key.now ≡ true = rw (← c.value.ensures) (sym c.eq.ensures ∙ c.if-eq.true) in
    rw (key_here, starts)
    (ap not (any_from_yields_List (λ b. eqb b 10) _ _ _ c.any.ensures.ran (YieldsList-from_slice c.args.key.now cc) (λ x b q k. search (rules, tests))))

pub returns-else-eq : goal.returns-else-eq
returns-else-eq c =
    let starts : starts_with eqb (drop c.args.at c.args.text.now) c.args.key.now ≡ false = rw (← c.value.ensures) (sym c.eq.ensures ∙ c.if-eq.false) in
    rw (key_here, starts) c.if-eq.false
