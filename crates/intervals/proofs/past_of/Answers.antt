-- `intervals::past_of` meets its contract: the intervals past are the first ones that have ended.
use Rattle.std.proofs.Common.{rules}
use Rattle.std.proofs.lemmas.Iterator.{YieldsList-from_slice}
use Rattle.std.proofs.lemmas.Iterator.Consumers.{count_from_yields_List}
use Rattle.std.proofs.lemmas.Iterator.Search.{YieldsList-from_take_while}
use Rattle.words.specs.Words.{◌≤?◌}
use Rattle.intervals.specs.IntervalLaws.{past_first}
use Rattle.intervals.specs.Layout.{listed, past_in}
use Rattle.intervals.proofs.past_of.Goals as goal

pub returns : goal.returns
unfolding past_in
returns c =
    rw (← past_first c.args.t (listed c.args.l.now))
    (count_from_yields_List _ _ c.count.ensures.ran (YieldsList-from_take_while _ (λ x. x.end ≤? c.args.t) (YieldsList-from_slice (listed c.args.l.now) cc) c.take_while.ensures.closure c.take_while.ensures.done (λ x b q k. search rules)))
