-- `plan::counts_at` meets its contract: a slot brings the counts to the next border, and past the table's end they stay.
use Rattle.std.specs.Prelude.{ℕ, ◌+◌, ◌≤◌, ◌<◌, ◌≡◌, List, length, take, get_or, min}
use Rattle.std.proofs.Common.{arith, ap, ◌∙◌, get_or-take, length-take-le}
use borrow.Author.Rules.{rules}
use Rattle.words.specs.Cases.{by_less}
use Rattle.plan.specs.declared.Plan.{Plan}
use Rattle.plan.specs.Limits.{max_slots}
use Rattle.plan.specs.Plan.{counts_at}
use Rattle.plan.specs.Counts.{counted_with}
use Rattle.plan.specs.CountLaws.{counts_start, counts_on, counts_end}
use Rattle.plan.proofs.counts_at.Goals as goal

-- of the first n slots, the one at i is counted
next : (p : Plan) (n i : ℕ) (counts : List ℕ) → length p.table ≡ max_slots → n ≤ max_slots → counts ≡ counts_at p i → i < length (take n p.table)
    → counted_with counts (get_or (take n p.table) i 0) ≡ counts_at p (i + 1)
next p n i counts all few e h =
    let l : length (take n p.table) ≡ n = length-take-le n p.table (omega arith) in
    rw (get_or-take n p.table i 0 (omega arith)) (counts_on p i counts e (omega arith) (omega arith))

-- all slots before border t are counted
last : (p : Plan) (t n i : ℕ) → length p.table ≡ max_slots → n ≡ min max_slots t → i ≡ length (take n p.table) → counts_at p i ≡ counts_at p t
last p t n i all e h =
    let l : length (take n p.table) ≡ n = length-take-le n p.table (omega arith) in
    by_less t max_slots
    (λ less. ap (counts_at p) (omega arith))
    (λ past. ap (counts_at p) (omega arith) ∙ counts_end p t all past)

pub loop-k-init : goal.loop-k-init
loop-k-init c = counts_start _

pub loop-k-preserved : goal.loop-k-preserved
loop-k-preserved c = c.count_slot.ensures ∙ next _ _ _ _ (search rules) (search rules) c.loop-k.invariant c.loop-k-test.true

pub returns : goal.returns
returns c = c.loop-k.invariant ∙ last _ _ _ _ (search rules) c.min.ensures (omega arith) ∙ ap (counts_at _) c.from.ensures
