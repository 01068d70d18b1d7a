-- `ready_set` meets its contract: the jobs that pass its test, among the first n.
use Rattle.std.proofs.Common.{false, rules, sym}
use Rattle.ready.specs.Ready.{is_member, members_among}
use Rattle.ready.proofs.ready_set.Goals as goal

pub returns : goal.returns
unfolding members_among is_member
returns c = rw (sym c.first_jobs.ensures.all) (c.set_where.ensures (is_member false c.args.t) (λ j e b p. search rules))
