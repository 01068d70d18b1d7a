-- `run::put_rest` meets its promise: the job lines, or the refusal of the line that is not finished.
use borrow.Author.Rules.{rules}
use native.Mathlib.Omega.{arith}
use Prim.Native.Nat.{min}
use mathlib.Core.Path.{◌≡◌, ◌∙◌}
use lib.ListN.{length}
use Rattle.words.specs.ListLaws.{long}
use Rattle.console.specs.Lists.{jobs_listed}
use Rattle.console.specs.Pieces.{piece_within, piece_is}
use Rattle.console.specs.Turns.{rest_none, rest_bad}
use Rattle.console.proofs.run.put_rest.Goals as goal

pub returns-then-text-eq0 : goal.returns-then-text-eq0
returns-then-text-eq0 c =
    let r = c.args.c.run in
    let few : length r.entry ≡ 32 = search (rules, long) in
    let all : c.min-jobs.result ≡ min r.plan.jobs 32 = omega (arith, c.min-jobs.ensures, c.from.ensures) in
    piece_is (jobs_listed r c.min-jobs.result few all ∙ rest_none c.args.c c.args.text.now c.if-text-eq0.true) c.put_job_lines.ensures

pub returns : goal.returns
returns c =
    piece_within (piece_is (rest_bad c.args.c c.args.text.now c.if-text-eq0.false) c.put_refusal.ensures) (omega arith)
