-- `spares::work::work_each` meets its contract. The invariant: the array begins with what the jobs passed have left and has 0 beyond.
use Rattle.std.proofs.Common.{◌≡◌, arith, refl, sym, ap, ◌∙◌, length, take_all}
use mathlib.Core.List.{zip_with}
use Rattle.words.specs.Words.{filled}
use Rattle.words.specs.ZipLaws.{zip_length, zip_at}
use Rattle.plan.specs.Limits.{max_jobs}
use Rattle.spares.specs.WorkLaws.{filled_next}
use Rattle.spares.proofs.work.work_each.Goals as goal

pub loop-i-init : goal.loop-i-init
loop-i-init g c = λ each same. refl

pub loop-i-preserved : goal.loop-i-preserved
loop-i-preserved g c = λ each same.
    let all = zip_with each c.args.job.now c.args.entry.now in
    let size : length all ≡ length c.args.job.now = zip_length each _ _ c.requires.known in
    let told = same _ _ _ c.left.ensures ∙ sym (zip_at each c.args.job.now c.args.entry.now c.loop-i.i _ _ 0 c.loop-i-test.true (omega arith)) in
    rw (c.loop-i.invariant each same, told) (filled_next max_jobs 0 0 c.loop-i.i all (omega arith) (omega arith))

pub returns : goal.returns
returns g c = λ each same.
    let all = zip_with each c.args.job.now c.args.entry.now in
    let size : length all ≡ length c.args.job.now = zip_length each _ _ c.requires.known in
    c.loop-i.invariant each same ∙ ap (filled max_jobs 0) (take_all c.loop-i.i all (omega arith))
