-- `set_where` meets its contract. The invariant: the set holds the jobs passed that pass the test.
use Rattle.std.proofs.Common.{◌≡◌, ◌<◌, ◌*◌, ◌^◌, ◌%◌, ℕ, arith, rules, refl, sym, ap, ◌∙◌, length, take_all, bit_or}
use mathlib.Core.List.{zip_with}
use Rattle.words.specs.ZipLaws.{zip_length, zip_at}
use Rattle.ready.specs.Ready.{set_of}
use Rattle.ready.specs.ReadyLaws.{set_with, set_without}
use Rattle.ready.proofs.set_where.Goals as goal
use Rattle.ready.proofs.set_where.Goals.{then-passes, else-passes}

pub loop-i-init : goal.loop-i-init
unfolding set_of
loop-i-init g c = λ test same. refl

pub loop-i-preserved : goal.loop-i-preserved
loop-i-preserved g c = λ test same.
    let passed = zip_with test c.args.job.now c.args.entry.now in
    let size : length passed ≡ length c.args.job.now = zip_length test _ _ c.requires.known in
    let here : c.loop-i.i < length passed = omega arith in
    let told = zip_at test c.args.job.now c.args.entry.now c.loop-i.i _ _ _ (search rules) (omega arith) ∙ sym (same _ _ _ c.passes.ensures) in
    let so_far = c.loop-i.invariant test same in
    elim c.if-passes.branch [ then-passes w ↦ w.set-is ∙ ap (λ (x : ℕ). bit_or x ((1 * 2 ^ c.loop-i.i) % 2 ^ 32)) so_far ∙ set_with passed c.loop-i.i here 32 (omega arith) (told ∙ w.if-passes.true) | else-passes w ↦ w.set-is ∙ so_far ∙ set_without passed c.loop-i.i here (told ∙ w.if-passes.false) ]

pub returns : goal.returns
returns g c = λ test same.
    let passed = zip_with test c.args.job.now c.args.entry.now in
    let size : length passed ≡ length c.args.job.now = zip_length test _ _ c.requires.known in
    c.loop-i.invariant test same ∙ ap set_of (take_all c.loop-i.i passed (omega arith))
