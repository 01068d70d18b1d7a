-- `writing::put_bytes`: one byte more is pasted, and all of them pasted are the piece put.
use Rattle.std.proofs.Common.{◌≡◌, ◌∙◌, sym, length, arith, length-set}
use Rattle.std.proofs.Math.Seq.{take-length}
use Rattle.std.proofs.lemmas.List.Edits.{paste_more}
use Rattle.lines.specs.Writing.{put}
use Rattle.lines.specs.WritingLaws.{put_fits}
use Rattle.lines.proofs.writing.put_bytes.Goals as goal

pub loop-i-preserved : goal.loop-i-preserved
loop-i-preserved c = record {
  text = rw c.loop-i.invariant.text (paste_more c.args.out.now c.args.at c.args.w.now c.loop-i.i 0 (omega arith) (omega arith));
  room = simp length-set c.loop-i.invariant.room;
}

pub returns-clause-out_after : goal.returns-clause-out_after
unfolding put
returns-clause-out_after c =
    let e : c.loop-i.i ≡ length c.args.w.now = omega arith in
    let p : c.loop-i.out ≡ put c.args.at c.args.w.now c.args.out.now = c.loop-i.invariant.text ∙ rw (e, take-length) in
    p ∙ sym (put_fits c.args.at c.args.w.now c.args.out.now (omega arith))
