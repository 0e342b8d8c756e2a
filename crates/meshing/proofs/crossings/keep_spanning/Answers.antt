-- `keep_spanning` meets its contract: its loop is `Sifted`. Assumes nothing.
use Rattle.std.proofs.Common.{sym, ◌∙◌, arith}
use Rattle.lists.proofs.Passing.{sift_at, sift_keeps, sift_drops}
use Rattle.lists.proofs.Places.{below_at}
use Rattle.meshing.proofs.crossings.keep_spanning.Goals as goal
use Rattle.meshing.proofs.crossings.keep_spanning.Goals.{else-spans, then-spans}

pub spans-requires : goal.spans-requires
spans-requires c = let v = c.loop-i in
    omega (arith, sift_at _ _ v.invariant 0 (omega arith), below_at _ c.args.edges.now v.i c.requires (omega arith))

pub loop-i-preserved : goal.loop-i-preserved
loop-i-preserved c = let v = c.loop-i in
    elim c.if-spans.branch [ then-spans w ↦ rw (w.edges-is, w.count-is) (sift_keeps _ _ v.invariant 0 (omega arith) (sym c.spans.ensures ∙ w.if-spans.true)) | else-spans w ↦ rw (w.edges-is, w.count-is) (sift_drops _ _ v.invariant 0 (omega arith) (sym c.spans.ensures ∙ w.if-spans.false)) ]
