-- `fill_walk` meets its contract: the loop fills all places. Assumes nothing.
use Rattle.std.proofs.Common.{refl, ap, ◌∙◌, length, reverse, arith}
use Rattle.lists.proofs.Fills.{one_elem, all_elems, put_whole, elems_length}
use Rattle.meshing.proofs.triangulate.fill_walk.Goals as goal

pub loop-i-preserved : goal.loop-i-preserved
loop-i-preserved c = one_elem c.loop-i.invariant (omega arith) (omega arith) refl

pub returns-then-not-forward : goal.returns-then-not-forward
returns-then-not-forward c = let all = all_elems c.loop-i.invariant (omega arith) ∙ put_whole c.args.walk.now _ (elems_length (λ i. i) (length c.args.walk.now)) in
    rw c.if-not-forward.true (c.reverse.ensures.after ∙ ap reverse all)

pub returns-else-not-forward : goal.returns-else-not-forward
returns-else-not-forward c = let all = all_elems c.loop-i.invariant (omega arith) ∙ put_whole c.args.walk.now _ (elems_length (λ i. i) (length c.args.walk.now)) in
    rw c.if-not-forward.false all
