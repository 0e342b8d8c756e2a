-- `element` meets its contract: the mesh's facts at element e. Assumes nothing.
use Rattle.meshing.proofs.WholeLaws.{used_long, used_inside}
use Rattle.meshing.proofs.whole.SoundMesh.element.Goals as goal

pub invariant_of-result : goal.invariant_of-result
invariant_of-result c = let h = c.element-element.ensures in
    let x = c.element-element.result in
    record {
      many = used_long c.in-Ok.kind c.node_count.ensures x.places.now x.eight;
      inside = used_inside c.in-Ok.kind c.node_count.ensures x.places.now x.eight x.kind c.in-Ok.ensures h.kind h.places c.nodes.ensures.0 (λ i. c.args.self.inside c.args.e i c.requires);
    }
