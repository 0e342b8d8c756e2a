-- `write_box` meets its contract: each list by its writer. Assumes nothing.
use Rattle.meshing.proofs.BoxWrites.{box_adds}
use Rattle.meshing.proofs.boxes.write_box.Goals as goal

pub returns-clause-mesh : goal.returns-clause-mesh
returns-clause-mesh c =
    let x = c.new-x.ensures in
    let y = c.new-y.ensures in
    let z = c.new-z.ensures in
    let nodes = (rw (x.low, x.high, x.cells, y.low, y.high, y.cells, z.low, z.high, z.cells) at c.write_nodes.ensures.nodes) in
    box_adds _ _ _ _ _ _ _ _ _ nodes c.nodes.ensures c.elements-elements.ensures c.from-hex.ensures c.fill.ensures c.write_hexes.ensures c.fill-2.ensures
