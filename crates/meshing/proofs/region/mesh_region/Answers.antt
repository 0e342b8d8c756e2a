-- `mesh_region` meets its contract: a box or a prism. Assumes nothing.
use Rattle.std.proofs.Common.{refl, sym, ap, ◌∙◌}
use Rattle.openrdson_core.specs.Mesh.{held}
use Rattle.openrdson_core.specs.Solids.{solid_on}
use Rattle.openrdson_core.specs.declared.solids.Footprint.{Footprint}
use Rattle.meshing.proofs.BoxWrites.{same_adds, refused_adds}
use Rattle.meshing.proofs.PrismLaws.{region_uneven, region_box, region_prism}
use Rattle.meshing.proofs.region.mesh_region.Goals as goal

pub returns-then-xs-ys-clause-mesh : goal.returns-then-xs-ys-clause-mesh
returns-then-xs-ys-clause-mesh c = let a = c.args in refused_adds _ (region_uneven _ _ _ _ _ _ (c.parts-footprint.ensures ∙ ap (λ (f : Footprint). solid_on f c.parts-footprint.result.1) c.in-Sides.is) a.region.material_id.0 a.config a.counts a.xs.now a.ys.now (held a.lists.now) c.if-xs-ys.true) refl

pub returns-else-xs-ys-clause-mesh : goal.returns-else-xs-ys-clause-mesh
returns-else-xs-ys-clause-mesh c = let a = c.args in same_adds (sym (region_box _ _ _ _ _ _ (c.parts-footprint.ensures ∙ ap (λ (f : Footprint). solid_on f c.parts-footprint.result.1) c.in-Sides.is) a.region.material_id.0 a.config a.counts a.xs.now a.ys.now (held a.lists.now) c.if-xs-ys.false)) c.mesh_box.ensures.mesh

pub returns-in-Ring-clause-mesh : goal.returns-in-Ring-clause-mesh
returns-in-Ring-clause-mesh c = let a = c.args in same_adds (sym (region_prism _ _ _ _ (c.parts-footprint.ensures ∙ ap (λ (f : Footprint). solid_on f c.parts-footprint.result.1) c.in-Ring.is) a.region.material_id.0 a.config a.counts a.xs.now a.ys.now (held a.lists.now))) c.mesh_prism.ensures.mesh
