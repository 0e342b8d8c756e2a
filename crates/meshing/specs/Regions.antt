-- Meshing a region: a box or a prism. Its net and its polygon are not looked at.
use Rattle.std.specs.Prelude.{ℕ, List, eqb, length, Float}
use Rattle.lists.specs.Answer.{Answer, unless}
use Rattle.openrdson_core.specs.Mesh.{Mesh}
use Rattle.openrdson_core.specs.Bounds.{the_bbox}
use Rattle.openrdson_core.specs.declared.mesh.Counts.{Counts}
use Rattle.openrdson_core.specs.declared.solids.Solid.{Solid}
use Rattle.openrdson_core.specs.declared.solids.Solid.TheVariants.{Box, Prism}
use Rattle.meshing.specs.declared.cells.MeshConfig.{MeshConfig}
use Rattle.meshing.specs.Added.{Part}
use Rattle.meshing.specs.Boxes.{mesh_box}
use Rattle.meshing.specs.Prisms.{mesh_prism}

-- a box is lent the point lists too: 16 speaks of them, and nothing else does
unfoldable pub mesh_region : Solid → ℕ → MeshConfig → Counts → List Float → List Float → Mesh → Answer Part
mesh_region (Box x0 y0 x1 y1 z0 z1) material config c px py m = unless (eqb (length px) (length py)) 16 (mesh_box (the_bbox x0 y0 x1 y1) z0 z1 material config c m)
mesh_region (Prism z0 z1 start count) material config c px py m = mesh_prism z0 z1 start count material c px py m
