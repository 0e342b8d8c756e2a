-- Extruding a footprint between two heights.
use Rattle.std.specs.Prelude.{ℕ, cond, List, length, Float}
use Rattle.lists.specs.Answer.{Answer, given, unless, and_then}
use Rattle.openrdson_core.specs.Points.{ring_fault}
use Rattle.openrdson_core.specs.Bounds.{corners_in, bounds_of}
use Rattle.openrdson_core.specs.Rectangle.{is_rectangle}
use Rattle.openrdson_core.specs.Solids.{heights_in, box_of}
use Rattle.openrdson_core.specs.declared.bounds.Bbox.{Bbox}
use Rattle.openrdson_core.specs.declared.solids.Solid.{Solid}
use Rattle.openrdson_core.specs.declared.solids.Solid.TheVariants.{Prism}
use Rattle.openrdson_core.specs.declared.solids.SolidRegion.{SolidRegion}
use Rattle.geometry.specs.Regions.{the_region, no_polygon, material_ok}

-- a ring between two heights: a box exactly if the rectangle test says so, else a prism whose points are this part of the point lists
unfoldable pub solid_of : List Float → List Float → Float → Float → ℕ → ℕ → Solid
solid_of xs ys z0 z1 start count = cond (is_rectangle xs ys) (box_of (bounds_of xs ys) z0 z1) (Prism z0 z1 start count)

-- a solid between two heights, as a region with no polygon: 1 for the heights, 15 for the material
unfoldable pub region_of : Solid → Float → Float → ℕ → ℕ → Answer SolidRegion
region_of s z0 z1 material net =
    unless (heights_in z0 z1) 1
    (unless (material_ok material) 15
    (given (the_region material net no_polygon s)))

-- a polygon extruded: 16, 2, 1 with the heights last, 15 for the material
unfoldable pub extrude_polygon : List Float → List Float → Float → Float → ℕ → ℕ → Answer SolidRegion
extrude_polygon xs ys z0 z1 material net =
    and_then (ring_fault xs ys) (λ _. region_of (solid_of xs ys z0 z1 0 (length xs)) z0 z1 material net)

-- a box extruded: 1 for the six numbers, 15 for the material
unfoldable pub extrude_box : Bbox → Float → Float → ℕ → ℕ → Answer SolidRegion
extrude_box b z0 z1 material net =
    unless (corners_in b) 1 (region_of (box_of b z0 z1) z0 z1 material net)
