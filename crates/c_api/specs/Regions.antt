-- What an extruded region gives back through references: its row of a region list.
use Rattle.std.specs.Prelude.{ℕ, Float}
use Rattle.openrdson_core.specs.declared.solids.Solid.{Solid}
use Rattle.openrdson_core.specs.declared.solids.SolidRegion.{SolidRegion}
use Rattle.openrdson_core.specs.Solids.{z_bottom_of, z_top_of}
use Rattle.geometry.specs.Regions as regions

-- the entries of a solid in its row
pub record SolidRow : Type 0 where
  pub kind : ℕ
  pub min_x : Float
  pub min_y : Float
  pub max_x : Float
  pub max_y : Float
  pub z_bottom : Float
  pub z_top : Float
  pub start : ℕ
  pub count : ℕ

abbrev pub the_solid_row : ℕ → Float → Float → Float → Float → Float → Float → ℕ → ℕ → SolidRow
the_solid_row k x0 y0 x1 y1 z0 z1 s n =
    record {
      kind = k;
      min_x = x0;
      min_y = y0;
      max_x = x1;
      max_y = y1;
      z_bottom = z0;
      z_top = z1;
      start = s;
      count = n;
    }

abbrev pub solid_row : Solid → SolidRow
solid_row s =
    the_solid_row (regions.kind_of s) (regions.min_x_of s) (regions.min_y_of s) (regions.max_x_of s) (regions.max_y_of s) (z_bottom_of s) (z_top_of s)
    (regions.start_of s) (regions.count_of s)

-- a row: the entries of its solid, its material, its net and its polygon
pub record RegionRow : Type 0 where
  pub solid : SolidRow
  pub material : ℕ
  pub net : ℕ
  pub polygon : ℕ

abbrev pub the_row : SolidRow → ℕ → ℕ → ℕ → RegionRow
the_row s m n p = record { solid = s; material = m; net = n; polygon = p }

abbrev pub row_of : SolidRegion → RegionRow
row_of g = the_row (solid_row g.solid) g.material_id.0 g.net g.source_polygon.0
