-- A region list: twelve parallel lists, a row a region.
use Rattle.std.specs.Prelude.{ℕ, ◌+◌, ◌≡◌, Bool, ◌<◌, cond, List, [], ◌∷◌, map, eqb, leb, length, get_or, Float, Result, Ok, Err}
use Rattle.std.specs.List.{list_all}
use Rattle.lists.specs.Answer.{Answer, given, unless, map_answer}
use Rattle.lists.specs.Lists.{put}
use Rattle.binary64.specs.Numbers.{at}
use Rattle.binary64.specs.Constants.{zero64}
use Rattle.openrdson_core.specs.Bounds.{the_bbox}
use Rattle.openrdson_core.specs.Solids.{z_bottom_of, z_top_of}
use Rattle.openrdson_core.specs.declared.solids.Solid.{Solid}
use Rattle.openrdson_core.specs.declared.solids.Solid.TheVariants.{Box, Prism}
use Rattle.openrdson_core.specs.declared.solids.SolidRegion.{SolidRegion}
use Rattle.openrdson_core.specs.declared.refusals.Refusal.{Refusal}
use Rattle.openrdson_core.specs.declared.refusals.Refusal.TheVariants.{OutsideList}
use Rattle.geometry.specs.declared.regions.RowKind.{RowKind}
use Rattle.geometry.specs.declared.regions.RowKind.TheVariants as rows
use Rattle.geometry.specs.declared.regions.Regions.{Regions as Listed}
use Rattle.geometry.specs.declared.regions.RegionLists.{RegionLists}
use Rattle.geometry.specs.declared.rows.Columns.{Columns}

pub record Regions : Type 0 where
  pub kinds : List ℕ
  pub min_x : List Float
  pub min_y : List Float
  pub max_x : List Float
  pub max_y : List Float
  pub z_bottom : List Float
  pub z_top : List Float
  pub starts : List ℕ
  pub counts : List ℕ
  pub materials : List ℕ
  pub nets : List ℕ
  pub polygons : List ℕ

abbrev pub the_regions : List ℕ → List Float → List Float → List Float → List Float → List Float → List Float → List ℕ → List ℕ → List ℕ → List ℕ → List ℕ → Regions
the_regions kinds x0 y0 x1 y1 z0 z1 starts counts materials nets polygons =
    record {
      kinds = kinds;
      min_x = x0;
      min_y = y0;
      max_x = x1;
      max_y = y1;
      z_bottom = z0;
      z_top = z1;
      starts = starts;
      counts = counts;
      materials = materials;
      nets = nets;
      polygons = polygons;
    }

-- the region list in lists that are read
abbrev pub listed : Listed → Regions
listed r =
    the_regions r.kinds.now r.min_x.now r.min_y.now r.max_x.now r.max_y.now r.z_bottom.now r.z_top.now r.starts.now r.counts.now r.materials.now r.nets.now r.polygons.now

-- the region list in lists that are written
abbrev pub held_regions : RegionLists → Regions
held_regions r =
    the_regions r.kinds.now r.min_x.now r.min_y.now r.max_x.now r.max_y.now r.z_bottom.now r.z_top.now r.starts.now r.counts.now r.materials.now r.nets.now r.polygons.now

-- they are the same lists: what one of them holds in the end, the caller's list holds
pub record SameRegions (m n : RegionLists) : Type 0 where
  pub kinds : n.kinds.ghost_name ≡ m.kinds.ghost_name
  pub min_x : n.min_x.ghost_name ≡ m.min_x.ghost_name
  pub min_y : n.min_y.ghost_name ≡ m.min_y.ghost_name
  pub max_x : n.max_x.ghost_name ≡ m.max_x.ghost_name
  pub max_y : n.max_y.ghost_name ≡ m.max_y.ghost_name
  pub z_bottom : n.z_bottom.ghost_name ≡ m.z_bottom.ghost_name
  pub z_top : n.z_top.ghost_name ≡ m.z_top.ghost_name
  pub starts : n.starts.ghost_name ≡ m.starts.ghost_name
  pub counts : n.counts.ghost_name ≡ m.counts.ghost_name
  pub materials : n.materials.ghost_name ≡ m.materials.ghost_name
  pub nets : n.nets.ghost_name ≡ m.nets.ghost_name
  pub polygons : n.polygons.ghost_name ≡ m.polygons.ghost_name

-- ---- the kinds of rows

-- the number that stands for a kind
abbrev pub kind_number : RowKind → ℕ
kind_number rows.Box = 0
kind_number rows.Prism = 1

-- the number stands for the kind; 15 where it stands for none
abbrev pub StandsFor : ℕ → Result RowKind Refusal → Type 0
StandsFor n (Ok kind) = n ≡ kind_number kind
StandsFor n (Err why) = (why ≡ OutsideList) × (1 < n)

-- ---- the lengths

-- every length is n
abbrev pub all_equal : ℕ → List ℕ → Bool
all_equal n lengths = list_all (λ (m : ℕ). eqb m n) lengths

-- the lengths of the lists but the kinds
abbrev pub lengths_of : Regions → List ℕ
lengths_of r =
    length r.min_x ∷ length r.min_y ∷ length r.max_x ∷ length r.max_y ∷ length r.z_bottom ∷ length r.z_top
    ∷ length r.starts ∷ length r.counts ∷ length r.materials ∷ length r.nets ∷ length r.polygons ∷ []

-- the twelve lists are equally long (16)
unfoldable pub even_regions : Regions → Bool
even_regions r = all_equal (length r.kinds) (lengths_of r)

-- the same, list by list
pub record Even (r : Regions) : Type 0 where
  pub min_x : length r.min_x ≡ length r.kinds
  pub min_y : length r.min_y ≡ length r.kinds
  pub max_x : length r.max_x ≡ length r.kinds
  pub max_y : length r.max_y ≡ length r.kinds
  pub z_bottom : length r.z_bottom ≡ length r.kinds
  pub z_top : length r.z_top ≡ length r.kinds
  pub starts : length r.starts ≡ length r.kinds
  pub counts : length r.counts ≡ length r.kinds
  pub materials : length r.materials ≡ length r.kinds
  pub nets : length r.nets ≡ length r.kinds
  pub polygons : length r.polygons ≡ length r.kinds

-- ---- a region by value

-- the polygon number of a region that came from no polygon
abbrev pub no_polygon : ℕ
no_polygon = 4294967295

abbrev pub the_region : ℕ → ℕ → ℕ → Solid → SolidRegion
the_region material net polygon s =
    record { material_id = record { 0 = material }; net = net; source_polygon = record { 0 = polygon }; solid = s }

-- 0 is unassigned, and the largest number is 768
abbrev pub material_ok : ℕ → Bool
material_ok m = leb m 768

-- ---- reading row i

-- The solid of row i, beside point lists of so many entries: 15 for a kind that is neither box nor prism, and for a prism's part that ends past the lists.
-- A box row's start and count and a prism row's first four bounds are not looked at.
unfoldable pub solid_at : Regions → ℕ → ℕ → Answer Solid
solid_at r points i =
    cond (eqb (get_or r.kinds i 0) 0)
    (given (Box (at r.min_x i) (at r.min_y i) (at r.max_x i) (at r.max_y i) (at r.z_bottom i) (at r.z_top i)))
    (unless (eqb (get_or r.kinds i 0) 1) 15
    (unless (leb (get_or r.starts i 0 + get_or r.counts i 0) points) 15
    (given (Prism (at r.z_bottom i) (at r.z_top i) (get_or r.starts i 0) (get_or r.counts i 0)))))

-- the region of row i: 15 for its material, kind or part
unfoldable pub region_at : Regions → ℕ → ℕ → Answer SolidRegion
region_at r points i =
    unless (material_ok (get_or r.materials i 0)) 15
    (map_answer (the_region (get_or r.materials i 0) (get_or r.nets i 0) (get_or r.polygons i 0)) (solid_at r points i))

-- ---- writing rows

-- the kind of a solid's row
abbrev pub row_kind : Solid → RowKind
row_kind (Box x0 y0 x1 y1 z0 z1) = rows.Box
row_kind (Prism z0 z1 start count) = rows.Prism

-- what a solid writes in each list: 0 for a box and 1 for a prism; a prism's first four bounds and a box's start and count are zero
abbrev pub kind_of : Solid → ℕ
kind_of s = kind_number (row_kind s)

abbrev pub min_x_of : Solid → Float
min_x_of (Box x0 y0 x1 y1 z0 z1) = x0
min_x_of (Prism z0 z1 start count) = zero64

abbrev pub min_y_of : Solid → Float
min_y_of (Box x0 y0 x1 y1 z0 z1) = y0
min_y_of (Prism z0 z1 start count) = zero64

abbrev pub max_x_of : Solid → Float
max_x_of (Box x0 y0 x1 y1 z0 z1) = x1
max_x_of (Prism z0 z1 start count) = zero64

abbrev pub max_y_of : Solid → Float
max_y_of (Box x0 y0 x1 y1 z0 z1) = y1
max_y_of (Prism z0 z1 start count) = zero64

abbrev pub start_of : Solid → ℕ
start_of (Box x0 y0 x1 y1 z0 z1) = 0
start_of (Prism z0 z1 start count) = start

abbrev pub count_of : Solid → ℕ
count_of (Box x0 y0 x1 y1 z0 z1) = 0
count_of (Prism z0 z1 start count) = count

-- a row without its heights, material, net and polygon
abbrev pub columns_of : Solid → Columns
columns_of s = record { kind = row_kind s; sides = the_bbox (min_x_of s) (min_y_of s) (max_x_of s) (max_y_of s); part = record { start = start_of s; count = count_of s } }

-- the lists with these regions in them from row k on
abbrev pub put_regions : Regions → ℕ → List SolidRegion → Regions
put_regions r k new =
    the_regions (put r.kinds k (map (λ (g : SolidRegion). kind_of g.solid) new)) (put r.min_x k (map (λ (g : SolidRegion). min_x_of g.solid) new))
    (put r.min_y k (map (λ (g : SolidRegion). min_y_of g.solid) new)) (put r.max_x k (map (λ (g : SolidRegion). max_x_of g.solid) new))
    (put r.max_y k (map (λ (g : SolidRegion). max_y_of g.solid) new)) (put r.z_bottom k (map (λ (g : SolidRegion). z_bottom_of g.solid) new))
    (put r.z_top k (map (λ (g : SolidRegion). z_top_of g.solid) new)) (put r.starts k (map (λ (g : SolidRegion). start_of g.solid) new))
    (put r.counts k (map (λ (g : SolidRegion). count_of g.solid) new)) (put r.materials k (map (λ (g : SolidRegion). g.material_id.0) new))
    (put r.nets k (map (λ (g : SolidRegion). g.net) new)) (put r.polygons k (map (λ (g : SolidRegion). g.source_polygon.0) new))
