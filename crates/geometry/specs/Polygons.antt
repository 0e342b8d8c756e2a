-- A layout's polygons: parallel lists, a part of the point lists each.
use Rattle.std.specs.Prelude.{ℕ, ◌+◌, ◌≡◌, Bool, ◌&&◌, List, [], ◌∷◌, eqb, leb, ℤ, pos, length, get_or, Float}
use Rattle.lists.specs.Answer.{Answer, unless, fold_answer}
use Rattle.lists.specs.Lists.{part}
use Rattle.openrdson_core.specs.Points.{ring_fault}
use Rattle.openrdson_core.specs.declared.solids.Solid.{Solid}
use Rattle.geometry.specs.Regions.{all_equal}
use Rattle.geometry.specs.Extrude.{solid_of}
use Rattle.geometry.specs.declared.polygons.Polygons.{Polygons as Lent}

pub record Polygons : Type 0 where
  pub layers : List ℤ
  pub nets : List ℕ
  pub starts : List ℕ
  pub counts : List ℕ
  pub xs : List Float
  pub ys : List Float

abbrev pub the_polygons : List ℤ → List ℕ → List ℕ → List ℕ → List Float → List Float → Polygons
the_polygons layers nets starts counts xs ys = record { layers = layers; nets = nets; starts = starts; counts = counts; xs = xs; ys = ys }

-- what lent polygons hold
abbrev pub polygons_of : Lent → Polygons
polygons_of p = the_polygons p.layers.now p.nets.now p.starts.now p.counts.now p.xs.now p.ys.now

-- the lists are equally long, four of polygons and two of points (16)
unfoldable pub even_polygons : Polygons → Bool
even_polygons p = all_equal (length p.layers) (length p.nets ∷ length p.starts ∷ length p.counts ∷ []) && eqb (length p.xs) (length p.ys)

-- the same, list by list
pub record EvenPolygons (p : Polygons) : Type 0 where
  pub nets : length p.nets ≡ length p.layers
  pub starts : length p.starts ≡ length p.layers
  pub counts : length p.counts ≡ length p.layers
  pub points : length p.xs ≡ length p.ys

-- ---- a polygon is a part of the point lists

-- 15 for a part that ends past the lists, 2, 1
unfoldable pub part_fault : List Float → List Float → ℕ → ℕ → Answer (Unit {0})
part_fault xs ys start count = unless (leb (start + count) (length xs)) 15 (ring_fault (part start count xs) (part start count ys))

-- of the first n polygons, the first that is refused decides
abbrev pub parts_fault : List Float → List Float → List ℕ → List ℕ → ℕ → Answer (Unit {0})
parts_fault xs ys starts counts n = fold_answer n (λ (_ : Unit {0}) (i : ℕ). part_fault xs ys (get_or starts i 0) (get_or counts i 0)) tt

-- what a layout's polygons are refused for: 16, 2, then polygon by polygon 15, 2, 1
unfoldable pub polygons_fault : Polygons → Answer (Unit {0})
polygons_fault p =
    unless (even_polygons p) 16
    (unless (leb (length p.layers) 4096) 2
    (unless (leb (length p.xs) 2097152) 2
    (parts_fault p.xs p.ys p.starts p.counts (length p.layers))))

-- its solid between two heights; a prism has the polygon's own start and count
unfoldable pub part_solid : List Float → List Float → ℕ → ℕ → Float → Float → Solid
part_solid xs ys start count z0 z1 = solid_of (part start count xs) (part start count ys) z0 z1 start count

-- ---- polygon i

-- its layer number
abbrev pub layer_at : Polygons → ℕ → ℤ
layer_at p i = get_or p.layers i (pos 0)
