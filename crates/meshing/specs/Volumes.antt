-- The volume of a mesh, each operation rounded once in the Rust's order.
use Rattle.std.specs.Prelude.{ℕ, ◌*◌, Bool, true, false, ◌&&◌, cond, List, eqb, length, get_or, Float}
use Rattle.std.specs.Float.{binary64, inf}
use Rattle.std.specs.Float.Ieee.{of_bits, le}
use Rattle.lists.specs.Answer.{Answer, given, and_then}
use Rattle.lists.specs.Lists.{fold_below, part}
use Rattle.binary64.specs.Constants.{zero64, half64, three64}
use Rattle.binary64.specs.Numbers.{◌⊕◌, ◌⊖◌, ◌⊗◌, ◌⊘◌, at, abs}
use Rattle.binary64.specs.Root.{sqrt_of}
use Rattle.openrdson_core.specs.Bounds.{lesser, greater}
use Rattle.openrdson_core.specs.Mesh.{Mesh, the_point3, kind_number, kind_of, used_places}
use Rattle.openrdson_core.specs.declared.mesh.ElementType.TheVariants.{Prism}
use Rattle.openrdson_core.specs.declared.mesh.Point3.{Point3}
use Rattle.meshing.specs.Whole.{mesh_fault}

-- ---- a prism: the area of its first triangle, times the mean of its three heights

-- from a to b
abbrev pub minus : Point3 → Point3 → Point3
minus b a = the_point3 (b.x ⊖ a.x) (b.y ⊖ a.y) (b.z ⊖ a.z)

-- the size of a vector
unfoldable pub norm : Point3 → Float
norm c = sqrt_of (c.x ⊗ c.x ⊕ c.y ⊗ c.y ⊕ c.z ⊗ c.z)

-- from 2^-500 to 2^500 in size
abbrev pub is_plain : Float → Bool
is_plain x = le (of_bits binary64 0x20b0_0000_0000_0000) (abs x) && le (abs x) (of_bits binary64 0x5f30_0000_0000_0000)

abbrev pub cross_product : Point3 → Point3 → Point3
cross_product u v = the_point3 (u.y ⊗ v.z ⊖ u.z ⊗ v.y) (u.z ⊗ v.x ⊖ u.x ⊗ v.z) (u.x ⊗ v.y ⊖ u.y ⊗ v.x)

-- half the size of the cross product of two sides
unfoldable pub triangle_area : Point3 → Point3 → Point3 → Float
triangle_area a b c = half64 ⊗ norm (cross_product (minus b a) (minus c a))

-- the mean of the sizes of three heights
unfoldable pub mean_height : Float → Float → Float → Float
mean_height p q r = (abs p ⊕ abs q ⊕ abs r) ⊘ three64

module _ (xs ys zs : List Float) where
  abbrev pub node_at : ℕ → Point3
  node_at i = the_point3 (at xs i) (at ys i) (at zs i)

  unfoldable pub prism_volume : List ℕ → Float
  prism_volume places =
      let p : ℕ → Point3 = λ k. node_at (get_or places k 0) in
      triangle_area (p 0) (p 1) (p 2) ⊗ mean_height ((p 3).z ⊖ (p 0).z) ((p 4).z ⊖ (p 1).z) ((p 5).z ⊖ (p 2).z)

-- ---- another kind: its bounding box

-- how far the nodes at the first n places reach along one axis
unfoldable pub reach : List Float → ℕ → List ℕ → Float
reach l n places =
    fold_below n (λ bound k. greater (at l (get_or places k 0)) bound) (inf true)
    ⊖ fold_below n (λ bound k. lesser (at l (get_or places k 0)) bound) (inf false)

module _ (xs ys zs : List Float) where
  unfoldable pub box_volume : ℕ → List ℕ → Float
  box_volume n places = reach xs n places ⊗ reach ys n places ⊗ reach zs n places

  -- an element of kind number k with these eight places
  unfoldable pub element_volume : ℕ → List ℕ → Float
  element_volume k places = cond (eqb k (kind_number Prism)) (prism_volume xs ys zs places) (box_volume (used_places (kind_of k)) places)

  -- the first n elements, in order, from +0
  unfoldable pub volume_below : List ℕ → List ℕ → ℕ → Float
  volume_below kinds places n = fold_below n (λ sum e. sum ⊕ element_volume (get_or kinds e 0) (part (8 * e) 8 places)) zero64

-- the volume of a mesh: 16, 2, 1, 15, 13
unfoldable pub mesh_volume : Mesh → Answer Float
mesh_volume m = and_then (mesh_fault true m) (λ _. given (volume_below m.xs m.ys m.zs m.kinds m.places (length m.kinds)))
