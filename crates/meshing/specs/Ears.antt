-- The ear rule on binary64 values, each operation rounded once in the Rust's order, and the triangles of a cleaned ring.
use Rattle.std.specs.Prelude.{ℕ, Bool, not, ◌&&◌, ◌||◌, List, Option, eqb, leb, length, Float}
use Rattle.std.specs.Float.Ieee.{lt}
use Rattle.lists.specs.Answer.{Answer, unless}
use Rattle.lists.specs.Lists.{all_below, first}
use Rattle.binary64.specs.Numbers.{◌⊖◌, ◌⊗◌}
use Rattle.binary64.specs.Constants.{zero64}
use Rattle.openrdson_core.specs.Area.{signed_area}
use Rattle.openrdson_core.specs.Points.{point_at}
use Rattle.openrdson_core.specs.declared.points.Point.{Point}
use Rattle.meshing.specs.Triangles.{Triangle, walk}
use Rattle.meshing.specs.Clipping.{here, before, after, clip}

-- the cross product of the edges from a to b and from a to c
abbrev pub turn : Point → Point → Point → Float
turn a b c = (b.x ⊖ a.x) ⊗ (c.y ⊖ a.y) ⊖ (b.y ⊖ a.y) ⊗ (c.x ⊖ a.x)

-- on which side of the line from a to b the point p lies: the cross product of p - b and a - b
abbrev pub side : Point → Point → Point → Float
side p a b = (p.x ⊖ b.x) ⊗ (a.y ⊖ b.y) ⊖ (a.x ⊖ b.x) ⊗ (p.y ⊖ b.y)

-- one of three numbers is below zero
abbrev pub has_neg : Float → Float → Float → Bool
has_neg d e f = lt d zero64 || lt e zero64 || lt f zero64

-- one of three numbers is above zero
abbrev pub has_pos : Float → Float → Float → Bool
has_pos d e f = lt zero64 d || lt zero64 e || lt zero64 f

-- p lies inside or on the triangle a b c: not on one side of an edge and on the other side of another
unfoldable pub in_triangle : Point → Point → Point → Point → Bool
in_triangle p a b c =
    let d = side p a b in
    let e = side p b c in
    let f = side p c a in
    not (has_neg d e f && has_pos d e f)

module _ (xs ys : List Float) where
  -- vertex j is none of the corners a, b and c, and lies inside or on their triangle
  unfoldable pub blocks : ℕ → ℕ → ℕ → ℕ → Bool
  blocks a b c j = not (eqb j a || eqb j b || eqb j c) && in_triangle (point_at xs ys j) (point_at xs ys a) (point_at xs ys b) (point_at xs ys c)

  -- no vertex of what remains does so
  unfoldable pub is_clear : List ℕ → ℕ → ℕ → ℕ → Bool
  is_clear w a b c = all_below (length w) (λ j. not (blocks a b c (here w j)))

  -- the cross product at the vertex is above zero, and no other remaining vertex lies inside or on its triangle
  unfoldable pub is_ear_of : List ℕ → ℕ → ℕ → ℕ → Bool
  is_ear_of w a b c = lt zero64 (turn (point_at xs ys a) (point_at xs ys b) (point_at xs ys c)) && is_clear w a b c

  -- the same of place i of a walk
  abbrev pub is_ear : List ℕ → ℕ → Bool
  is_ear w i = is_ear_of w (before w i) (here w i) (after w i)

  -- the place of the first ear of a walk, if it has one
  abbrev pub first_ear : List ℕ → Option ℕ
  first_ear w = first (is_ear w) (length w) 0

  -- the walk goes forward unless the computed area is below zero
  abbrev pub is_forward : Bool
  is_forward = not (lt (signed_area xs ys) zero64)

  -- the triangles of a cleaned ring: 3, 4
  unfoldable pub triangles_of : Answer (List Triangle)
  triangles_of = unless (leb 3 (length xs)) 3 (clip is_ear (walk is_forward (length xs)))
