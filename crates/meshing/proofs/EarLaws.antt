-- The ear rule, test by test, and what a search for the first ear tells. Assumes nothing.
use mathlib.Core.Path.{◌≡◌, refl, sym, ◌∙◌}
use mathlib.Core.Bool.{Bool, true, false, not, ◌&&◌, ◌||◌, false≢true, and-true}
use mathlib.Core.List.{List}
use Prim.Native.Nat.{ℕ}
use lib.Dec.{eqb}
use lib.ListN.{get_or}
use lib.Ieee.{Float, lt}
use Rattle.lists.proofs.Scans.{and_false}
use Rattle.binary64.specs.Constants.{zero64}
use Rattle.openrdson_core.specs.Points.{point_at}
use Rattle.openrdson_core.specs.declared.points.Point.{Point}
use Rattle.meshing.specs.Ears.{side, has_neg, has_pos, in_triangle, blocks}

-- ---- a point and a triangle

-- two sides of different signs: the third does not matter
two_sides : (dn dp en ep fn fp : Bool) → ((fn && dp) || (fp && dn)) ≡ true → false ≡ not ((dn || en || fn) && (dp || ep || fp))
two_sides true true en ep fn fp e = refl
two_sides true false en true fn fp e = refl
two_sides true false en false fn true e = refl
two_sides true false en false true false e = e
two_sides true false en false false false e = e
two_sides false true true ep true fp e = refl
two_sides false true false ep true fp e = refl
two_sides false true en ep false true e = absurd (false≢true e)
two_sides false true en ep false false e = absurd (false≢true e)
two_sides false false en ep true true e = absurd (false≢true e)
two_sides false false en ep true false e = absurd (false≢true e)
two_sides false false en ep false true e = absurd (false≢true e)
two_sides false false en ep false false e = absurd (false≢true e)

module _ (p a b c : Point) (d f : Float) (is-d : d ≡ side p a b) (is_f : f ≡ side p c a) where
  -- p lies beyond one side and before another
  pub beyond : ((lt f zero64 && lt zero64 d) || (lt zero64 f && lt d zero64)) ≡ true → false ≡ in_triangle p a b c
  unfolding in_triangle
  beyond t =
      let e : Float = side p b c in
      rw (← is-d, ← is_f) (two_sides (lt d zero64) (lt zero64 d) (lt e zero64) (lt zero64 e) (lt f zero64) (lt zero64 f) t)

  pub by_sides : (e : Float) → e ≡ side p b c → not (has_neg d e f && has_pos d e f) ≡ in_triangle p a b c
  unfolding in_triangle
  by_sides e is-e = rw (is-d, is-e, is_f)

-- ---- a vertex that blocks

module _ (xs ys : List Float) (a b c j : ℕ) (p pa pb pc : Point) (is-p : p ≡ point_at xs ys j) (is-a : pa ≡ point_at xs ys a) (is_b : pb ≡ point_at xs ys b) (is_c : pc ≡ point_at xs ys c)
    (r : Bool) (is : r ≡ in_triangle p pa pb pc) where
  asked : (v : Bool) → r ≡ v → in_triangle (point_at xs ys j) (point_at xs ys a) (point_at xs ys b) (point_at xs ys c) ≡ v
  asked v e = rw (← is-p, ← is-a, ← is_b, ← is_c) (sym is ∙ e)

  pub blocks_outside : r ≡ false → false ≡ blocks xs ys a b c j
  unfolding blocks
  blocks_outside e = rw (asked false e, and_false)

  pub blocks_inside : r ≡ true → not (eqb j a || eqb j b || eqb j c) ≡ blocks xs ys a b c j
  unfolding blocks
  blocks_inside e = rw (asked true e) (sym (and-true (not (eqb j a || eqb j b || eqb j c))))

-- ---- the ear test at place i of a walk

-- vertex j of the walk does not block the triangle a b c
abbrev pub free : List Float → List Float → List ℕ → ℕ → ℕ → ℕ → ℕ → Bool
free xs ys w a b c j = not (blocks xs ys a b c (get_or w j 0))
