-- The area of a ring by the shoelace rule, each operation rounded once in the Rust's order.
use Rattle.std.specs.Prelude.{ℕ, Bool, cond, List, ltb, length, Float}
use Rattle.std.specs.Float.Ieee.{lt}
use Rattle.lists.specs.Lists.{fold_below, next_of}
use Rattle.binary64.specs.Numbers.{◌⊕◌, ◌⊖◌, ◌⊗◌, ◌⊘◌, abs}
use Rattle.binary64.specs.Constants.{zero64, two64}
use Rattle.openrdson_core.specs.Points.{point_at}
use Rattle.openrdson_core.specs.declared.points.Point.{Point}

-- what the edge from a to b adds to the sum
abbrev pub cross : Point → Point → Float
cross a b = a.x ⊗ b.y ⊖ b.x ⊗ a.y

-- what the edge from point i to the next adds, the first following the last
abbrev pub edge_from : List Float → List Float → ℕ → Float
edge_from xs ys i = cross (point_at xs ys i) (point_at xs ys (next_of (length xs) i))

-- the sum over the first k points, from +0
unfoldable pub shoelace : List Float → List Float → ℕ → Float
shoelace xs ys k = fold_below k (λ sum i. sum ⊕ edge_from xs ys i) zero64

-- half the sum over all points, and +0 for fewer than three
unfoldable pub signed_area : List Float → List Float → Float
signed_area xs ys = cond (ltb (length xs) 3) zero64 (shoelace xs ys (length xs) ⊘ two64)

abbrev pub area : List Float → List Float → Float
area xs ys = abs (signed_area xs ys)

-- counter-clockwise
abbrev pub is_ccw : List Float → List Float → Bool
is_ccw xs ys = lt zero64 (signed_area xs ys)
