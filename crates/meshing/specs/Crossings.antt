-- The edges of a ring that cross a height, by the even-odd rule. Edge e runs from vertex e to the next, the last to the first.
use Rattle.std.specs.Prelude.{ℕ, ◌≤◌, ◌≡◌, Bool, true, false, not, ◌&&◌, ◌||◌, cond, List, ltb, length, take, Float, Option, Some, None}
use Rattle.std.specs.Bool.{xor}
use Rattle.std.specs.Float.Ieee.{lt, le}
use Rattle.lists.specs.Lists.{elems, passing, all_of, next_of}
use Rattle.lists.specs.Sorts.{sort_by, or_number}
use Rattle.binary64.specs.Numbers.{◌⊕◌, ◌⊖◌, ◌⊗◌, ◌⊘◌, at, abs, at_most}
use Rattle.binary64.specs.Constants.{tiny300}
use Rattle.openrdson_core.specs.Points.{point_at}
use Rattle.openrdson_core.specs.declared.points.Point.{Point}

-- just one end of edge e lies at the height y or below it: an end on it counts with the lower side
unfoldable pub spans : List Float → Float → ℕ → Bool
spans ys y e = xor (le (at ys e) y) (le (at ys (next_of (length ys) e)) y)

-- the edges that do so, in their order
abbrev pub spanning : List Float → Float → List ℕ
spanning ys y = passing (spans ys y) (elems (length ys) (λ e. e))

-- x at the height y on the line from a to b; the first x if its computed height is below 1e-300
unfoldable pub line_at : Point → Point → Float → Float
line_at a b y = cond (lt (abs (b.y ⊖ a.y)) tiny300) a.x (a.x ⊕ (y ⊖ a.y) ⊘ (b.y ⊖ a.y) ⊗ (b.x ⊖ a.x))

module _ (xs ys : List Float) where
  -- x at the height y on edge e
  unfoldable pub edge_at : Float → ℕ → Float
  edge_at y e = line_at (point_at xs ys e) (point_at xs ys (next_of (length ys) e)) y

  -- of two edges, which is farther left at the height
  abbrev pub left_of : Float → ℕ → ℕ → Bool
  left_of y d e = lt (edge_at y d) (edge_at y e)

  -- the edges that span the height, sorted stably by x there
  unfoldable pub crossings : Float → List ℕ
  crossings y = sort_by (left_of y) (spanning ys y)

  -- edge e crosses the height in range
  abbrev pub crosses_in : Float → ℕ → Bool
  crosses_in y e = at_most 20 (edge_at y e)

-- ---- how the code finds the crossings of a band from those of the band before

-- edges that span the height y and not the height `below`
abbrev pub new_at : List Float → Float → Float → ℕ → Bool
new_at ys below y e = spans ys y e && not (spans ys below e)

-- edge d, which crosses at x, goes before edge e, which crosses at z: it is farther left, or neither is and its number is less
abbrev pub goes_before : Float → ℕ → Float → ℕ → Bool
goes_before x d z e = lt x z || (not (lt z x) && ltb d e)

module _ (xs ys : List Float) (y : Float) where
  -- edges, and the same sorted, where all cross in range
  pub record SortedAs (edges : List ℕ) (fine : Bool) (edges' : List ℕ) : Type 0 where
    pub in_range : fine ≡ all_of (crosses_in xs ys y) edges
    pub sorted : fine ≡ true → edges' ≡ sort_by (or_number (left_of xs ys y)) edges

  -- the first of a list, and how many there are
  abbrev pub CrossedAs : Option ℕ → List ℕ → Type 0
  CrossedAs (Some count) edges' = (all_of (crosses_in xs ys y) (crossings xs ys y) ≡ true) × (take count edges' ≡ crossings xs ys y) × (count ≤ length ys)
  CrossedAs None edges' = all_of (crosses_in xs ys y) (crossings xs ys y) ≡ false
