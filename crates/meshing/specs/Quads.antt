-- Quads: in a band, between two neighbouring crossings of its middle. Corners a and b lie on its low side, c and d on its high side, counter-clockwise.
use Rattle.std.specs.Prelude.{ℕ, Bool, ◌&&◌, cond, List, [], ◌∷◌, Float}
use Rattle.std.specs.Float.Ieee.{lt}
use Rattle.lists.specs.Lists.{joined}
use Rattle.binary64.specs.Numbers.{◌⊕◌, ◌⊖◌, ◌⊗◌, abs, at_most}
use Rattle.binary64.specs.Constants.{half64, tiny30}
use Rattle.meshing.specs.declared.quads.Quad.{Quad}
use Rattle.meshing.specs.declared.levels.Band.{Band}
use Rattle.meshing.specs.Levels.{levels, bands_of, middle}
use Rattle.meshing.specs.Crossings.{edge_at, crossings}

-- a quad, by a name that other crates can use
abbrev pub Trapezoid : Type 0
Trapezoid = Quad

-- the computed area: half the sum of the cross products of the triangles a b c and a c d
unfoldable pub quad_area : Quad → Float
quad_area q =
    half64
    ⊗ ((q.bx ⊖ q.ax) ⊗ (q.high ⊖ q.low) ⊖ (q.low ⊖ q.low) ⊗ (q.cx ⊖ q.ax) ⊕ (q.cx ⊖ q.ax) ⊗ (q.high ⊖ q.low) ⊖ (q.high ⊖ q.low) ⊗ (q.dx ⊖ q.ax))

-- it is below 1e-30 in size
unfoldable pub is_flat : Quad → Bool
is_flat q = lt (abs (quad_area q)) tiny30

-- the x of its four corners are in range; its two heights are vertices'
unfoldable pub quad_in : Quad → Bool
quad_in q = at_most 20 q.ax && at_most 20 q.bx && at_most 20 q.cx && at_most 20 q.dx

module _ (xs ys : List Float) where
  -- the quad between the edges l and r
  unfoldable pub quad_of : Band → ℕ → ℕ → Quad
  quad_of b l r =
      record {
        ax = edge_at xs ys b.low l;
        bx = edge_at xs ys b.low r;
        cx = edge_at xs ys b.high r;
        dx = edge_at xs ys b.high l;
        low = b.low;
        high = b.high;
      }

  -- one for each consecutive pair of edges, those that are flat skipped
  unfoldable pub quads_between : Band → List ℕ → List Quad
  quads_between b [] = []
  quads_between b (l ∷ []) = []
  quads_between b (l ∷ r ∷ es) =
      let rest = quads_between b es in
      cond (is_flat (quad_of b l r)) rest (quad_of b l r ∷ rest)

  -- the quads of a band
  unfoldable pub band_quads : Band → List Quad
  band_quads b = quads_between b (crossings xs ys (middle b))

  -- the quads of all bands, from the lowest up
  unfoldable pub quads_of : List Quad
  quads_of = joined band_quads (bands_of (levels ys))
