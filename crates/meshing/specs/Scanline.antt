-- What the scanline answers for a ring, cleaned once: a refusal, or quads; and the nodes and prisms of these.
use Rattle.std.specs.Prelude.{ℕ, zero, suc, ◌+◌, ◌*◌, ◌≤◌, ◌≡◌, Bool, true, false, not, ◌&&◌, List, [], ◌∷◌, leb, length, Float, Option, Some, None}
use Rattle.lists.specs.Answer.{Answer, given, unless, map_answer}
use Rattle.lists.specs.Lists.{runs, elems, all_of, joined}
use Rattle.openrdson_core.specs.Mesh.{unused, kind_number}
use Rattle.openrdson_core.specs.declared.mesh.ElementType.TheVariants.{Prism}
use Rattle.openrdson_core.specs.declared.ring.SoundRing.{SoundRing}
use Rattle.openrdson_core.specs.declared.solids.Heights.{Heights}
use Rattle.meshing.specs.declared.quads.Quad.{Quad}
use Rattle.meshing.specs.declared.quads.Tally.{Tally}
use Rattle.meshing.specs.Added.{Part}
use Rattle.meshing.specs.declared.levels.Band.{Band}
use Rattle.meshing.specs.Levels.{levels, bands_of, middle}
use Rattle.meshing.specs.Crossings.{crossings, crosses_in}
use Rattle.meshing.specs.Quads.{quad_in, band_quads, quads_of}

abbrev pub is_even : ℕ → Bool
is_even zero = true
is_even (suc n) = not (is_even n)

module _ (xs ys : List Float) where
  -- a band's middle is crossed an even number of times
  unfoldable pub even_band : Band → Bool
  even_band b = is_even (length (crossings xs ys (middle b)))

  -- a band's middle is crossed in range each time
  unfoldable pub band_in : Band → Bool
  band_in b = all_of (crosses_in xs ys (middle b)) (crossings xs ys (middle b))

  -- so is each of these
  abbrev pub bands_in : List Band → Bool
  bands_in bs = all_of band_in bs

  -- 3, 9, 10, 1 for a crossing, 11, 1 for a node, each over all bands before the next
  unfoldable pub scanline_of : Answer (List Quad)
  scanline_of =
      unless (leb 3 (length xs)) 3
      (unless (leb 2 (length (levels ys))) 9
      (unless (all_of even_band (bands_of (levels ys))) 10
      (unless (bands_in (bands_of (levels ys))) 1
      (unless (leb 1 (length (quads_of xs ys))) 11
      (unless (all_of quad_in (quads_of xs ys)) 1
      (given (quads_of xs ys)))))))

-- ---- four bottom nodes, then four top nodes a quad, never shared

-- the x, the y and the z of a quad's eight nodes
abbrev pub quad_xs : Quad → List Float
quad_xs q = q.ax ∷ q.bx ∷ q.cx ∷ q.dx ∷ q.ax ∷ q.bx ∷ q.cx ∷ q.dx ∷ []

abbrev pub quad_ys : Quad → List Float
quad_ys q = q.low ∷ q.low ∷ q.high ∷ q.high ∷ q.low ∷ q.low ∷ q.high ∷ q.high ∷ []

abbrev pub quad_zs : Float → Float → List Float
quad_zs z0 z1 = z0 ∷ z0 ∷ z0 ∷ z0 ∷ z1 ∷ z1 ∷ z1 ∷ z1 ∷ []

-- the node places of its two prisms, on the triangles a b c and a c d, where a's bottom node has the number n
abbrev pub quad_places : ℕ → List ℕ
quad_places n =
    n ∷ (n + 1) ∷ (n + 2) ∷ (n + 4) ∷ (n + 5) ∷ (n + 6) ∷ unused ∷ unused
    ∷ n ∷ (n + 2) ∷ (n + 3) ∷ (n + 4) ∷ (n + 6) ∷ (n + 7) ∷ unused ∷ unused ∷ []

-- the nodes and prisms of quads, where the mesh has `base` nodes already
unfoldable pub quads_part : ℕ → Float → Float → List Quad → Part
quads_part base z0 z1 qs =
    record {
      xs = joined quad_xs qs;
      ys = joined quad_ys qs;
      zs = runs (length qs) (λ _. quad_zs z0 z1);
      kinds = elems (2 * length qs) (λ _. kind_number Prism);
      places = runs (length qs) (λ i. quad_places (base + i * 8));
    }

-- what the scanline finds for a ring from one height to another
abbrev pub scanned : ℕ → SoundRing → Heights → Answer Part
scanned base r h = map_answer (quads_part base h.bottom h.top) (scanline_of r.ring.xs.now r.ring.ys.now)

-- ---- what the pass that decides keeps

-- a tally with quads added to it
pub record Tallied (t : Tally) (qs : List Quad) (t' : Tally) : Type 0 where
  pub quads : t'.quads ≡ t.quads + length qs
  pub inside : t'.inside ≡ (t.inside && all_of quad_in qs)

-- the tally of bands, where each is crossed in range
abbrev pub BandsAs : List Float → List Float → List Band → Option Tally → Type 0
BandsAs xs ys bs (Some t) = (bands_in xs ys bs ≡ true) × (t.quads ≡ length (joined (band_quads xs ys) bs)) × (t.inside ≡ all_of quad_in (joined (band_quads xs ys) bs))
BandsAs xs ys bs None = bands_in xs ys bs ≡ false

-- room to work in for the edges of a ring
pub record Worked (ys : List Float) (edges at : ℕ) : Type 0 where
  pub edges_room : length ys ≤ edges
  pub at_room : length ys ≤ at
