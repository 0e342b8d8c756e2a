-- Meshing a prism region: clipped into triangular prisms, or by the scanline.
use Rattle.std.specs.Prelude.{ℕ, ◌+◌, ◌≡◌, cond, List, [], ◌∷◌, ◌++◌, eqb, leb, length, Float}
use Rattle.std.specs.Float.Ieee.{lt}
use Rattle.lists.specs.Answer.{Answer, refused, given, unless, and_then, map_answer}
use Rattle.lists.specs.Lists.{elems, joined, part}
use Rattle.openrdson_core.specs.Mesh.{Mesh, parallel, within, unused, kind_number}
use Rattle.openrdson_core.specs.Points.{ring_fault}
use Rattle.openrdson_core.specs.Solids.{heights_in, prism_fault}
use Rattle.openrdson_core.specs.declared.mesh.Counts.{Counts}
use Rattle.openrdson_core.specs.declared.mesh.ElementType.TheVariants.{Prism}
use Rattle.meshing.specs.Added.{Part, fit_part}
use Rattle.meshing.specs.Ring.{kept, gathered}
use Rattle.meshing.specs.Triangles.{Triangle, tri}
use Rattle.meshing.specs.Ears.{triangles_of}
use Rattle.meshing.specs.Rectilinear.{is_rectilinear}
use Rattle.openrdson_core.specs.declared.ring.SoundRing.{SoundRing}
use Rattle.meshing.specs.declared.scanline.Extrusion.{Extrusion}
use Rattle.meshing.specs.Scanline.{scanline_of, quads_part}

-- ---- clipped: bottom nodes 0 to n - 1, top nodes n to 2n - 1

-- the eight node places of the prism on a triangle, where the n bottom nodes start at `base`
abbrev pub prism_places : ℕ → ℕ → Triangle → List ℕ
prism_places base n (tri a b c) =
    (base + a) ∷ (base + b) ∷ (base + c) ∷ (base + n + a) ∷ (base + n + b) ∷ (base + n + c) ∷ unused ∷ unused ∷ []

-- the nodes of a ring at two heights, and a prism for each triangle
unfoldable pub triangles_part : ℕ → Float → Float → List Float → List Float → List Triangle → Part
triangles_part base z0 z1 xs ys ts =
    record {
      xs = xs ++ xs;
      ys = ys ++ ys;
      zs = elems (length xs) (λ _. z0) ++ elems (length xs) (λ _. z1);
      kinds = elems (length ts) (λ _. kind_number Prism);
      places = joined (prism_places base (length xs)) ts;
    }

module _ (base : ℕ) (z0 z1 : Float) where
  -- by the triangles of a ring, or by the scanline where clipping refuses
  abbrev pub triangles_or : List Float → List Float → Answer (List Triangle) → Answer Part → Answer Part
  triangles_or xs ys (given ts) scanline = given (triangles_part base z0 z1 xs ys ts)
  triangles_or xs ys (refused n) scanline = scanline

  -- what a ring that is cleaned once adds: by the scanline if it is rectilinear, else cleaned again and clipped
  unfoldable pub ring_part : List Float → List Float → Answer Part
  ring_part xs ys =
      let scanline = map_answer (quads_part base z0 z1) (scanline_of xs ys) in
      let again = kept xs ys in
      let clipped = triangles_or (gathered xs again) (gathered ys again) (triangles_of (gathered xs again) (gathered ys again)) scanline in
      cond (is_rectilinear xs ys) scanline clipped

  -- what a ring adds
  unfoldable pub prism_part : List Float → List Float → Answer Part
  prism_part xs ys = ring_part (gathered xs (kept xs ys)) (gathered ys (kept xs ys))

-- the same for a ring from one height to another: what it adds by these triangles
abbrev pub cut_part : ℕ → Extrusion → List Triangle → Part
cut_part base e = triangles_part base e.heights.bottom e.heights.top e.ring.ring.xs.now e.ring.ring.ys.now

-- what it adds where it is cleaned once
abbrev pub meshed : ℕ → Extrusion → Answer Part
meshed base e = ring_part base e.heights.bottom e.heights.top e.ring.ring.xs.now e.ring.ring.ys.now

-- what it adds where it is not cleaned
abbrev pub cleaned : ℕ → Extrusion → Answer Part
cleaned base e = prism_part base e.heights.bottom e.heights.top e.ring.ring.xs.now e.ring.ring.ys.now

-- s is what r is cleaned to
pub record Cleans (r s : SoundRing) : Type 0 where
  pub xs : s.ring.xs.now ≡ gathered r.ring.xs.now (kept r.ring.xs.now r.ring.ys.now)
  pub ys : s.ring.ys.now ≡ gathered r.ring.ys.now (kept r.ring.xs.now r.ring.ys.now)

-- 16; 15 for counts, material or part; 2; 1; 8; then the scanline's 3, 9, 10, 1, 11, 1; then 12
unfoldable pub mesh_prism : Float → Float → ℕ → ℕ → ℕ → Counts → List Float → List Float → Mesh → Answer Part
mesh_prism z0 z1 start count material c px py m =
    unless (parallel m) 16
    (unless (eqb (length px) (length py)) 16
    (unless (within c m) 15
    (unless (leb material 768) 15
    (and_then (prism_fault px py z0 z1 start count) (λ _.
    unless (lt z0 z1) 8
    (and_then (prism_part c.nodes z0 z1 (part start count px) (part start count py)) (fit_part c m)))))))

-- ---- of a part of two point lists that are equally long, and two heights: 15, 2, 1, 8 (proofs/PrismLaws shows that `mesh_prism` has the same)

unfoldable pub part_fault : List Float → List Float → Float → Float → ℕ → ℕ → Answer (Unit {0})
part_fault px py z0 z1 start count =
    unless (leb (start + count) (length px)) 15
    (unless (leb (length px) 2097152) 2
    (and_then (ring_fault (part start count px) (part start count py)) (λ _.
    unless (heights_in z0 z1) 1
    (unless (lt z0 z1) 8
    (given tt)))))
