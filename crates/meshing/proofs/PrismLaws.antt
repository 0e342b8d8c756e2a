-- Meshing a prism: its triangles written, the ring that it is cleaned to, how that is meshed, and the refusals in order. Assumes nothing.
use mathlib.Core.Path.{◌≡◌, refl, sym, ap, ◌∙◌}
use mathlib.Core.Bool.{Bool, true, false}
use mathlib.Core.List.{List, []}
use Prim.Native.Nat.{ℕ, ◌+◌, ◌*◌, ◌/◌, ◌≤◌, ◌<◌}
use native.Mathlib.Omega.{arith}
use lib.Dec.{eqb, leb}
use lib.ListN.{length, get_or, length-append}
use lib.Ieee.{Float, nan, lt}
use Rattle.std.specs.Prelude.{Result, Ok}
use borrow.Author.Tests.{eq-eqb, ne_eqb}
use Rattle.std.specs.Simd.{first_chunks}
use Rattle.lists.specs.Answer.{Answer, refused, given, unless, and_then, map_answer}
use Rattle.lists.specs.Lists.{put, elems, joined, part, Below}
use Rattle.lists.proofs.Answers.{refused_given}
use Rattle.lists.proofs.Counts.{below_occurring}
use Rattle.lists.proofs.Fills.{elems_length}
use Rattle.lists.proofs.Places.{below_at, gather_all}
use Rattle.openrdson_core.specs.Bounds.{the_bbox}
use Rattle.openrdson_core.specs.Mesh.{Mesh, the_mesh, the_counts, parallel, within, fits}
use Rattle.openrdson_core.specs.Points.{even_points, ring_fault}
use Rattle.openrdson_core.specs.Solids.{heights_in}
use Rattle.openrdson_core.specs.declared.mesh.Counts.{Counts}
use Rattle.openrdson_core.specs.declared.refusals.Refusal.{Refusal}
use Rattle.openrdson_core.specs.declared.ring.SoundRing.{SoundRing}
use Rattle.openrdson_core.specs.declared.solids.Solid.{Solid}
use Rattle.openrdson_core.specs.declared.solids.Solid.TheVariants.{Box, Prism}
use Rattle.openrdson_core.proofs.Rings.{fine_ring}
use Rattle.meshing.specs.declared.cells.MeshConfig.{MeshConfig}
use Rattle.meshing.specs.Added.{Part, fit_part, Adds}
use Rattle.meshing.specs.Boxes.{mesh_box}
use Rattle.meshing.specs.Ring.{kept, gathered}
use Rattle.meshing.specs.Triangles.{Triangle, tri, corners, triples}
use Rattle.meshing.specs.Ears.{triangles_of}
use Rattle.meshing.specs.Rectilinear.{is_rectilinear}
use Rattle.meshing.specs.Scanline.{scanline_of, quads_part}
use Rattle.meshing.specs.Prisms.{prism_places, triangles_part, ring_part, prism_part, mesh_prism, part_fault, Cleans}
use Rattle.meshing.specs.Regions.{mesh_region}
use Rattle.meshing.proofs.BoxWrites.{same_mesh, same_adds}
use Rattle.meshing.proofs.Chunks.{chunk_at}
use Rattle.meshing.proofs.Triangulations.{triangles_triangulation}
use Rattle.meshing.proofs.Placed.{put_two}
use Rattle.meshing.proofs.Rooms.{Room}
use Rattle.meshing.proofs.TriangulateLaws.{corners_length}
use Rattle.meshing.proofs.Written.{triple_at}

-- ---- the prisms on triangles

pub prism_length : (base n : ℕ) (t : Triangle) → length (prism_places base n t) ≡ 8
prism_length base n (tri a b c) = refl

-- the places of the prism on triangle k of a list of corners, and from its three corners
abbrev pub prism_at : ℕ → ℕ → List ℕ → ℕ → List ℕ
prism_at base n l k = prism_places base n (get_or (triples l) k (tri 0 0 0))

pub prism_is : (base n : ℕ) (l : List ℕ) (i k : ℕ) → i ≡ k * 3 → i + 2 < length l → prism_places base n (tri (get_or l i 0) (get_or l (i + 1) 0) (get_or l (i + 2) 0)) ≡ prism_at base n l k
prism_is base n l i k e h = ap (prism_places base n) (sym (triple_at l i k e h))

-- The same of the corners read three at a time: their triangle k.
module _ (l : List ℕ) {triangles : List (List ℕ)} (are : triangles ≡ first_chunks 3 (length l / 3) l) (k : ℕ) (h : k < length l / 3) where
  corner : (j : ℕ) → j < 3 → get_or (get_or triangles k []) j 0 ≡ get_or l (k * 3 + j) 0
  corner j g = ap (λ (ts : List (List ℕ)). get_or (get_or ts k []) j 0) are ∙ chunk_at 3 (length l / 3) l k j h g

  pub corner_below : (n j : ℕ) → Below n l → j < 3 → get_or (get_or triangles k []) j 0 < n
  corner_below n j b g = omega (arith, corner j g, below_at n l (k * 3 + j) b (omega arith))

  pub prism_of : (base n : ℕ) → prism_places base n (tri (get_or (get_or triangles k []) 0 0) (get_or (get_or triangles k []) 1 0) (get_or (get_or triangles k []) 2 0)) ≡ prism_at base n l k
  prism_of base n =
      let first : k * 3 + 0 ≡ k * 3 = omega arith in
      rw (corner 0 (omega arith), corner 1 (omega arith), corner 2 (omega arith), first) (prism_is base n l (k * 3) k refl (omega arith))

-- how many triangles a list of corners has that holds nothing else
pub triples_many : (l : List ℕ) → corners (triples l) ≡ l → length l ≡ length (triples l) * 3
triples_many l e = ap length (sym e) ∙ corners_length (triples l)

-- ---- a ring's triangles as prisms: its nodes twice, and a prism for each triangle

module _ (c : Counts) (m : Mesh) (z0 z1 : Float) (xs ys : List Float) (l : List ℕ) (whole : corners (triples l) ≡ l) where
  abbrev tris : Part
  tris = triangles_part c.nodes z0 z1 xs ys (triples l)

  pub tris_many : length l / 3 ≡ length (triples l)
  tris_many = omega (arith, triples_many l whole)

  tris_nodes : length tris.xs ≡ length xs + length xs
  unfolding triangles_part
  tris_nodes = length-append xs xs

  tris_elements : length tris.kinds ≡ length l / 3
  unfolding triangles_part
  tris_elements = elems_length (λ _. 2) (length (triples l)) ∙ sym tris_many

  module _ {nodes : Bool} (e : nodes ≡ fits (length xs + length xs) c.nodes (length m.xs)) where
    pub tris_no_nodes : nodes ≡ false → fit_part c m tris ≡ refused 12
    unfolding fit_part
    tris_no_nodes f = rw (tris_nodes, ← e, f)

    module _ (f : nodes ≡ true) {elements : Bool} (g : elements ≡ fits (length l / 3) c.elements (length m.kinds)) where
      pub tris_no_elements : elements ≡ false → fit_part c m tris ≡ refused 12
      unfolding fit_part
      tris_no_elements h = rw (tris_nodes, ← e, f, tris_elements, ← g, h)

      pub tris_fit : elements ≡ true → fit_part c m tris ≡ given tris
      unfolding fit_part
      tris_fit h = rw (tris_nodes, ← e, f, tris_elements, ← g, h)

  module _ (region : ℕ) (even : length ys ≡ length xs) (room : Room c (length xs + length xs) (length l / 3) (length m.xs) (length m.ys) (length m.zs) (length m.kinds) (length m.places) (length m.regions)) where
    abbrev n : ℕ
    n = length xs

    counted : the_counts (c.nodes + n + n) (c.elements + length l / 3) ≡ the_counts (c.nodes + length tris.xs) (c.elements + length tris.kinds)
    counted =
        let p : c.nodes + n + n ≡ c.nodes + length tris.xs = omega (arith, tris_nodes) in
        ap (λ (k : ℕ). the_counts k (c.elements + length l / 3)) p
        ∙ ap (λ (k : ℕ). the_counts (c.nodes + length tris.xs) (c.elements + k)) (sym tris_elements)

    pub tris_adds : {xs1 xs2 ys1 ys2 zs1 zs2 : List Float} {kinds places regions : List ℕ}
        → xs1 ≡ put m.xs c.nodes xs → xs2 ≡ put xs1 (c.nodes + n) xs
        → ys1 ≡ put m.ys c.nodes ys → ys2 ≡ put ys1 (c.nodes + n) ys
        → zs1 ≡ put m.zs c.nodes (elems n (λ _. z0)) → zs2 ≡ put zs1 (c.nodes + n) (elems n (λ _. z1))
        → kinds ≡ put m.kinds c.elements (elems (length l / 3) (λ _. 2))
        → places ≡ put m.places (8 * c.elements) (joined (prism_places c.nodes n) (triples l))
        → regions ≡ put m.regions c.elements (elems (length l / 3) (λ _. region))
        → Adds (given tris) c region m (the_mesh xs2 ys2 zs2 kinds places regions) (Ok (the_counts (c.nodes + n + n) (c.elements + length l / 3)))
    unfolding triangles_part
    tris_adds p1 p2 q1 q2 r1 r2 s t u =
        record {
          answer = ap given counted;
          lists = same_mesh
              (put_two m.xs xs xs c.nodes (c.nodes + n) p1 p2 refl (omega (arith, room.in_xs)))
              (put_two m.ys ys ys c.nodes (c.nodes + n) q1 q2 (omega (arith, even)) (omega (arith, even, room.in_ys)))
              (put_two m.zs (elems n (λ _. z0)) (elems n (λ _. z1)) c.nodes (c.nodes + n) r1 r2 (omega (arith, elems_length (λ _. z0) n)) (omega (arith, elems_length (λ _. z1) n, room.in_zs)))
              (s ∙ ap (λ (k : ℕ). put m.kinds c.elements (elems k (λ _. 2))) tris_many)
              t
              (u ∙ ap (λ (k : ℕ). put m.regions c.elements (elems k (λ _. region))) (sym tris_elements));
        }

-- ---- a ring that has been clipped

pub record CutRing (rx ry : List Float) (l : List ℕ) : Type 0 where
  pub whole : corners (triples l) ≡ l
  pub below : Below (length rx) l
  pub few : length l ≤ 1530

pub cut_ring : (rx ry : List Float) (l : List ℕ) → ring_fault rx ry ≡ given tt → (triangles_of rx ry ≡ given (triples l)) × (corners (triples l) ≡ l) → CutRing rx ry l
cut_ring rx ry l e (g, whole) =
    let size = fine_ring rx ry e in
    let t = triangles_triangulation rx ry (triples l) g in
    record {
      whole = whole;
      below = below_occurring (length rx) l (λ u h. t.below u (rw whole h));
      few = omega (arith, size.short, t.number, triples_many l whole);
    }

-- ---- the ring that a ring is cleaned to

module _ (xs ys : List Float) where
  -- a clean ring is cleaned to itself
  module _ (clean : kept xs ys ≡ elems (length xs) (λ i. i)) where
    pub clean_xs : xs ≡ gathered xs (kept xs ys)
    clean_xs = sym (ap (gathered xs) clean ∙ gather_all nan xs (length xs) refl)

    pub clean_ys : length xs ≡ length ys → ys ≡ gathered ys (kept xs ys)
    clean_ys e = sym (ap (gathered ys) clean ∙ gather_all nan ys (length xs) e)

  module _ {rx ry : List Float} (e : rx ≡ gathered xs (kept xs ys)) (f : ry ≡ gathered ys (kept xs ys)) where
    module _ (base : ℕ) (z0 z1 : Float) where
      pub prism_ring : ring_part base z0 z1 rx ry ≡ prism_part base z0 z1 xs ys
      unfolding prism_part
      prism_ring = rw (e, f)

      -- how it is meshed where it is not rectilinear: by the scanline where clipping refuses it, or by its triangles
      module _ (slanted : is_rectilinear xs ys ≡ false) where
        pub ring_stuck : {n : ℕ} → triangles_of rx ry ≡ refused n → ring_part base z0 z1 xs ys ≡ map_answer (quads_part base z0 z1) (scanline_of xs ys)
        unfolding ring_part
        ring_stuck g = rw (slanted, ← e, ← f, g)

        pub ring_triangles : {ts : List Triangle} → triangles_of rx ry ≡ given ts → ring_part base z0 z1 xs ys ≡ given (triangles_part base z0 z1 rx ry ts)
        unfolding ring_part
        ring_triangles g = rw (slanted, ← e, ← f, g)

  pub ring_scanned : (base : ℕ) (z0 z1 : Float) → is_rectilinear xs ys ≡ true → ring_part base z0 z1 xs ys ≡ map_answer (quads_part base z0 z1) (scanline_of xs ys)
  unfolding ring_part
  ring_scanned base z0 z1 e = rw e

-- a clean ring is one that it is cleaned to
pub clean_self : (r : SoundRing) → kept r.ring.xs.now r.ring.ys.now ≡ elems (length r.ring.xs.now) (λ i. i) → Cleans r r
clean_self r clean = record { xs = clean_xs r.ring.xs.now r.ring.ys.now clean; ys = clean_ys r.ring.xs.now r.ring.ys.now clean r.ring.even }

-- what is added where there is room depends on the part alone
pub part_adds : {a b : Answer Part} {c : Counts} {region : ℕ} {m m' : Mesh} {r : Result Counts Refusal} → a ≡ b → Adds (and_then b (fit_part c m)) c region m m' r → Adds (and_then a (fit_part c m)) c region m m' r
part_adds {c = c} {m = m} e = same_adds (ap (λ (a : Answer Part). and_then a (fit_part c m)) (sym e))

-- ---- the refusals, in order

-- a row that turns a call down, whatever comes after it
pub row_refused : {A : Type 0} (b : Bool) (k : ℕ) (rest : Answer A) {n : ℕ} → refused n ≡ unless b k (given (tt {0})) → unless b k rest ≡ refused n
row_refused true k rest e = refused_given e
row_refused false k rest e = cc

-- what is against the part and the heights, and one more row, before what is decided next
rows : {A : Type 0} (i s h t : Bool) (fault : Answer (Unit {0})) (rest : Answer A)
    → and_then (and_then (and_then (unless i 15 (unless s 2 (given (tt {0})))) (λ _. and_then fault (λ _. given (tt {0})))) (λ _. unless h 1 (given (tt {0})))) (λ _. unless t 8 rest)
    ≡ and_then (unless i 15 (unless s 2 (and_then fault (λ _. unless h 1 (unless t 8 (given (tt {0}))))))) (λ _. rest)
rows false s h t fault rest = refl
rows true false h t fault rest = refl
rows true true h t (refused n) rest = refl
rows true true false t (given u) rest = refl
rows true true true false (given u) rest = refl
rows true true true true (given u) rest = refl

module _ (px py : List Float) (z0 z1 : Float) (start count material : ℕ) (c : Counts) (m : Mesh) where
  abbrev prism : Answer Part
  prism = mesh_prism z0 z1 start count material c px py m

  pub prism_lists : parallel m ≡ false → prism ≡ refused 16
  unfolding mesh_prism
  prism_lists e = rw e

  module _ (p : parallel m ≡ true) where
    pub prism_points : {n : ℕ} → refused n ≡ even_points (length px) (length py) → prism ≡ refused n
    unfolding mesh_prism
    prism_points e = rw p (row_refused (eqb (length px) (length py)) 16 _ e)

    module _ (even : length px ≡ length py) where
      pub prism_counts : within c m ≡ false → prism ≡ refused 15
      unfolding mesh_prism
      prism_counts e = rw (p, eq-eqb (length px) (length py) even, e)

      module _ (w : within c m ≡ true) where
        pub prism_material : leb material 768 ≡ false → prism ≡ refused 15
        unfolding mesh_prism
        prism_material e = rw (p, eq-eqb (length px) (length py) even, w, e)

        module _ (k : leb material 768 ≡ true) where
          abbrev next : Answer Part
          next = and_then (prism_part c.nodes z0 z1 (part start count px) (part start count py)) (fit_part c m)

          judged : prism ≡ and_then (part_fault px py z0 z1 start count) (λ _. next)
          unfolding mesh_prism part_fault
          judged = rw (p, eq-eqb (length px) (length py) even, w, k) (rows (leb (start + count) (length px)) (leb (length px) 2097152) (heights_in z0 z1) (lt z0 z1) (ring_fault (part start count px) (part start count py)) next)

          pub prism_part_out : {n : ℕ} → refused n ≡ part_fault px py z0 z1 start count → prism ≡ refused n
          prism_part_out e = rw (judged, ← e)

          pub prism_next : given tt ≡ part_fault px py z0 z1 start count → prism ≡ next
          prism_next e = rw (judged, ← e)

-- ---- a region, by its solid

module _ {s : Solid} (x0 y0 x1 y1 z0 z1 : Float) (is : s ≡ Box x0 y0 x1 y1 z0 z1) (material : ℕ) (config : MeshConfig) (c : Counts) (px py : List Float) (m : Mesh) where
  pub region_uneven : (length px ≡ length py → ⊥) → mesh_region s material config c px py m ≡ refused 16
  unfolding mesh_region
  region_uneven h = rw (is, ne_eqb (length px) (length py) h)

  pub region_box : length px ≡ length py → mesh_region s material config c px py m ≡ mesh_box (the_bbox x0 y0 x1 y1) z0 z1 material config c m
  unfolding mesh_region
  region_box h = rw (is, eq-eqb (length px) (length py) h)

pub region_prism : {s : Solid} (z0 z1 : Float) (start count : ℕ) → s ≡ Prism z0 z1 start count → (material : ℕ) (config : MeshConfig) (c : Counts) (px py : List Float) (m : Mesh)
    → mesh_region s material config c px py m ≡ mesh_prism z0 z1 start count material c px py m
unfolding mesh_region
region_prism z0 z1 start count is material config c px py m = rw is
