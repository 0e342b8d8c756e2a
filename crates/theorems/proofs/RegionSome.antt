-- What a region call appends has an element. Assumes nothing.
use Prim.Native.Nat.{ℕ, suc, zero, ◌*◌, ◌≤◌}
use mathlib.Core.Path.{◌≡◌, refl, sym, ap, ◌∙◌, subst}
use mathlib.Core.Bool.{Bool, true, false, cond}
use mathlib.Core.List.{List}
use native.Mathlib.Omega.{arith}
use lib.Dec.{eqb, leb}
use lib.ListN.{length}
use lib.Ieee.{Float, lt}
use borrow.Author.Tests.{leb-true}
use Rattle.lists.specs.Answer.{Answer, refused, given, map_answer}
use Rattle.lists.specs.Lists.{all_of, part}
use Rattle.lists.proofs.Answers.{passed, passed_then, refused_given, given_same}
use Rattle.lists.proofs.Fills.{elems_length}
use Rattle.openrdson_core.specs.Bounds.{the_bbox}
use Rattle.openrdson_core.specs.Mesh.{Mesh, parallel, within, fits, kind_number}
use Rattle.openrdson_core.specs.Solids.{prism_fault}
use Rattle.openrdson_core.specs.declared.bounds.Bbox.{Bbox}
use Rattle.openrdson_core.specs.declared.mesh.Counts.{Counts}
use Rattle.openrdson_core.specs.declared.mesh.ElementType.TheVariants as kind
use Rattle.openrdson_core.specs.declared.solids.Solid.{Solid}
use Rattle.openrdson_core.specs.declared.solids.Solid.TheVariants.{Box, Prism}
use Rattle.meshing.specs.declared.cells.MeshConfig.{MeshConfig}
use Rattle.meshing.specs.declared.quads.Quad.{Quad}
use Rattle.meshing.specs.Added.{Part, fit_part}
use Rattle.meshing.specs.Boxes.{BoxCells, box_part, box_of_cells, box_judged, mesh_box}
use Rattle.meshing.specs.Ears.{triangles_of}
use Rattle.meshing.specs.Levels.{levels, bands_of}
use Rattle.meshing.specs.Prisms.{triangles_part, triangles_or, ring_part, prism_part, mesh_prism}
use Rattle.meshing.specs.Quads.{quad_in, quads_of}
use Rattle.meshing.specs.Rectilinear.{is_rectilinear}
use Rattle.meshing.specs.Regions.{mesh_region}
use Rattle.meshing.specs.Ring.{kept, gathered}
use Rattle.meshing.specs.Scanline.{even_band, bands_in, scanline_of, quads_part}
use Rattle.meshing.specs.Triangles.{Triangle}
use Rattle.meshing.proofs.BoxLaws.{box_judged_lem, judged_fits}
use Rattle.meshing.proofs.Triangulations.{triangles_triangulation}

one_more : (a b : ℕ) → 1 ≤ a → 1 ≤ b → 1 ≤ a * b
one_more zero b h k = absurd (omega arith)
one_more (suc a) zero h k = absurd (omega arith)
one_more (suc a) (suc b) h k = omega arith

abbrev pub HasSome : Part → Type 0
HasSome p = 1 ≤ length p.kinds

module _ (b : Bbox) (z0 z1 : Float) (material : ℕ) (config : MeshConfig) (c : Counts) (m : Mesh) (p : Part) where
  abbrev judged : Answer BoxCells
  judged = box_judged b z0 z1 material config c (length m.xs) (length m.ys) (length m.zs) (length m.kinds) (length m.places) (length m.regions)

  box_decided : (a : Answer BoxCells) → judged ≡ a → map_answer (box_of_cells c.nodes b z0 z1) a ≡ given p → HasSome p
  unfolding box_part
  box_decided (refused n) e f = refused_given f
  box_decided (given n) e f =
      let g = judged_fits b z0 z1 material config c _ _ _ _ _ _ n e in
      let h = one_more (n.nx * n.ny) n.nz (one_more n.nx n.ny g.some_x g.some_y) g.some_z in
      subst HasSome (given_same f) (omega (arith, h, elems_length {A = ℕ} (λ _. kind_number kind.Hex) (n.nx * n.ny * n.nz)))

  box_some : mesh_box b z0 z1 material config c m ≡ given p → HasSome p
  box_some e = box_decided judged refl (sym (box_judged_lem b z0 z1 material config c m) ∙ e)

quads_some : (xs ys : List Float) (qs : List Quad) → scanline_of xs ys ≡ given qs → 1 ≤ length qs
unfolding scanline_of
quads_some xs ys qs e =
    let three = passed (leb 3 (length xs)) 3 _ e in
    let two = passed (leb 2 (length (levels ys))) 9 _ three.1 in
    let even = passed (all_of (even_band xs ys) (bands_of (levels ys))) 10 _ two.1 in
    let fine = passed (bands_in xs ys (bands_of (levels ys))) 1 _ even.1 in
    let some = passed (leb 1 (length (quads_of xs ys))) 11 _ fine.1 in
    let last = passed (all_of quad_in (quads_of xs ys)) 1 _ some.1 in
    subst (λ (l : List Quad). 1 ≤ length l) (given_same last.1) (leb-true 1 (length (quads_of xs ys)) some.0)

module _ (base : ℕ) (z0 z1 : Float) (p : Part) where
  scanned_some : (xs ys : List Float) → map_answer (quads_part base z0 z1) (scanline_of xs ys) ≡ given p → HasSome p
  unfolding quads_part
  scanned_some xs ys e = at (scanline_of xs ys) refl e
    where
      at : (a : Answer (List Quad)) → scanline_of xs ys ≡ a → map_answer (quads_part base z0 z1) a ≡ given p → HasSome p
      at (refused n) f e = refused_given e
      at (given qs) f e = subst HasSome (given_same e) (omega (arith, quads_some xs ys qs f, elems_length {A = ℕ} (λ _. kind_number kind.Prism) (2 * length qs)))

  clipped_some : (xs ys us vs : List Float) (a : Answer (List Triangle)) → triangles_of us vs ≡ a
      → triangles_or base z0 z1 us vs a (map_answer (quads_part base z0 z1) (scanline_of xs ys)) ≡ given p → HasSome p
  unfolding triangles_part triangles_of
  clipped_some xs ys us vs (refused n) f e = scanned_some xs ys e
  clipped_some xs ys us vs (given ts) f e =
      let three = passed (leb 3 (length us)) 3 _ f in
      subst HasSome (given_same e)
      (omega (arith, leb-true 3 (length us) three.0, (triangles_triangulation us vs ts f).number, elems_length {A = ℕ} (λ _. kind_number kind.Prism) (length ts)))

  ring_some : (xs ys : List Float) → ring_part base z0 z1 xs ys ≡ given p → HasSome p
  unfolding ring_part
  ring_some xs ys e = at (is_rectilinear xs ys) e
    where
      us : List Float
      us = gathered xs (kept xs ys)

      vs : List Float
      vs = gathered ys (kept xs ys)

      at : (b : Bool) → cond b (map_answer (quads_part base z0 z1) (scanline_of xs ys)) (triangles_or base z0 z1 us vs (triangles_of us vs) (map_answer (quads_part base z0 z1) (scanline_of xs ys))) ≡ given p → HasSome p
      at true e = scanned_some xs ys e
      at false e = clipped_some xs ys us vs (triangles_of us vs) refl e

  prism_part_some : (xs ys : List Float) → prism_part base z0 z1 xs ys ≡ given p → HasSome p
  unfolding prism_part
  prism_part_some xs ys e = ring_some (gathered xs (kept xs ys)) (gathered ys (kept xs ys)) e

fitted_same : (c : Counts) (m : Mesh) (q p : Part) → fit_part c m q ≡ given p → q ≡ p
unfolding fit_part
fitted_same c m q p e =
    let nodes = passed (fits (length q.xs) c.nodes (length m.xs)) 12 _ e in
    let elements = passed (fits (length q.kinds) c.elements (length m.kinds)) 12 _ nodes.1 in
    given_same elements.1

-- an accepted region call appends an element
pub region_some : (s : Solid) (material : ℕ) (config : MeshConfig) (c : Counts) (px py : List Float) (m : Mesh) (p : Part) → mesh_region s material config c px py m ≡ given p → HasSome p
unfolding mesh_region mesh_prism
region_some (Box x0 y0 x1 y1 z0 z1) material config c px py m p e =
    box_some (the_bbox x0 y0 x1 y1) z0 z1 material config c m p (passed (eqb (length px) (length py)) 16 _ e).1
region_some (Prism z0 z1 start count) material config c px py m p e =
    let even = passed (parallel m) 16 _ e in
    let points = passed (eqb (length px) (length py)) 16 _ even.1 in
    let counted = passed (within c m) 15 _ points.1 in
    let named = passed (leb material 768) 15 _ counted.1 in
    let fine = passed_then (prism_fault px py z0 z1 start count) _ named.1 in
    let high = passed (lt z0 z1) 8 _ fine.2 in
    let made = passed_then (prism_part c.nodes z0 z1 (part start count px) (part start count py)) (fit_part c m) high.1 in
    let is : made.0 ≡ p = fitted_same c m made.0 p made.2 in
    prism_part_some c.nodes z0 z1 p (part start count px) (part start count py) (made.1 ∙ ap given is)
