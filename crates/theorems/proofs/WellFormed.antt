-- What an accepted region call appends is sound (`PartSound` in meshing's specs/Added), and a well-formed mesh with it is well formed.
--     box_sound, quads_sound, triangles_sound     what each way of meshing appends
--     region_sound, region_fits                   what a region call gives
--     added_well_formed                           a well-formed mesh with sound nodes and elements that fit
--     region_well_formed, call_well_formed        the mesh that a region call leaves
--     empty_well_formed                           one to begin with
-- Assumes nothing.
use mathlib.Core.Path.{◌≡◌, refl, sym, ap, subst, ◌∙◌}
use mathlib.Core.Bool.{Bool, true, false, ◌&&◌, ◌||◌, cond}
use mathlib.Core.List.{List, [], ◌∷◌, ◌++◌}
use mathlib.Core.Logic.{inl, inr}
use Prim.Native.Nat.{ℕ, zero, suc, ◌+◌, ◌*◌, ◌-◌, ◌/◌, ◌≤◌, ◌<◌}
use native.Mathlib.Nat.{eq-or-lt_of_le}
use native.Mathlib.Decide.{dec_lt}
use native.Mathlib.Omega.{arith}
use lib.Dec.{eqb, leb, ltb}
use lib.ListN.{length, get_or, length-append}
use lib.Ieee.{Float, nan, lt}
use Rattle.std.specs.Prelude.{Result}
use borrow.Author.Tests.{eqb-true, leb-true, lt-ltb, le-leb}
use Rattle.lists.specs.Answer.{Answer, refused, given, map_answer, left}
use Rattle.lists.specs.Lists.{runs, elems, part, all_below, joined, Below}
use Rattle.lists.proofs.Answers.{refused_given, passed, passed_then, given_same}
use Rattle.lists.proofs.Fills.{put_length, runs_length, elems_length, elems_at}
use Rattle.lists.proofs.Joined.{joined_length}
use Rattle.lists.proofs.Parts.{part_at, part_of_part, part_runs, part_joined, put_kept, put_kept_at, put_new, put_new_at}
use Rattle.lists.proofs.Counts.{below_occurring}
use Rattle.lists.proofs.Passing.{all_of_at}
use Rattle.lists.proofs.Places.{below_at, gather_length}
use Rattle.lists.proofs.Scans.{both, all_at, all_from}
use Rattle.openrdson_core.specs.Mesh.{Mesh, the_counts, unused, kind_number, kind_of, known, used_places, parallel, within_lengths, within, fits, rest_unused, first_below, kind_at, places_of, well_formed}
use Rattle.openrdson_core.specs.Answers.{answer}
use Rattle.openrdson_core.specs.Solids.{prism_fault}
use Rattle.openrdson_core.specs.Bounds.{the_bbox}
use Rattle.openrdson_core.specs.declared.mesh.Counts.{Counts}
use Rattle.openrdson_core.specs.declared.mesh.ElementType.TheVariants as kind
use Rattle.openrdson_core.specs.declared.refusals.Refusal.{Refusal}
use Rattle.openrdson_core.specs.declared.bounds.Bbox.{Bbox}
use Rattle.openrdson_core.specs.declared.solids.Solid.{Solid}
use Rattle.openrdson_core.specs.declared.solids.Solid.TheVariants.{Box, Prism}
use Rattle.openrdson_core.proofs.MeshLaws.{equal_lengths, room_for, rest_start, first_wider, Valid, WellFormed, well_formed_lem, formed_well}
use Rattle.meshing.specs.declared.cells.MeshConfig.{MeshConfig}
use Rattle.meshing.specs.Added.{Part, grown, added, fit_part, Adds, element_appended, PartSound}
use Rattle.meshing.specs.Grid.{grid_nodes, grid_cells, hex_places}
use Rattle.meshing.specs.Boxes.{Axis, coordinate, box_part, mesh_box, BoxCells, box_of_cells, box_judged}
use Rattle.meshing.specs.Ring.{kept, gathered}
use Rattle.meshing.specs.Triangles.{Triangle, tri, corners}
use Rattle.meshing.specs.Ears.{triangles_of}
use Rattle.meshing.specs.Rectilinear.{is_rectilinear}
use Rattle.meshing.specs.Quads.{Trapezoid}
use Rattle.meshing.specs.Scanline.{scanline_of, quad_xs, quad_zs, quad_places, quads_part}
use Rattle.meshing.specs.Prisms.{prism_places, triangles_part, triangles_or, ring_part, prism_part, mesh_prism}
use Rattle.meshing.specs.Regions.{mesh_region}
use Rattle.meshing.proofs.BoxLaws.{box_judged_lem, judged_sized}
use Rattle.meshing.proofs.Triangulations.{triangles_triangulation}
use Rattle.meshing.proofs.GridLaws.{grid_length, hexes_length, hexes_below, hexes_from}
use Rattle.meshing.proofs.PrismLaws.{prism_length}
use Rattle.meshing.proofs.QuadLaws.{eight_xs, eight_ys}

-- ---- an element that is appended

-- node k is one of the n that are appended to `base`
record Among (base n k : ℕ) : Type 0 where
  from : base ≤ k
  below : k < base + n

abbrev among : ℕ → ℕ → ℕ → Bool
among base n k = leb base k && ltb k (base + n)

is_among : {base n k : ℕ} → Among base n k → among base n k ≡ true
is_among {base} {n} {k} a = rw (le-leb base k a.from, lt-ltb k (base + n) a.below)

-- k is the number of a hex or of a prism
abbrev of_two : ℕ → Bool
of_two k = eqb k (kind_number kind.Hex) || eqb k (kind_number kind.Prism)

-- an element of kind number k with the eight places ws
abbrev sound_as : ℕ → ℕ → ℕ → List ℕ → Bool
sound_as base n k ws = of_two k && all_below (used_places (kind_of k)) (λ i. among base n (get_or ws i 0)) && rest_unused (used_places (kind_of k)) ws

hex_sound : (base n : ℕ) (ws : List ℕ) → ((i : ℕ) → i < 8 → Among base n (get_or ws i 0)) → sound_as base n (kind_number kind.Hex) ws ≡ true
unfolding kind_of rest_unused
hex_sound base n ws each = rw (all_from (λ i. among base n (get_or ws i 0)) 8 (λ i h. is_among (each i h))) (rest_start 8 ws)

prism_sound : {base n a b c d e f : ℕ} → Among base n a → Among base n b → Among base n c → Among base n d → Among base n e → Among base n f
    → sound_as base n (kind_number kind.Prism) (a ∷ b ∷ c ∷ d ∷ e ∷ f ∷ unused ∷ unused ∷ []) ≡ true
unfolding kind_of rest_unused all_below
prism_sound a b c d e f = rw (is_among a, is_among b, is_among c, is_among d, is_among e, is_among f)

module _ (base : ℕ) (p : Part) (e : ℕ) where
  appended_as : {k : ℕ} {ws : List ℕ} → get_or p.kinds e 0 ≡ k → part (8 * e) 8 p.places ≡ ws → sound_as base (length p.xs) k ws ≡ true → element_appended base p e ≡ true
  unfolding element_appended
  appended_as {k} {ws} is at s =
      ap (λ (j : ℕ). sound_as base (length p.xs) j (part (8 * e) 8 p.places)) is ∙ ap (sound_as base (length p.xs) k) at ∙ s

-- ---- a box

module _ (base nx ny nz : ℕ) where
  abbrev hexes : List ℕ
  hexes = hex_places base nx ny nz

  -- place i of hex e
  hex_node : (n e i : ℕ) → n ≡ grid_nodes nx ny nz → e < grid_cells nx ny nz → i < 8 → Among base n (get_or (part (8 * e) 8 hexes) i 0)
  hex_node n e i same l h =
      let at = part_at hexes (8 * e) 8 i 0 h in
      let room : 8 * e + i < length hexes = omega (arith, hexes_length base nx ny nz) in
      let low = leb-true base (get_or hexes (8 * e + i) 0) (all_of_at (λ k. leb base k) hexes (8 * e + i) 0 (hexes_from base nx ny nz) room) in
      let high = below_at (base + grid_nodes nx ny nz) hexes (8 * e + i) (hexes_below base nx ny nz) room in
      record { from = omega arith; below = omega arith }

pub box_sound : (base : ℕ) (x y z : Axis) → PartSound base (box_part base x y z)
unfolding box_part
box_sound base x y z =
    let nx = x.cells in
    let ny = y.cells in
    let nz = z.cells in
    let nodes = grid_length nx ny nz (λ i j k. coordinate x i) in
    let cells = elems_length (λ _. kind_number kind.Hex) (grid_cells nx ny nz) in
    record {
      same_ys = grid_length nx ny nz (λ i j k. coordinate y j) ∙ sym nodes;
      same_zs = grid_length nx ny nz (λ i j k. coordinate z k) ∙ sym nodes;
      eight = hexes_length base nx ny nz ∙ ap (λ (n : ℕ). 8 * n) (sym cells);
      elements =
          all_from (element_appended base (box_part base x y z)) _ (λ e l.
          let h : e < grid_cells nx ny nz = omega arith in
          appended_as base (box_part base x y z) e (elems_at (λ _. kind_number kind.Hex) 0 (grid_cells nx ny nz) e h) refl
          (hex_sound base _ (part (8 * e) 8 (hex_places base nx ny nz)) (λ i k. hex_node base nx ny nz _ e i nodes h k)));
    }

-- ---- quads

module _ (base : ℕ) (z0 z1 : Float) (qs : List Trapezoid) where
  abbrev quad_run : ℕ → List ℕ
  quad_run i = quad_places (base + i * 8)

  -- eight places of run i
  quad_places_lem : (i start at : ℕ) → i < length qs → start + 8 ≤ 16 → at ≡ i * 16 + start → part at 8 (runs (length qs) quad_run) ≡ part start 8 (quad_run i)
  quad_places_lem i start at h l e =
      ap (λ (k : ℕ). part k 8 (runs (length qs) quad_run)) e
      ∙ sym (part_of_part (runs (length qs) quad_run) (i * 16) start 8 16 l)
      ∙ ap (part start 8) (part_runs 16 quad_run (λ i. refl) (length qs) i h)

  quad_node : (i k : ℕ) → i < length qs → k < 8 → Among base (length (joined quad_xs qs)) (base + i * 8 + k)
  quad_node i k h l = record { from = omega arith; below = omega (arith, eight_xs qs) }

  quad_first : (i : ℕ) → i < length qs → Among base (length (joined quad_xs qs)) (base + i * 8)
  quad_first i h = record { from = omega arith; below = omega (arith, eight_xs qs) }

  -- the two prisms of a quad
  lower_sound : (i : ℕ) → i < length qs → sound_as base (length (joined quad_xs qs)) (kind_number kind.Prism) (part 0 8 (quad_run i)) ≡ true
  lower_sound i h =
      prism_sound (quad_first i h) (quad_node i 1 h (omega arith)) (quad_node i 2 h (omega arith))
      (quad_node i 4 h (omega arith)) (quad_node i 5 h (omega arith)) (quad_node i 6 h (omega arith))

  upper_sound : (i : ℕ) → i < length qs → sound_as base (length (joined quad_xs qs)) (kind_number kind.Prism) (part 8 8 (quad_run i)) ≡ true
  upper_sound i h =
      prism_sound (quad_first i h) (quad_node i 2 h (omega arith)) (quad_node i 3 h (omega arith))
      (quad_node i 4 h (omega arith)) (quad_node i 6 h (omega arith)) (quad_node i 7 h (omega arith))

  quad_appended : (e : ℕ) → e < 2 * length qs → element_appended base (quads_part base z0 z1 qs) e ≡ true
  unfolding quads_part
  quad_appended e l =
      let i = e / 2 in
      let h : i < length qs = omega arith in
      let low : i * 2 ≤ e = omega arith in
      let is = elems_at (λ _. kind_number kind.Prism) 0 (2 * length qs) e l in
      elim (eq-or-lt_of_le low) [
        | inl g ↦ appended_as base (quads_part base z0 z1 qs) e is (quad_places_lem i 0 (8 * e) h (omega arith) (omega arith)) (lower_sound i h)
        | inr g ↦ appended_as base (quads_part base z0 z1 qs) e is (quad_places_lem i 8 (8 * e) h (omega arith) (omega arith)) (upper_sound i h)
      ]

  pub quads_sound : PartSound base (quads_part base z0 z1 qs)
  unfolding quads_part
  quads_sound =
      let prisms = elems_length (λ _. kind_number kind.Prism) (2 * length qs) in
      record {
        same_ys = eight_ys qs ∙ sym (eight_xs qs);
        same_zs = runs_length (λ _. quad_zs z0 z1) 8 (λ i. refl) (length qs) ∙ sym (eight_xs qs);
        eight = omega (arith, runs_length quad_run 16 (λ i. refl) (length qs), prisms);
        elements = all_from (element_appended base (quads_part base z0 z1 qs)) _ (λ e l. quad_appended e (omega (arith, prisms)));
      }

-- ---- triangles

-- a triangle's corners are below n
abbrev CornersBelow : ℕ → Triangle → Type 0
CornersBelow n (tri a b c) = (a < n) × (b < n) × (c < n)

corners_at : (n : ℕ) (ts : List Triangle) (e : ℕ) → Below n (corners ts) → e < length ts → CornersBelow n (get_or ts e (tri 0 0 0))
corners_at n [] e b h = absurd (omega arith)
corners_at n (tri u v w ∷ ts) zero b h = (b.0, b.1.0, b.1.1.0)
corners_at n (tri u v w ∷ ts) (suc e) b h = corners_at n ts e b.1.1.1 (omega arith)

on_triangle : (base n nodes : ℕ) (t : Triangle) → nodes ≡ n + n → CornersBelow n t → sound_as base nodes (kind_number kind.Prism) (prism_places base n t) ≡ true
on_triangle base n nodes (tri a b c) e h = prism_sound (bottom a h.0) (bottom b h.1) (bottom c h.2) (top a h.0) (top b h.1) (top c h.2)
  where
    bottom : (k : ℕ) → k < n → Among base nodes (base + k)
    bottom k l = record { from = omega arith; below = omega arith }

    top : (k : ℕ) → k < n → Among base nodes (base + n + k)
    top k l = record { from = omega arith; below = omega arith }

pub triangles_sound : (base : ℕ) (z0 z1 : Float) (xs ys : List Float) (ts : List Triangle) → Below (length xs) (corners ts) → length ys ≡ length xs
    → PartSound base (triangles_part base z0 z1 xs ys ts)
unfolding triangles_part
triangles_sound base z0 z1 xs ys ts below same =
    let p = triangles_part base z0 z1 xs ys ts in
    let n = length xs in
    let nodes : length (xs ++ xs) ≡ n + n = length-append xs xs in
    let prisms = elems_length (λ _. kind_number kind.Prism) (length ts) in
    record {
      same_ys = omega (arith, nodes, length-append ys ys);
      same_zs = omega (arith, nodes, length-append (elems n (λ _. z0)) (elems n (λ _. z1)), elems_length (λ _. z0) n, elems_length (λ _. z1) n);
      eight = omega (arith, joined_length (prism_places base n) 8 (prism_length base n) ts, prisms);
      elements =
          all_from (element_appended base p) _ (λ e l.
          let h : e < length ts = omega (arith, prisms) in
          let at : 8 * e ≡ e * 8 = omega arith in
          appended_as base p e (elems_at (λ _. kind_number kind.Prism) 0 (length ts) e h)
          (ap (λ (k : ℕ). part k 8 (joined (prism_places base n) ts)) at ∙ part_joined 8 (prism_places base n) (prism_length base n) (tri 0 0 0) ts e h)
          (on_triangle base n (length (xs ++ xs)) (get_or ts e (tri 0 0 0)) nodes (corners_at n ts e below h)));
    }

-- ---- a mesh with what is appended

-- and so of a kind
two_known : (k : ℕ) → of_two k ≡ true → known (kind_of k) ≡ true
unfolding kind_of
two_known k h = at (eqb k 1) (eqb k 2) refl refl h
  where
    at : (x y : Bool) → eqb k 1 ≡ x → eqb k 2 ≡ y → (x || y) ≡ true → known (kind_of k) ≡ true
    at true y e f g = rw (eqb-true k 1 e)
    at false true e f g = rw (eqb-true k 2 f)
    at false false e f g = let z : ◌≡◌ {A = ℕ} 0 1 = cc in absurd (omega arith)

-- what makes element e of a mesh valid, from its kind number and its places
valid_as : (n : ℕ) (m : Mesh) (e : ℕ) {k : ℕ} {ws : List ℕ} → kind_at m e ≡ k → places_of m e ≡ ws
    → known (kind_of k) ≡ true → rest_unused (used_places (kind_of k)) ws ≡ true → first_below (used_places (kind_of k)) n ws ≡ true → Valid n m e
valid_as n m e is at k r b = record { kind = rw is k; rest = rw (is, at) r; below = rw (is, at) b }

first_appended : (base n used : ℕ) (ws : List ℕ) → all_below used (λ i. among base n (get_or ws i 0)) ≡ true → first_below used (base + n) ws ≡ true
unfolding first_below
first_appended base n used ws h =
    all_from (λ i. ltb (get_or ws i 0) (base + n)) used (λ i l.
    (both (leb base (get_or ws i 0)) (ltb (get_or ws i 0) (base + n)) (all_at (λ i. among base n (get_or ws i 0)) used h i l)).1)

appended_valid : (base : ℕ) (p : Part) (j : ℕ) (m : Mesh) (e : ℕ) → element_appended base p j ≡ true → kind_at m e ≡ get_or p.kinds j 0 → places_of m e ≡ part (8 * j) 8 p.places
    → Valid (base + length p.xs) m e
unfolding element_appended
appended_valid base p j m e h is at =
    let k = get_or p.kinds j 0 in
    let ws = part (8 * j) 8 p.places in
    let used = used_places (kind_of k) in
    let n = length p.xs in
    let last = both (of_two k && all_below used (λ i. among base n (get_or ws i 0))) (rest_unused used ws) h in
    let two = both (of_two k) (all_below used (λ i. among base n (get_or ws i 0))) last.0 in
    valid_as (base + n) m e is at (two_known k two.0) last.1 (first_appended base n used ws two.1)

-- what there is room for
pub part_room : (c : Counts) (m : Mesh) (p q : Part) → fit_part c m p ≡ given q
    → (p ≡ q) × (c.nodes + length p.xs ≤ length m.xs) × (c.elements + length p.kinds ≤ length m.kinds)
unfolding fit_part
part_room c m p q e =
    let nodes = passed (fits (length p.xs) c.nodes (length m.xs)) 12 _ e in
    let elements = passed (fits (length p.kinds) c.elements (length m.kinds)) 12 _ nodes.1 in
    (given_same elements.1, (room_for _ _ _ nodes.0).1, (room_for _ _ _ elements.0).1)

module _ (c : Counts) (region : ℕ) (m : Mesh) (p : Part) (w : WellFormed c m) (s : PartSound c.nodes p)
    (nodes_room : c.nodes + length p.xs ≤ length m.xs) (elements_room : c.elements + length p.kinds ≤ length m.kinds) where
  abbrev new : Mesh
  new = added c region p m

  xs_long : length new.xs ≡ length m.xs
  xs_long = put_length m.xs c.nodes p.xs nodes_room

  kinds_long : length new.kinds ≡ length m.kinds
  kinds_long = put_length m.kinds c.elements p.kinds elements_room

  places_room : 8 * c.elements + length p.places ≤ length m.places
  places_room = let same = equal_lengths _ _ _ _ _ _ w.lists in omega (arith, s.eight, same.eight_places)

  new_parallel : parallel new ≡ true
  new_parallel =
      let same = equal_lengths _ _ _ _ _ _ w.lists in
      let marks = elems_length (λ _. region) (length p.kinds) in
      rw (
        xs_long,
        kinds_long,
        put_length m.ys c.nodes p.ys (omega (arith, s.same_ys, same.same_ys)),
        put_length m.zs c.nodes p.zs (omega (arith, s.same_zs, same.same_zs)),
        put_length m.places (8 * c.elements) p.places places_room,
        put_length m.regions c.elements (elems (length p.kinds) (λ _. region)) (omega (arith, marks, same.same_regions)),
      )
      w.lists

  new_within : within (grown c p) new ≡ true
  unfolding within_lengths
  new_within = rw (xs_long, kinds_long, le-leb (c.nodes + length p.xs) (length m.xs) nodes_room, le-leb (c.elements + length p.kinds) (length m.kinds) elements_room)

  -- the elements that were there before
  kept_valid : (e : ℕ) → e < c.elements → Valid (c.nodes + length p.xs) new e
  kept_valid e l =
      let old = w.elements e l in
      valid_as _ new e
      (put_kept_at m.kinds c.elements p.kinds (omega arith) e 0 l)
      (put_kept m.places (8 * c.elements) p.places (omega (arith, places_room)) (8 * e) 8 (omega arith))
      old.kind
      old.rest
      (first_wider c.nodes (places_of m e) _ (omega arith) old.below)

  -- those that are appended
  new_valid : (j : ℕ) → j < length p.kinds → Valid (c.nodes + length p.xs) new (c.elements + j)
  new_valid j l =
      let at : 8 * (c.elements + j) ≡ 8 * c.elements + 8 * j = omega arith in
      appended_valid c.nodes p j new (c.elements + j) (all_at (element_appended c.nodes p) (length p.kinds) s.elements j l)
      (put_new_at m.kinds c.elements p.kinds (omega arith) j 0 l)
      (ap (λ (k : ℕ). part k 8 new.places) at ∙ put_new m.places (8 * c.elements) p.places (omega (arith, places_room)) (8 * j) 8 (omega (arith, s.eight)))

  each_valid : (e : ℕ) → e < c.elements + length p.kinds → Valid (c.nodes + length p.xs) new e
  each_valid e l =
      elim (dec_lt e c.elements) [
        | yes k ↦ kept_valid e k
        | no k ↦ let is : c.elements + (e - c.elements) ≡ e = omega arith in subst (Valid (c.nodes + length p.xs) new) is (new_valid (e - c.elements) (omega arith))
      ]

  with_part : WellFormed (grown c p) new
  with_part = record { lists = new_parallel; counts = new_within; elements = each_valid }

pub added_well_formed : (c : Counts) (region : ℕ) (m : Mesh) (p : Part) → well_formed c m ≡ true → PartSound c.nodes p → fit_part c m p ≡ given p
    → well_formed (grown c p) (added c region p m) ≡ true
added_well_formed c region m p w s f =
    let room = part_room c m p p f in
    formed_well (grown c p) (added c region p m) (with_part c region m p (well_formed_lem c m w) s room.1 room.2)

-- ---- what a region call gives

-- its part is sound, and there was room for it
record Accepted (c : Counts) (m : Mesh) (p : Part) : Type 0 where
  sound : PartSound c.nodes p
  fitting : fit_part c m p ≡ given p

module _ (b : Bbox) (z0 z1 : Float) (material : ℕ) (config : MeshConfig) (c : Counts) (m : Mesh) (p : Part) where
  abbrev judged : Answer BoxCells
  judged = box_judged b z0 z1 material config c (length m.xs) (length m.ys) (length m.zs) (length m.kinds) (length m.places) (length m.regions)

  box_fitting : (n : BoxCells) → judged ≡ given n → fit_part c m (box_of_cells c.nodes b z0 z1 n) ≡ given (box_of_cells c.nodes b z0 z1 n)
  unfolding fit_part box_part
  box_fitting n e =
      let s = judged_sized b z0 z1 material config c _ _ _ _ _ _ n e in
      rw (grid_length, elems_length, s.nodes_fit, s.hexes_fit)

  box_decided : (a : Answer BoxCells) → judged ≡ a → map_answer (box_of_cells c.nodes b z0 z1) a ≡ given p → Accepted c m p
  box_decided (refused n) e f = refused_given f
  box_decided (given n) e f = subst (Accepted c m) (given_same f) (record { sound = box_sound c.nodes _ _ _; fitting = box_fitting n e })

  box_accepted : mesh_box b z0 z1 material config c m ≡ given p → Accepted c m p
  box_accepted e = box_decided judged refl (sym (box_judged_lem b z0 z1 material config c m) ∙ e)

module _ (base : ℕ) (z0 z1 : Float) (p : Part) where
  scanned_sound : (a : Answer (List Trapezoid)) → map_answer (quads_part base z0 z1) a ≡ given p → PartSound base p
  scanned_sound (refused n) e = refused_given e
  scanned_sound (given qs) e = subst (PartSound base) (given_same e) (quads_sound base z0 z1 qs)

  -- clipping gives triangles on the ring's vertices
  clipped_sound : (xs ys : List Float) → length ys ≡ length xs → (a : Answer (List Triangle)) (b : Answer (List Trapezoid)) → triangles_of xs ys ≡ a
      → triangles_or base z0 z1 xs ys a (map_answer (quads_part base z0 z1) b) ≡ given p → PartSound base p
  clipped_sound xs ys same (refused n) b e f = scanned_sound b f
  clipped_sound xs ys same (given ts) b e f =
      subst (PartSound base) (given_same f)
      (triangles_sound base z0 z1 xs ys ts (below_occurring (length xs) (corners ts) (triangles_triangulation xs ys ts e).below) same)

  ring_sound : (xs ys : List Float) → ring_part base z0 z1 xs ys ≡ given p → PartSound base p
  unfolding ring_part
  ring_sound xs ys e = at (is_rectilinear xs ys) e
    where
      xs' : List Float
      xs' = gathered xs (kept xs ys)

      ys' : List Float
      ys' = gathered ys (kept xs ys)

      at : (b : Bool)
          → cond b (map_answer (quads_part base z0 z1) (scanline_of xs ys)) (triangles_or base z0 z1 xs' ys' (triangles_of xs' ys') (map_answer (quads_part base z0 z1) (scanline_of xs ys))) ≡ given p
          → PartSound base p
      at true e = scanned_sound (scanline_of xs ys) e
      at false e = clipped_sound xs' ys' (gather_length nan ys (kept xs ys) ∙ sym (gather_length nan xs (kept xs ys))) (triangles_of xs' ys') (scanline_of xs ys) refl e

  prism_part_sound : (xs ys : List Float) → prism_part base z0 z1 xs ys ≡ given p → PartSound base p
  unfolding prism_part
  prism_part_sound xs ys e = ring_sound (gathered xs (kept xs ys)) (gathered ys (kept xs ys)) e

prism_accepted : (z0 z1 : Float) (start count material : ℕ) (c : Counts) (px py : List Float) (m : Mesh) (p : Part) → mesh_prism z0 z1 start count material c px py m ≡ given p → Accepted c m p
unfolding mesh_prism
prism_accepted z0 z1 start count material c px py m p e =
    let even = passed (parallel m) 16 _ e in
    let points = passed (eqb (length px) (length py)) 16 _ even.1 in
    let counted = passed (within c m) 15 _ points.1 in
    let named = passed (leb material 768) 15 _ counted.1 in
    let fine = passed_then (prism_fault px py z0 z1 start count) _ named.1 in
    let high = passed (lt z0 z1) 8 _ fine.2 in
    let made = passed_then (prism_part c.nodes z0 z1 (part start count px) (part start count py)) (fit_part c m) high.1 in
    let is : made.0 ≡ p = (part_room c m made.0 p made.2).0 in
    record {
      sound = prism_part_sound c.nodes z0 z1 p (part start count px) (part start count py) (made.1 ∙ ap given is);
      fitting = ap (fit_part c m) (sym is) ∙ made.2;
    }

region_accepted : (s : Solid) (material : ℕ) (config : MeshConfig) (c : Counts) (px py : List Float) (m : Mesh) (p : Part) → mesh_region s material config c px py m ≡ given p → Accepted c m p
unfolding mesh_region
region_accepted (Box x0 y0 x1 y1 z0 z1) material config c px py m p e =
    box_accepted (the_bbox x0 y0 x1 y1) z0 z1 material config c m p (passed (eqb (length px) (length py)) 16 _ e).1
region_accepted (Prism z0 z1 start count) material config c px py m p e = prism_accepted z0 z1 start count material c px py m p e

module _ (s : Solid) (material : ℕ) (config : MeshConfig) (c : Counts) (px py : List Float) (m : Mesh) (p : Part) (e : mesh_region s material config c px py m ≡ given p) where
  pub region_sound : PartSound c.nodes p
  region_sound = (region_accepted s material config c px py m p e).sound

  pub region_fits : fit_part c m p ≡ given p
  region_fits = (region_accepted s material config c px py m p e).fitting

  -- a well-formed mesh is left well formed
  pub region_well_formed : (region : ℕ) → well_formed c m ≡ true → well_formed (grown c p) (added c region p m) ≡ true
  region_well_formed region w = added_well_formed c region m p w region_sound region_fits

-- what a region call leaves, refused or not, with the counts that it gives or those that it had
pub call_well_formed : (s : Solid) (material : ℕ) (config : MeshConfig) (c : Counts) (px py : List Float) (region : ℕ) (m m' : Mesh) (r : Result Counts Refusal)
    → Adds (mesh_region s material config c px py m) c region m m' r → well_formed c m ≡ true → well_formed (left (answer r) c) m' ≡ true
call_well_formed s material config c px py region m m' r x w = at (mesh_region s material config c px py m) refl x
  where
    at : (a : Answer Part) → mesh_region s material config c px py m ≡ a → Adds a c region m m' r → well_formed (left (answer r) c) m' ≡ true
    at (refused n) e x = rw (x.answer, x.lists) w
    at (given p) e x = rw (x.answer, x.lists) (region_well_formed s material config c px py m p e region w)

-- an empty mesh is well formed
pub empty_well_formed : (m : Mesh) → parallel m ≡ true → well_formed (the_counts 0 0) m ≡ true
unfolding within_lengths
empty_well_formed m h =
    formed_well (the_counts 0 0) m
    (record {
      lists = h;
      counts = rw (le-leb 0 (length m.xs) (omega arith), le-leb 0 (length m.kinds) (omega arith));
      elements = λ e l. absurd (omega arith);
    })
