-- A box judged from numbers and the lists' lengths is judged as `mesh_box` says, and what there is for a box that is meshed. Assumes nothing.
use mathlib.Core.Path.{◌≡◌, refl, ap, subst, ◌∙◌}
use mathlib.Core.Bool.{Bool, true, false, ◌&&◌}
use Prim.Native.Nat.{ℕ, ◌*◌, ◌≤◌}
use native.Mathlib.Nat.{mul-le-mul}
use mir.Val.{Fits}
use mir.Syntax.{w64}
use mir.Facts.{Fits-le, Fits-lit}
use lib.Dec.{leb}
use lib.ListN.{length}
use lib.Ieee.{Float, lt}
use borrow.Author.Tests.{leb-true}
use Rattle.lists.specs.Answer.{Answer, given, unless, map_answer}
use Rattle.lists.proofs.Answers.{passed, given_same}
use Rattle.lists.proofs.Scans.{both}
use Rattle.binary64.specs.Numbers.{◌⊖◌, at_most}
use Rattle.binary64.specs.Constants.{zero64}
use Rattle.openrdson_core.specs.Mesh.{Mesh, parallel_lengths, parallel, within_lengths, within, fits}
use Rattle.openrdson_core.specs.declared.mesh.Counts.{Counts}
use Rattle.openrdson_core.specs.declared.bounds.Bbox.{Bbox}
use Rattle.openrdson_core.proofs.MeshLaws.{equal_lengths, counts_in}
use Rattle.meshing.specs.declared.cells.MeshConfig.{MeshConfig}
use Rattle.meshing.specs.Cells.{cells_for}
use Rattle.meshing.specs.Grid.{grid_nodes, grid_cells}
use Rattle.meshing.specs.Added.{Part}
use Rattle.meshing.specs.Boxes.{Axis, axis_of, is_wide, is_few, box_fits, box_of, mesh_box, BoxCells, the_cells, box_of_cells, room_judged, cells_judged, bounds_in, box_judged, BoxFits}
use Rattle.meshing.proofs.CellLaws.{some_cell}
use Rattle.meshing.proofs.Rooms.{room_in}

-- ---- products of cells and of nodes

pub cube_fits : {a b c : ℕ} → a ≤ 4097 → b ≤ 4097 → c ≤ 4097 → Fits w64 (a * b * c)
cube_fits h k l = Fits-le (mul-le-mul (mul-le-mul h k) l) (Fits-lit tt)

-- ---- the test of three counts

pub all_few : (a b c : ℕ) → (leb a 4096 && leb b 4096 && leb c 4096) ≡ true → (a ≤ 4096) × (b ≤ 4096) × (c ≤ 4096)
all_few a b c e =
    let last = both (leb a 4096 && leb b 4096) (leb c 4096) e in
    let two = both (leb a 4096) (leb b 4096) last.0 in
    (leb-true a 4096 two.0, leb-true b 4096 two.1, leb-true c 4096 last.1)

-- ---- the judgement is `mesh_box`'s: refused alike, and given alike with those cells

-- a map goes past rows
module _ {A B : Type 0} (f : A → B) where
  row : (p : Bool) (i : ℕ) (rest : Answer A) → unless p i (map_answer f rest) ≡ map_answer f (unless p i rest)
  row true i rest = refl
  row false i rest = refl

  two_rows_lem : (p : Bool) (i : ℕ) (q : Bool) (j : ℕ) (rest : Answer A) → unless p i (unless q j (map_answer f rest)) ≡ map_answer f (unless p i (unless q j rest))
  two_rows_lem true i q j rest = row q j rest
  two_rows_lem false i q j rest = refl

  four_rows : (p : Bool) (i : ℕ) (q : Bool) (j : ℕ) (r : Bool) (k : ℕ) (s : Bool) (l : ℕ) (rest : Answer A)
      → unless p i (unless q j (unless r k (unless s l (map_answer f rest)))) ≡ map_answer f (unless p i (unless q j (unless r k (unless s l rest))))
  four_rows true i true j r k s l rest = two_rows_lem r k s l rest
  four_rows true i false j r k s l rest = refl
  four_rows false i q j r k s l rest = refl

module _ (b : Bbox) (z0 z1 : Float) (material : ℕ) (config : MeshConfig) (c : Counts) (m : Mesh) where
  abbrev across : Float
  across = config.lateral_cell

  abbrev x : Axis
  x = axis_of b.min_x b.max_x across

  abbrev y : Axis
  y = axis_of b.min_y b.max_y across

  abbrev z : Axis
  z = axis_of z0 z1 config.z_cell

  abbrev n : BoxCells
  n = the_cells x.cells y.cells z.cells

  abbrev part : BoxCells → Part
  part = box_of_cells c.nodes b z0 z1

  room_judged_lem : box_fits c m x y z ≡ map_answer part (room_judged n c (length m.xs) (length m.kinds))
  unfolding box_fits room_judged
  room_judged_lem =
      two_rows_lem
      part
      (fits (grid_nodes n.nx n.ny n.nz) c.nodes (length m.xs))
      12
      (fits (grid_cells n.nx n.ny n.nz) c.elements (length m.kinds))
      12
      (given n)

  cells_judged_lem : box_of config c m x y z ≡ map_answer part (cells_judged (b.max_x ⊖ b.min_x) (b.max_y ⊖ b.min_y) (z1 ⊖ z0) config c (length m.xs) (length m.kinds))
  unfolding box_of cells_judged
  cells_judged_lem =
      rw room_judged_lem
      (four_rows
      part
      (is_wide x && is_wide y && is_wide z)
      5
      (at_most 20 across && at_most 20 config.z_cell)
      1
      (lt zero64 across && lt zero64 config.z_cell)
      6
      (is_few x && is_few y && is_few z)
      7
      (room_judged n c (length m.xs) (length m.kinds)))

  abbrev judged : Answer BoxCells
  judged = box_judged b z0 z1 material config c (length m.xs) (length m.ys) (length m.zs) (length m.kinds) (length m.places) (length m.regions)

  pub box_judged_lem : mesh_box b z0 z1 material config c m ≡ map_answer (box_of_cells c.nodes b z0 z1) judged
  unfolding mesh_box box_judged
  box_judged_lem =
      rw cells_judged_lem
      (four_rows
      part
      (parallel m)
      16
      (within c m)
      15
      (leb material 768)
      15
      (bounds_in b z0 z1)
      1
      (cells_judged (b.max_x ⊖ b.min_x) (b.max_y ⊖ b.min_y) (z1 ⊖ z0) config c (length m.xs) (length m.kinds)))

  pub box_is : {a : Answer BoxCells} → judged ≡ a → mesh_box b z0 z1 material config c m ≡ map_answer (box_of_cells c.nodes b z0 z1) a
  box_is e = box_judged_lem ∙ ap (map_answer part) e

-- ---- what there is for a box that is given its cells

-- its cells, and that its nodes and hexes fit
pub record BoxSized (c : Counts) (nodes kinds : ℕ) (n : BoxCells) : Type 0 where
  pub some : (1 ≤ n.nx) × (1 ≤ n.ny) × (1 ≤ n.nz)
  pub few : (n.nx ≤ 4096) × (n.ny ≤ 4096) × (n.nz ≤ 4096)
  pub nodes_fit : fits (grid_nodes n.nx n.ny n.nz) c.nodes nodes ≡ true
  pub hexes_fit : fits (grid_cells n.nx n.ny n.nz) c.elements kinds ≡ true

module _ (c : Counts) (nodes kinds : ℕ) where
  room_passed : (k n : BoxCells) → room_judged k c nodes kinds ≡ given n → (1 ≤ k.nx) × (1 ≤ k.ny) × (1 ≤ k.nz) → (k.nx ≤ 4096) × (k.ny ≤ 4096) × (k.nz ≤ 4096) → BoxSized c nodes kinds n
  unfolding room_judged
  room_passed k n e some few =
      let first = passed (fits (grid_nodes k.nx k.ny k.nz) c.nodes nodes) 12 _ e in
      let second = passed (fits (grid_cells k.nx k.ny k.nz) c.elements kinds) 12 _ first.1 in
      subst (BoxSized c nodes kinds) (given_same second.1) (record { some = some; few = few; nodes_fit = first.0; hexes_fit = second.0 })

  cells_passed : (dx dy dz : Float) (config : MeshConfig) (n : BoxCells) → cells_judged dx dy dz config c nodes kinds ≡ given n → BoxSized c nodes kinds n
  unfolding cells_judged
  cells_passed dx dy dz config n e =
      let across = config.lateral_cell in
      let up = config.z_cell in
      let wide = passed (lt zero64 dx && lt zero64 dy && lt zero64 dz) 5 _ e in
      let sized = passed (at_most 20 across && at_most 20 up) 1 _ wide.1 in
      let above = passed (lt zero64 across && lt zero64 up) 6 _ sized.1 in
      let few = passed (leb (cells_for dx across) 4096 && leb (cells_for dy across) 4096 && leb (cells_for dz up) 4096) 7 _ above.1 in
      room_passed
      (the_cells (cells_for dx across) (cells_for dy across) (cells_for dz up))
      n
      few.1
      (some_cell dx across, some_cell dy across, some_cell dz up)
      (all_few (cells_for dx across) (cells_for dy across) (cells_for dz up) few.0)

module _ (b : Bbox) (z0 z1 : Float) (material : ℕ) (config : MeshConfig) (c : Counts) (xs ys zs kinds places regions : ℕ) (n : BoxCells)
    (e : box_judged b z0 z1 material config c xs ys zs kinds places regions ≡ given n) where
  judged_passed : (parallel_lengths xs ys zs kinds places regions ≡ true) × (within_lengths c xs kinds ≡ true) × BoxSized c xs kinds n
  unfolding box_judged
  judged_passed =
      let even = passed (parallel_lengths xs ys zs kinds places regions) 16 _ e in
      let counted = passed (within_lengths c xs kinds) 15 _ even.1 in
      let known = passed (leb material 768) 15 _ counted.1 in
      let bounded = passed (bounds_in b z0 z1) 1 _ known.1 in
      (even.0, counted.0, cells_passed c xs kinds (b.max_x ⊖ b.min_x) (b.max_y ⊖ b.min_y) (z1 ⊖ z0) config n bounded.1)

  pub judged_sized : BoxSized c xs kinds n
  judged_sized = judged_passed.2

  pub judged_fits : BoxFits c xs ys zs kinds places regions n
  judged_fits =
      let lists = equal_lengths xs ys zs kinds places regions judged_passed.0 in
      let within = counts_in c xs kinds judged_passed.1 in
      let s = judged_passed.2 in
      let room = room_in _ _ _ _ _ _ _ _ _ judged_passed.0 s.nodes_fit s.hexes_fit in
      record {
        same_ys = lists.same_ys;
        same_zs = lists.same_zs;
        same_regions = lists.same_regions;
        eight_places = lists.eight_places;
        nodes_in = within.0;
        elements_in = within.1;
        some_x = s.some.0;
        some_y = s.some.1;
        some_z = s.some.2;
        few_x = s.few.0;
        few_y = s.few.1;
        few_z = s.few.2;
        nodes_most = room.nodes_most;
        nodes_room = room.in_xs;
        elements_most = room.elements_most;
        elements_room = room.in_kinds;
      }
