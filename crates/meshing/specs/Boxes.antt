-- Meshing a box region: structured hexes.
use Rattle.std.specs.Prelude.{ℕ, ◌+◌, ◌*◌, ◌≤◌, ◌≡◌, Bool, ◌&&◌, leb, length, Float}
use Rattle.std.specs.Float.Ieee.{lt}
use Rattle.lists.specs.Answer.{Answer, given, unless}
use Rattle.lists.specs.Lists.{elems}
use Rattle.binary64.specs.Numbers.{◌⊖◌, at_most}
use Rattle.binary64.specs.Constants.{zero64}
use Rattle.openrdson_core.specs.Points.{the_point, point_in}
use Rattle.openrdson_core.specs.Solids.{heights_in}
use Rattle.openrdson_core.specs.Mesh.{Mesh, parallel_lengths, parallel, within_lengths, within, fits, kind_number}
use Rattle.openrdson_core.specs.declared.mesh.Counts.{Counts}
use Rattle.openrdson_core.specs.declared.mesh.ElementType.TheVariants.{Hex}
use Rattle.openrdson_core.specs.declared.bounds.Bbox.{Bbox}
use Rattle.meshing.specs.declared.cells.MeshConfig.{MeshConfig}
use Rattle.meshing.specs.declared.cells.Cells.{Cells}
use Rattle.meshing.specs.Cells.{cells_for, axis_at}
use Rattle.meshing.specs.Grid.{grid, grid_nodes, grid_cells, hex_places}
use Rattle.meshing.specs.Added.{Part}

-- an axis of a box: its two ends, and its cells
pub record Axis : Type 0 where
  pub low : Float
  pub high : Float
  pub cells : ℕ

-- the axis from low to high in cells of a size
abbrev pub axis_of : Float → Float → Float → Axis
axis_of low high cell = record { low = low; high = high; cells = cells_for (high ⊖ low) cell }

abbrev pub coordinate : Axis → ℕ → Float
coordinate a i = axis_at a.low a.high a.cells i

-- the nodes and hexes of a box, where the mesh has `base` nodes already
unfoldable pub box_part : ℕ → Axis → Axis → Axis → Part
box_part base x y z =
    record {
      xs = grid x.cells y.cells z.cells (λ i j k. coordinate x i);
      ys = grid x.cells y.cells z.cells (λ i j k. coordinate y j);
      zs = grid x.cells y.cells z.cells (λ i j k. coordinate z k);
      kinds = elems (grid_cells x.cells y.cells z.cells) (λ _. kind_number Hex);
      places = hex_places base x.cells y.cells z.cells;
    }

-- the two tests of an axis
abbrev pub is_wide : Axis → Bool
is_wide a = lt zero64 (a.high ⊖ a.low)

abbrev pub is_few : Axis → Bool
is_few a = leb a.cells 4096

-- ---- 16; 15 for counts or material; 1 for bounds; 5; 1 for cell sizes; 6; 7; 12

-- what a box of these axes adds: 12
unfoldable pub box_fits : Counts → Mesh → Axis → Axis → Axis → Answer Part
box_fits c m x y z =
    unless (fits (grid_nodes x.cells y.cells z.cells) c.nodes (length m.xs)) 12
    (unless (fits (grid_cells x.cells y.cells z.cells) c.elements (length m.kinds)) 12
    (given (box_part c.nodes x y z)))

-- what it adds: 5; 1 for cell sizes; 6; 7; 12
unfoldable pub box_of : MeshConfig → Counts → Mesh → Axis → Axis → Axis → Answer Part
box_of config c m x y z =
    unless (is_wide x && is_wide y && is_wide z) 5
    (unless (at_most 20 config.lateral_cell && at_most 20 config.z_cell) 1
    (unless (lt zero64 config.lateral_cell && lt zero64 config.z_cell) 6
    (unless (is_few x && is_few y && is_few z) 7
    (box_fits c m x y z))))

-- what it adds, from its bounds: all of the refusals
unfoldable pub mesh_box : Bbox → Float → Float → ℕ → MeshConfig → Counts → Mesh → Answer Part
mesh_box b z0 z1 material config c m =
    unless (parallel m) 16
    (unless (within c m) 15
    (unless (leb material 768) 15
    (unless (point_in (the_point b.min_x b.min_y) && point_in (the_point b.max_x b.max_y) && heights_in z0 z1) 1
    (box_of config c m (axis_of b.min_x b.max_x config.lateral_cell) (axis_of b.min_y b.max_y config.lateral_cell) (axis_of z0 z1 config.z_cell)))))

-- ---- the same from numbers and the lists' lengths: how many cells a box has, or its refusal (proofs/BoxLaws shows that `mesh_box` says the same)

-- how many cells a box has along x, y and z
pub record BoxCells : Type 0 where
  pub nx : ℕ
  pub ny : ℕ
  pub nz : ℕ

abbrev pub the_cells : ℕ → ℕ → ℕ → BoxCells
the_cells nx ny nz = record { nx = nx; ny = ny; nz = nz }

-- the cells that the code counts
abbrev pub box_cells : Cells → BoxCells
box_cells n = the_cells n.nx n.ny n.nz

-- the nodes and hexes of a box of so many cells
abbrev pub box_of_cells : ℕ → Bbox → Float → Float → BoxCells → Part
box_of_cells base b z0 z1 n =
    box_part base
    (record { low = b.min_x; high = b.max_x; cells = n.nx })
    (record { low = b.min_y; high = b.max_y; cells = n.ny })
    (record { low = z0; high = z1; cells = n.nz })

unfoldable pub room_judged : BoxCells → Counts → ℕ → ℕ → Answer BoxCells
room_judged n c nodes kinds =
    unless (fits (grid_nodes n.nx n.ny n.nz) c.nodes nodes) 12
    (unless (fits (grid_cells n.nx n.ny n.nz) c.elements kinds) 12
    (given n))

unfoldable pub cells_judged : Float → Float → Float → MeshConfig → Counts → ℕ → ℕ → Answer BoxCells
cells_judged dx dy dz config c nodes kinds =
    unless (lt zero64 dx && lt zero64 dy && lt zero64 dz) 5
    (unless (at_most 20 config.lateral_cell && at_most 20 config.z_cell) 1
    (unless (lt zero64 config.lateral_cell && lt zero64 config.z_cell) 6
    (let nx = cells_for dx config.lateral_cell in
    let ny = cells_for dy config.lateral_cell in
    let nz = cells_for dz config.z_cell in
    unless (leb nx 4096 && leb ny 4096 && leb nz 4096) 7
    (room_judged (the_cells nx ny nz) c nodes kinds))))

abbrev pub bounds_in : Bbox → Float → Float → Bool
bounds_in b z0 z1 = point_in (the_point b.min_x b.min_y) && point_in (the_point b.max_x b.max_y) && heights_in z0 z1

unfoldable pub box_judged : Bbox → Float → Float → ℕ → MeshConfig → Counts → ℕ → ℕ → ℕ → ℕ → ℕ → ℕ → Answer BoxCells
box_judged b z0 z1 material config c xs ys zs kinds places regions =
    unless (parallel_lengths xs ys zs kinds places regions) 16
    (unless (within_lengths c xs kinds) 15
    (unless (leb material 768) 15
    (unless (bounds_in b z0 z1) 1
    (cells_judged (b.max_x ⊖ b.min_x) (b.max_y ⊖ b.min_y) (z1 ⊖ z0) config c xs kinds))))

-- the same of a mesh
abbrev pub judged : Bbox → Float → Float → ℕ → MeshConfig → Counts → Mesh → Answer BoxCells
judged b z0 z1 material config c m = box_judged b z0 z1 material config c (length m.xs) (length m.ys) (length m.zs) (length m.kinds) (length m.places) (length m.regions)

-- what there is for a box that is meshed: the lists are parallel, the counts are within them, and there is room
pub record BoxFits (c : Counts) (xs ys zs kinds places regions : ℕ) (n : BoxCells) : Type 0 where
  pub same_ys : xs ≡ ys
  pub same_zs : xs ≡ zs
  pub same_regions : kinds ≡ regions
  pub eight_places : places ≡ 8 * kinds
  pub nodes_in : c.nodes ≤ xs
  pub elements_in : c.elements ≤ kinds
  pub some_x : 1 ≤ n.nx
  pub some_y : 1 ≤ n.ny
  pub some_z : 1 ≤ n.nz
  pub few_x : n.nx ≤ 4096
  pub few_y : n.ny ≤ 4096
  pub few_z : n.nz ≤ 4096
  pub nodes_most : c.nodes + grid_nodes n.nx n.ny n.nz ≤ 1048576
  pub nodes_room : c.nodes + grid_nodes n.nx n.ny n.nz ≤ xs
  pub elements_most : c.elements + grid_cells n.nx n.ny n.nz ≤ 1048576
  pub elements_room : c.elements + grid_cells n.nx n.ny n.nz ≤ kinds

-- the same of a mesh
abbrev pub Fits : Counts → Mesh → BoxCells → Type 0
Fits c m n = BoxFits c (length m.xs) (length m.ys) (length m.zs) (length m.kinds) (length m.places) (length m.regions) n
