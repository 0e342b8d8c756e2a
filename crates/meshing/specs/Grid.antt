-- The mesh of a box, as lists: nx by ny by nz cells, and so nx + 1 by ny + 1 by nz + 1 nodes. x runs fastest, then y, then z.
use Rattle.std.specs.Prelude.{ℕ, ◌+◌, ◌*◌, ◌≡◌, ◌≤◌, List, [], ◌∷◌, length, Float}
use Rattle.lists.specs.Lists.{put, runs, elems}
use Rattle.openrdson_core.specs.Mesh.{Mesh, the_mesh}

-- ---- nodes

-- a number for each node of a plane, from its places on the two axes
unfoldable pub plane : ℕ → ℕ → (ℕ → ℕ → Float) → List Float
plane nx ny f = runs (ny + 1) (λ j. elems (nx + 1) (λ i. f i j))

-- a number for each node of the grid, from its places on the three axes
unfoldable pub grid : ℕ → ℕ → ℕ → (ℕ → ℕ → ℕ → Float) → List Float
grid nx ny nz f = runs (nz + 1) (λ k. plane nx ny (λ i j. f i j k))

-- how many nodes there are
abbrev pub grid_nodes : ℕ → ℕ → ℕ → ℕ
grid_nodes nx ny nz = (nx + 1) * (ny + 1) * (nz + 1)

-- how many cells there are
abbrev pub grid_cells : ℕ → ℕ → ℕ → ℕ
grid_cells nx ny nz = nx * ny * nz

-- a mesh's lists of nodes are equally long, and have n places
abbrev pub NodesFit : Mesh → ℕ → Type 0
NodesFit m n = (n ≤ length m.xs) × (length m.ys ≡ length m.xs) × (length m.zs ≡ length m.xs)

-- the mesh with the nodes xs, ys, zs from place at on
abbrev pub with_nodes : Mesh → ℕ → List Float → List Float → List Float → Mesh
with_nodes m at xs ys zs = the_mesh (put m.xs at xs) (put m.ys at ys) (put m.zs at zs) m.kinds m.places m.regions

-- ---- hexes

-- the number of the node at i, j, k, where the mesh has `base` nodes already
abbrev pub node_at : ℕ → ℕ → ℕ → ℕ → ℕ → ℕ → ℕ
node_at base nx ny i j k = base + (i + (nx + 1) * j + (nx + 1) * (ny + 1) * k)

-- the eight node places of the hex at i, j, k: the lower face, then the upper
unfoldable pub hex_at : ℕ → ℕ → ℕ → ℕ → ℕ → ℕ → List ℕ
hex_at base nx ny i j k =
    node_at base nx ny i j k
    ∷ node_at base nx ny (i + 1) j k
    ∷ node_at base nx ny (i + 1) (j + 1) k
    ∷ node_at base nx ny i (j + 1) k
    ∷ node_at base nx ny i j (k + 1)
    ∷ node_at base nx ny (i + 1) j (k + 1)
    ∷ node_at base nx ny (i + 1) (j + 1) (k + 1)
    ∷ node_at base nx ny i (j + 1) (k + 1)
    ∷ []

-- the node places of all hexes
unfoldable pub hex_places : ℕ → ℕ → ℕ → ℕ → List ℕ
hex_places base nx ny nz = runs nz (λ k. runs ny (λ j. runs nx (λ i. hex_at base nx ny i j k)))
