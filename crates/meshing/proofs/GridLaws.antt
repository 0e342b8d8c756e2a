-- A box's nodes and hexes: how long the lists are, that the hexes name nodes of the box, and what the loops that write them work out.
--     grid_length, hexes_length                  how long the lists are
--     hexes_below, hexes_from                    the hexes name nodes of the box
--     axis_inner, axis_last                      a coordinate, from the step of its axis
--     hex_is, hex_row, hex_plane                 a hex from its first node, a row from its first hex, a plane from its first row
-- Assumes nothing.
use mathlib.Core.Path.{◌≡◌, refl, sym, ap, ◌∙◌}
use mathlib.Core.Bool.{Bool, true}
use mathlib.Core.List.{List, [], ◌∷◌}
use Prim.Native.Nat.{ℕ, zero, suc, ◌+◌, ◌*◌, ◌≤◌, ◌<◌}
use native.Mathlib.Nat.{mul_comm, mul_assoc, mul-add, mul-one, mul-zero, mul-le-mul}
use native.Mathlib.Omega.{arith}
use mir.Val.{Fits}
use mir.Syntax.{w64}
use mir.Facts.{Fits-le, Fits-lit}
use lib.Dec.{leb}
use lib.ListN.{length}
use lib.Ieee.{Float}
use borrow.Author.Tests.{eq-eqb, ne_eqb, le-leb}
use Rattle.lists.specs.Lists.{runs, elems, all_of, Below}
use Rattle.lists.proofs.Fills.{runs_length, elems_length, run_room}
use Rattle.lists.proofs.Passing.{all_of_runs}
use Rattle.lists.proofs.Places.{below_append}
use Rattle.binary64.specs.Numbers.{◌⊕◌, ◌⊖◌, ◌⊗◌, ◌⊘◌}
use Rattle.meshing.specs.Cells.{real, axis_at}
use Rattle.meshing.specs.Grid.{plane, grid, grid_nodes, grid_cells, node_at, hex_at, hex_places}

-- ---- coordinates

pub axis_inner : (low high step : Float) (n i : ℕ) → step ≡ (high ⊖ low) ⊘ real n → i < n → low ⊕ step ⊗ real i ≡ axis_at low high n i
unfolding axis_at
axis_inner low high step n i e h =
    let other : i ≡ n → ⊥ = λ same. omega arith in
    rw (ne_eqb i n other, e)

pub axis_last : (low high : Float) (n i : ℕ) → i ≡ n → high ≡ axis_at low high n i
unfolding axis_at
axis_last low high n i e = rw (eq-eqb i n e)

-- ---- lengths

pub plane_length : (nx ny : ℕ) (f : ℕ → ℕ → Float) → length (plane nx ny f) ≡ (nx + 1) * (ny + 1)
unfolding plane
plane_length nx ny f =
    runs_length (λ j. elems (nx + 1) (λ i. f i j)) (nx + 1) (λ j. elems_length (λ i. f i j) (nx + 1)) (ny + 1)
    ∙ mul_comm (ny + 1) (nx + 1)

-- planes of nodes, as the loop counts them
pub nodes_are : (nx ny nz : ℕ) → grid_nodes nx ny nz ≡ (nz + 1) * ((nx + 1) * (ny + 1))
nodes_are nx ny nz = mul_comm ((nx + 1) * (ny + 1)) (nz + 1)

pub grid_length : (nx ny nz : ℕ) (f : ℕ → ℕ → ℕ → Float) → length (grid nx ny nz f) ≡ grid_nodes nx ny nz
unfolding grid
grid_length nx ny nz f =
    runs_length (λ k. plane nx ny (λ i j. f i j k)) ((nx + 1) * (ny + 1)) (λ k. plane_length nx ny (λ i j. f i j k)) (nz + 1)
    ∙ sym (nodes_are nx ny nz)

pub hex_length : (base nx ny i j k : ℕ) → length (hex_at base nx ny i j k) ≡ 8
unfolding hex_at
hex_length base nx ny i j k = refl

pub row_length : (base nx ny j k n : ℕ) → length (runs n (λ i. hex_at base nx ny i j k)) ≡ n * 8
row_length base nx ny j k n = runs_length (λ i. hex_at base nx ny i j k) 8 (λ i. hex_length base nx ny i j k) n

pub rows_length : (base nx ny k : ℕ) → length (runs ny (λ j. runs nx (λ i. hex_at base nx ny i j k))) ≡ ny * (nx * 8)
rows_length base nx ny k = runs_length (λ j. runs nx (λ i. hex_at base nx ny i j k)) (nx * 8) (λ j. row_length base nx ny j k nx) ny

-- planes of hexes, as the loop counts them
pub cells_are : (nx ny nz : ℕ) → 8 * grid_cells nx ny nz ≡ nz * (ny * (nx * 8))
cells_are nx ny nz =
    mul_comm 8 (nx * ny * nz)
    ∙ ap (λ (m : ℕ). m * 8) (mul_comm (nx * ny) nz)
    ∙ mul_assoc nz (nx * ny) 8
    ∙ ap (λ (m : ℕ). nz * (m * 8)) (mul_comm nx ny)
    ∙ ap (λ (m : ℕ). nz * m) (mul_assoc ny nx 8)

pub hexes_length : (base nx ny nz : ℕ) → length (hex_places base nx ny nz) ≡ 8 * grid_cells nx ny nz
unfolding hex_places
hexes_length base nx ny nz =
    runs_length (λ k. runs ny (λ j. runs nx (λ i. hex_at base nx ny i j k))) (ny * (nx * 8)) (λ k. rows_length base nx ny k) nz
    ∙ sym (cells_are nx ny nz)

-- ---- the hexes, as the loops number them

eight_same : {a b c d e f g h a' b' c' d' e' f' g' h' : ℕ} → a ≡ a' → b ≡ b' → c ≡ c' → d ≡ d' → e ≡ e' → f ≡ f' → g ≡ g' → h ≡ h'
    → a ∷ b ∷ c ∷ d ∷ e ∷ f ∷ g ∷ h ∷ [] ≡ a' ∷ b' ∷ c' ∷ d' ∷ e' ∷ f' ∷ g' ∷ h' ∷ []
eight_same p q r s t u v w = λ x. p x ∷ q x ∷ r x ∷ s x ∷ t x ∷ u x ∷ v x ∷ w x ∷ []

-- a hex of the first row, from its own first node; the next row's nodes are back further, the next plane's up
pub hex_is : (first nx ny i a back up : ℕ) → a ≡ first + i → back ≡ nx + 1 → up ≡ (nx + 1) * (ny + 1)
    → a ∷ (a + 1) ∷ (a + 1 + back) ∷ (a + back) ∷ (a + up) ∷ (a + 1 + up) ∷ (a + 1 + back + up) ∷ (a + back + up) ∷ []
    ≡ hex_at first nx ny i 0 0
unfolding hex_at
hex_is first nx ny i a back up e b u =
    let none = mul-zero ((nx + 1) * (ny + 1)) in
    let one = mul-one ((nx + 1) * (ny + 1)) in
    eight_same (omega arith) (omega arith) (omega arith) (omega arith) (omega arith) (omega arith) (omega arith) (omega arith)

-- a hex of row j, and of plane k, from the first node there
pub hex_row : (first nx ny i j a : ℕ) → a ≡ first + j * (nx + 1) → hex_at a nx ny i 0 0 ≡ hex_at first nx ny i j 0
unfolding hex_at
hex_row first nx ny i j a e =
    let here = mul_comm j (nx + 1) in
    let next = mul-add (nx + 1) j 1 in
    eight_same (omega arith) (omega arith) (omega arith) (omega arith) (omega arith) (omega arith) (omega arith) (omega arith)

pub hex_plane : (base nx ny i j k a : ℕ) → a ≡ base + k * ((nx + 1) * (ny + 1)) → hex_at a nx ny i j 0 ≡ hex_at base nx ny i j k
unfolding hex_at
hex_plane base nx ny i j k a e =
    let none = mul-zero ((nx + 1) * (ny + 1)) in
    let one = mul-one ((nx + 1) * (ny + 1)) in
    let here = mul_comm k ((nx + 1) * (ny + 1)) in
    let next = mul-add ((nx + 1) * (ny + 1)) k 1 in
    eight_same (omega arith) (omega arith) (omega arith) (omega arith) (omega arith) (omega arith) (omega arith) (omega arith)

-- ---- every place is the number of a node of the box

below_runs : (n m : ℕ) (f : ℕ → List ℕ) → ((i : ℕ) → i < m → Below n (f i)) → Below n (runs m f)
unfolding runs
below_runs n zero f each = tt
below_runs n (suc m) f each = below_append n (runs m f) (f m) (below_runs n m f (λ i h. each i (omega arith))) (each m (omega arith))

node_below : (base nx ny nz i j k : ℕ) → i ≤ nx → j ≤ ny → k ≤ nz → node_at base nx ny i j k < base + grid_nodes nx ny nz
node_below base nx ny nz i j k hi hj hk =
    let row = run_room (ny + 1) (nx + 1) j (omega arith) in
    let level = run_room (nz + 1) ((nx + 1) * (ny + 1)) k (omega arith) in
    omega (arith, row, level, mul_comm j (nx + 1), mul_comm (ny + 1) (nx + 1), mul_comm k ((nx + 1) * (ny + 1)), mul_comm (nz + 1) ((nx + 1) * (ny + 1)))

below_eight : (n : ℕ) {a b c d e f g h : ℕ} → a < n → b < n → c < n → d < n → e < n → f < n → g < n → h < n → Below n (a ∷ b ∷ c ∷ d ∷ e ∷ f ∷ g ∷ h ∷ [])
below_eight n a b c d e f g h = (a, (b, (c, (d, (e, (f, (g, (h, tt))))))))

hex_below : (base nx ny nz i j k : ℕ) → i < nx → j < ny → k < nz → Below (base + grid_nodes nx ny nz) (hex_at base nx ny i j k)
unfolding hex_at
hex_below base nx ny nz i j k hi hj hk =
    below_eight
    (base + grid_nodes nx ny nz)
    (node_below base nx ny nz i j k (omega arith) (omega arith) (omega arith))
    (node_below base nx ny nz (i + 1) j k (omega arith) (omega arith) (omega arith))
    (node_below base nx ny nz (i + 1) (j + 1) k (omega arith) (omega arith) (omega arith))
    (node_below base nx ny nz i (j + 1) k (omega arith) (omega arith) (omega arith))
    (node_below base nx ny nz i j (k + 1) (omega arith) (omega arith) (omega arith))
    (node_below base nx ny nz (i + 1) j (k + 1) (omega arith) (omega arith) (omega arith))
    (node_below base nx ny nz (i + 1) (j + 1) (k + 1) (omega arith) (omega arith) (omega arith))
    (node_below base nx ny nz i (j + 1) (k + 1) (omega arith) (omega arith) (omega arith))

pub hexes_below : (base nx ny nz : ℕ) → Below (base + grid_nodes nx ny nz) (hex_places base nx ny nz)
unfolding hex_places
hexes_below base nx ny nz =
    let n = base + grid_nodes nx ny nz in
    below_runs n nz (λ k. runs ny (λ j. runs nx (λ i. hex_at base nx ny i j k))) (λ k hk.
    below_runs n ny (λ j. runs nx (λ i. hex_at base nx ny i j k)) (λ j hj.
    below_runs n nx (λ i. hex_at base nx ny i j k) (λ i hi. hex_below base nx ny nz i j k hi hj hk)))

-- and of none before it
from_base : (base t : ℕ) → leb base (base + t) ≡ true
from_base base t = le-leb base (base + t) (omega arith)

hex_from : (base nx ny i j k : ℕ) → all_of (λ n. leb base n) (hex_at base nx ny i j k) ≡ true
unfolding hex_at
hex_from base nx ny i j k = simp from_base

pub hexes_from : (base nx ny nz : ℕ) → all_of (λ n. leb base n) (hex_places base nx ny nz) ≡ true
unfolding hex_places
hexes_from base nx ny nz =
    let from : ℕ → Bool = λ n. leb base n in
    all_of_runs from (λ k. runs ny (λ j. runs nx (λ i. hex_at base nx ny i j k))) nz (λ k hk.
    all_of_runs from (λ j. runs nx (λ i. hex_at base nx ny i j k)) ny (λ j hj.
    all_of_runs from (λ i. hex_at base nx ny i j k) nx (λ i hi. hex_from base nx ny i j k)))

-- ---- what the sizes fit

pub product_fits : {a b : ℕ} → a ≤ 4097 → b ≤ 32768 → Fits w64 (a * b)
product_fits h k = Fits-le (mul-le-mul h k) (Fits-lit tt)
