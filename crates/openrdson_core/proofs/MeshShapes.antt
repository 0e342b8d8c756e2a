-- Meshes of one element, worked out by the definitions: which are well formed. Assumes nothing.
use Prim.Native.Nat.{ℕ}
use mathlib.Core.Path.{◌≡◌, refl}
use mathlib.Core.Bool.{Bool, true, false}
use mathlib.Core.List.{List, [], ◌∷◌}
use lib.IntN.{pos}
use lib.Ieee.{Float, fin}
use Rattle.lists.specs.Lists.{all_below}
use Rattle.openrdson_core.specs.Mesh.{Mesh, the_mesh, the_counts, unused, kind_of, parallel_lengths, within_lengths, rest_unused, first_below, fits, well_formed}

abbrev origin : Float
origin = fin false 0 (pos 0)

abbrev one : Float
one = fin false 1 (pos 0)

-- four nodes, and one element of a kind with eight places, of region 7
abbrev one_of : ℕ → List ℕ → Mesh
one_of kind places =
    the_mesh (origin ∷ one ∷ origin ∷ origin ∷ []) (origin ∷ origin ∷ one ∷ origin ∷ []) (origin ∷ origin ∷ origin ∷ one ∷ []) (kind ∷ []) places (7 ∷ [])

-- the places of a tet on nodes 0, 1, 2 and a fourth, with a fifth place
abbrev tet : ℕ → ℕ → List ℕ
tet fourth fifth = 0 ∷ 1 ∷ 2 ∷ fourth ∷ fifth ∷ unused ∷ unused ∷ unused ∷ []

abbrev counted : Mesh → Bool
counted m = well_formed (the_counts 4 1) m

-- one tet on four nodes
pub one_tet : counted (one_of 0 (tet 3 unused)) ≡ true
unfolding well_formed parallel_lengths within_lengths all_below kind_of rest_unused first_below
one_tet = refl

-- an unused place is filled
pub filled_place : counted (one_of 0 (tet 3 3)) ≡ false
unfolding well_formed parallel_lengths within_lengths all_below kind_of rest_unused first_below
filled_place = refl

-- a node place equal to the node count
pub place_past_nodes : counted (one_of 0 (tet 4 unused)) ≡ false
unfolding well_formed parallel_lengths within_lengths all_below kind_of rest_unused first_below
place_past_nodes = refl

-- a used place is left unused
pub place_left_out : counted (one_of 0 (tet unused unused)) ≡ false
unfolding well_formed parallel_lengths within_lengths all_below kind_of rest_unused first_below
place_left_out = refl

-- a pyramid uses the fifth place too; there is no kind 4
pub one_pyramid : counted (one_of 3 (tet 3 0)) ≡ true
unfolding well_formed parallel_lengths within_lengths all_below kind_of rest_unused first_below
one_pyramid = refl

pub no_such_kind : counted (one_of 4 (tet 3 unused)) ≡ false
unfolding well_formed parallel_lengths within_lengths all_below kind_of rest_unused first_below
no_such_kind = refl

-- one y too few; a ninth place
pub unequal_lists : well_formed (the_counts 0 0) (the_mesh (origin ∷ []) [] (origin ∷ []) [] [] []) ≡ false
unfolding well_formed parallel_lengths within_lengths all_below
unequal_lists = refl

pub ninth_place : counted (one_of 0 (unused ∷ tet 3 unused)) ≡ false
unfolding well_formed parallel_lengths within_lengths all_below kind_of rest_unused first_below
ninth_place = refl

-- no element counted: the one that is there is not looked at; two counted are too many
pub none_counted : well_formed (the_counts 4 0) (one_of 4 (tet 3 3)) ≡ true
unfolding well_formed parallel_lengths within_lengths all_below
none_counted = refl

pub two_counted : well_formed (the_counts 4 2) (one_of 0 (tet 3 unused)) ≡ false
unfolding well_formed parallel_lengths within_lengths all_below kind_of rest_unused first_below
two_counted = refl

-- room: the exact fit, one entry too many, and a result above a mesh's most
pub exact_fit : fits 3 4 7 ≡ true
unfolding fits
exact_fit = refl

pub one_too_many : fits 4 4 7 ≡ false
unfolding fits
one_too_many = refl

pub above_most : fits 1 1048576 2000000 ≡ false
unfolding fits
above_most = refl
