-- A mesh: six lists, three of node coordinates and three of elements. An element is a kind, eight node places and a region number.
use Rattle.std.specs.Prelude.{ℕ, ◌+◌, ◌*◌, Bool, true, false, ◌&&◌, ◌||◌, cond, List, eqb, leb, ltb, length, get_or, Float, ◌≡◌, Option, Some, None, Result, Ok, Err}
use Rattle.lists.specs.Lists.{all_below, part}
use Rattle.openrdson_core.specs.declared.mesh.ElementType.{ElementType}
use Rattle.openrdson_core.specs.declared.mesh.ElementType.TheVariants.{Tet, Hex, Prism, Pyramid}
use Rattle.openrdson_core.specs.declared.mesh.UnknownKind.{UnknownKind}
use Rattle.openrdson_core.specs.declared.mesh.Point3.{Point3}
use Rattle.openrdson_core.specs.declared.mesh.Counts.{Counts}
use Rattle.openrdson_core.specs.declared.mesh.Mesh.{Mesh as Read}
use Rattle.openrdson_core.specs.declared.mesh.MeshLists.{MeshLists}

-- ---- kinds of elements

-- the number that stands for a kind
abbrev pub kind_number : ElementType → ℕ
kind_number Tet = 0
kind_number Hex = 1
kind_number Prism = 2
kind_number Pyramid = 3

-- how many nodes an element of a kind has
abbrev pub node_count : ElementType → ℕ
node_count Tet = 4
node_count Hex = 8
node_count Prism = 6
node_count Pyramid = 5

-- the kind that a number stands for, if any
unfoldable pub kind_of : ℕ → Option ElementType
kind_of k = cond (eqb k 0) (Some Tet) (cond (eqb k 1) (Some Hex) (cond (eqb k 2) (Some Prism) (cond (eqb k 3) (Some Pyramid) None)))

-- the kind that a number stands for, or an error with the number where it stands for none
abbrev pub StandsFor : ℕ → Result ElementType UnknownKind → Type 0
StandsFor k (Ok t) = kind_of k ≡ Some t
StandsFor k (Err e) = (kind_of k ≡ None) × (e.0 ≡ k)

-- there is such a kind
abbrev pub known : Option ElementType → Bool
known (Some t) = true
known None = false

-- how many of its eight places an element uses; none where there is no such kind
abbrev pub used_places : Option ElementType → ℕ
used_places (Some t) = node_count t
used_places None = 0

-- ---- nodes

abbrev pub the_point3 : Float → Float → Float → Point3
the_point3 x y z = record { x = x; y = y; z = z }

-- what stands in a node place that is not used
abbrev pub unused : ℕ
unused = 4294967295

-- ---- a mesh and its counts

pub record Mesh : Type 0 where
  pub xs : List Float
  pub ys : List Float
  pub zs : List Float
  pub kinds : List ℕ
  pub places : List ℕ
  pub regions : List ℕ

abbrev pub the_mesh : List Float → List Float → List Float → List ℕ → List ℕ → List ℕ → Mesh
the_mesh xs ys zs kinds places regions = record { xs = xs; ys = ys; zs = zs; kinds = kinds; places = places; regions = regions }

-- the mesh in lists that are read
abbrev pub read : Read → Mesh
read m = the_mesh m.xs.now m.ys.now m.zs.now m.kinds.now m.places.now m.regions.now

-- the mesh in lists that are written
abbrev pub held : MeshLists → Mesh
held m = the_mesh m.xs.now m.ys.now m.zs.now m.kinds.now m.places.now m.regions.now

-- they are the same lists: what one of them holds in the end, the caller's list holds
pub record Same (m n : MeshLists) : Type 0 where
  pub xs : n.xs.ghost_name ≡ m.xs.ghost_name
  pub ys : n.ys.ghost_name ≡ m.ys.ghost_name
  pub zs : n.zs.ghost_name ≡ m.zs.ghost_name
  pub kinds : n.kinds.ghost_name ≡ m.kinds.ghost_name
  pub places : n.places.ghost_name ≡ m.places.ghost_name
  pub regions : n.regions.ghost_name ≡ m.regions.ghost_name

abbrev pub the_counts : ℕ → ℕ → Counts
the_counts nodes elements = record { nodes = nodes; elements = elements }

-- by the lists' lengths: three equal ones of coordinates, as many regions as kinds, eight places a kind (16)
unfoldable pub parallel_lengths : ℕ → ℕ → ℕ → ℕ → ℕ → ℕ → Bool
parallel_lengths xs ys zs kinds places regions = eqb xs ys && eqb xs zs && eqb kinds regions && eqb places (8 * kinds)

-- the same of a mesh
abbrev pub parallel : Mesh → Bool
parallel m = parallel_lengths (length m.xs) (length m.ys) (length m.zs) (length m.kinds) (length m.places) (length m.regions)

-- the counts are at most the lengths of the lists of nodes and of kinds (15)
unfoldable pub within_lengths : Counts → ℕ → ℕ → Bool
within_lengths c nodes kinds = leb c.nodes nodes && leb c.elements kinds

-- the same of a mesh's lists
abbrev pub within : Counts → Mesh → Bool
within c m = within_lengths c (length m.xs) (length m.kinds)

-- n more entries after the first `at` fit in a list of len entries, and are no more than a mesh's most (12)
unfoldable pub fits : ℕ → ℕ → ℕ → Bool
fits n at len = leb (at + n) 1048576 && leb (at + n) len

-- ---- an element

-- of its eight places, those from n on are all unused
unfoldable pub rest_unused : ℕ → List ℕ → Bool
rest_unused n places = all_below 8 (λ i. ltb i n || eqb (get_or places i 0) unused)

-- its first n places are below the number of nodes
unfoldable pub first_below : ℕ → ℕ → List ℕ → Bool
first_below n nodes places = all_below n (λ i. ltb (get_or places i 0) nodes)

-- for an element of kind number k with these eight places: its kind is one of the four, and what it does not use is unused (15)
abbrev pub sound_element : ℕ → List ℕ → Bool
sound_element k places = known (kind_of k) && rest_unused (used_places (kind_of k)) places

-- the places that it uses are below the number of nodes (13)
abbrev pub inside_element : ℕ → ℕ → List ℕ → Bool
inside_element nodes k places = first_below (used_places (kind_of k)) nodes places

-- both: it is valid
abbrev pub valid_element : ℕ → ℕ → List ℕ → Bool
valid_element nodes k places = sound_element k places && inside_element nodes k places

-- ---- element e of a mesh

-- the number of its kind
abbrev pub kind_at : Mesh → ℕ → ℕ
kind_at m e = get_or m.kinds e 0

-- its eight node places
abbrev pub places_of : Mesh → ℕ → List ℕ
places_of m e = part (8 * e) 8 m.places

-- how many of them it uses
abbrev pub used_of : Mesh → ℕ → ℕ
used_of m e = used_places (kind_of (kind_at m e))

-- its kind is one of the four (15)
abbrev pub kind_ok : Mesh → ℕ → Bool
kind_ok m e = known (kind_of (kind_at m e))

-- its places past its kind's node count are unused (15)
abbrev pub unused_ok : Mesh → ℕ → Bool
unused_ok m e = rest_unused (used_of m e) (places_of m e)

-- the places that it uses are below n (13)
abbrev pub used_below : ℕ → Mesh → ℕ → Bool
used_below n m e = first_below (used_of m e) n (places_of m e)

-- it is valid in a mesh of n nodes
abbrev pub element_ok : ℕ → Mesh → ℕ → Bool
element_ok n m e = kind_ok m e && unused_ok m e && used_below n m e

-- the lists are parallel, the counts are within them, and each element counted is valid
unfoldable pub well_formed : Counts → Mesh → Bool
well_formed c m = parallel m && within c m && all_below c.elements (element_ok c.nodes m)
