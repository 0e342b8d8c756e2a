-- A mesh whose lists hold it and nothing past it, as welding and measuring take it.
use Rattle.std.specs.Prelude.{ℕ, ◌*◌, Bool, ◌&&◌, List, leb, length, take, get_or, Float}
use Rattle.lists.specs.Answer.{Answer, given, unless}
use Rattle.lists.specs.Lists.{all_below, part}
use Rattle.binary64.specs.Numbers.{at, at_most}
use Rattle.openrdson_core.specs.Mesh.{Mesh, the_mesh, parallel, sound_element, inside_element}
use Rattle.openrdson_core.specs.declared.mesh.Counts.{Counts}

-- every coordinate is finite and at most 2^20 in size
unfoldable pub nodes_in : List Float → List Float → List Float → Bool
nodes_in xs ys zs = all_below (length xs) (λ i. at_most 20 (at xs i) && at_most 20 (at ys i) && at_most 20 (at zs i))

-- 15 for any element, then 13 for any
unfoldable pub elements_fault : ℕ → List ℕ → List ℕ → Answer (Unit {0})
elements_fault nodes kinds places =
    unless (all_below (length kinds) (λ e. sound_element (get_or kinds e 0) (part (8 * e) 8 places))) 15
    (unless (all_below (length kinds) (λ e. inside_element nodes (get_or kinds e 0) (part (8 * e) 8 places))) 13
    (given tt))

-- 16, 2, 1, 15, 13; `ok` says whether the number beside the mesh is in range
unfoldable pub mesh_fault : Bool → Mesh → Answer (Unit {0})
mesh_fault ok m =
    unless (parallel m) 16
    (unless (leb (length m.xs) 1048576 && leb (length m.kinds) 1048576) 2
    (unless (nodes_in m.xs m.ys m.zs && ok) 1
    (elements_fault (length m.xs) m.kinds m.places)))

-- the first part of it: 16, 2
abbrev pub mesh_size : Mesh → Answer (Unit {0})
mesh_size m =
    unless (parallel m) 16
    (unless (leb (length m.xs) 1048576 && leb (length m.kinds) 1048576) 2
    (given tt))

-- the second part, of the mesh alone: 1, 15, 13
abbrev pub contents_fault : Mesh → Answer (Unit {0})
contents_fault m = unless (nodes_in m.xs m.ys m.zs) 1 (elements_fault (length m.xs) m.kinds m.places)

-- a mesh taken to its counts: what is counted and nothing past it
abbrev pub up_to : Counts → Mesh → Mesh
up_to c m =
    the_mesh (take c.nodes m.xs) (take c.nodes m.ys) (take c.nodes m.zs)
    (take c.elements m.kinds) (take (8 * c.elements) m.places) (take c.elements m.regions)
