-- What a region adds to a mesh, and the mesh with it: appended after the nodes and elements that are counted.
use Rattle.std.specs.Prelude.{ℕ, ◌+◌, ◌*◌, ◌≡◌, Bool, true, ◌&&◌, ◌||◌, List, eqb, leb, ltb, length, get_or, Float, Result}
use Rattle.lists.specs.Answer.{Answer, given, unless, and_then, map_answer, left}
use Rattle.lists.specs.Lists.{put, elems, part, all_below}
use Rattle.openrdson_core.specs.Answers.{answer as answered}
use Rattle.openrdson_core.specs.declared.refusals.Refusal.{Refusal}
use Rattle.openrdson_core.specs.Mesh.{Mesh, the_mesh, the_counts, parallel, within, fits, kind_number, kind_of, used_places, rest_unused}
use Rattle.openrdson_core.specs.declared.mesh.Counts.{Counts}
use Rattle.openrdson_core.specs.declared.mesh.ElementType.TheVariants.{Hex, Prism}

-- nodes and elements; the node places are numbers in the whole mesh
pub record Part : Type 0 where
  pub xs : List Float
  pub ys : List Float
  pub zs : List Float
  pub kinds : List ℕ
  pub places : List ℕ

-- the new counts
abbrev pub grown : Counts → Part → Counts
grown c p = the_counts (c.nodes + length p.xs) (c.elements + length p.kinds)

-- the new lists; every element added carries the region number
abbrev pub added : Counts → ℕ → Part → Mesh → Mesh
added c region p m =
    the_mesh (put m.xs c.nodes p.xs) (put m.ys c.nodes p.ys) (put m.zs c.nodes p.zs)
    (put m.kinds c.elements p.kinds) (put m.places (8 * c.elements) p.places) (put m.regions c.elements (elems (length p.kinds) (λ _. region)))

-- 12 for the nodes, then for the elements
unfoldable pub fit_part : Counts → Mesh → Part → Answer Part
fit_part c m p =
    unless (fits (length p.xs) c.nodes (length m.xs)) 12
    (unless (fits (length p.kinds) c.elements (length m.kinds)) 12
    (given p))

-- A mesh that may grow: its lists are parallel, and the counts are within them. No struct has it as a ghost fact: it would need six lists of its own,
-- since lists in a struct in a struct with ghost facts cannot be lent.
pub record Grows (c : Counts) (m : Mesh) : Type 0 where
  pub lists : parallel m ≡ true
  pub counts : within c m ≡ true

-- ---- what a region call answers, the new counts, and what it leaves in the mesh

pub record Adds (a : Answer Part) (c : Counts) (region : ℕ) (m m' : Mesh) (r : Result Counts Refusal) : Type 0 where
  pub answer : answered r ≡ map_answer (grown c) a
  pub lists : m' ≡ left (map_answer (λ p. added c region p m) a) m

-- the same for what a call finds for its ring: it is appended where there is room
abbrev pub Appends : Answer Part → Counts → ℕ → Mesh → Mesh → Result Counts Refusal → Type 0
Appends a c region m m' r = Adds (and_then a (fit_part c m)) c region m m' r

-- ---- what an accepted region call appends, where the mesh has `base` nodes already (the crate theorems proves it in proofs/WellFormed)

-- element e is a hex or a prism; each place that it uses is a node appended with it, the others are unused
unfoldable pub element_appended : ℕ → Part → ℕ → Bool
element_appended base p e =
    (eqb (get_or p.kinds e 0) (kind_number Hex) || eqb (get_or p.kinds e 0) (kind_number Prism))
    && all_below (used_places (kind_of (get_or p.kinds e 0))) (λ i. leb base (get_or (part (8 * e) 8 p.places) i 0) && ltb (get_or (part (8 * e) 8 p.places) i 0) (base + length p.xs))
    && rest_unused (used_places (kind_of (get_or p.kinds e 0))) (part (8 * e) 8 p.places)

pub record PartSound (base : ℕ) (p : Part) : Type 0 where
  pub same_ys : length p.ys ≡ length p.xs
  pub same_zs : length p.zs ≡ length p.xs
  pub eight : length p.places ≡ 8 * length p.kinds
  pub elements : all_below (length p.kinds) (element_appended base p) ≡ true
