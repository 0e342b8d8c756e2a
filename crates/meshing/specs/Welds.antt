-- Welding: of the nodes with one key the first is kept, in order, and node places are renumbered.
use Rattle.std.specs.Prelude.{ℕ, ◌≡◌, Bool, false, not, ◌&&◌, cond, List, map, eqb, leb, ltb, ℤ, pos, negsuc, length, get_or, Float, Result}
use Rattle.std.specs.Prelude.{Option, Some, None}
use Rattle.std.specs.Float.{nan}
use Rattle.lists.specs.Answer.{Answer, given, unless, and_then, map_answer, left}
use Rattle.lists.specs.Lists.{put, elems, gather, passing, any_below, first}
use Rattle.binary64.specs.Numbers.{◌⊘◌, at, at_most}
use Rattle.binary64.specs.Rounding.{nearest_capped}
use Rattle.openrdson_core.specs.Mesh.{Mesh, the_mesh, the_counts, parallel}
use Rattle.openrdson_core.specs.Answers.{answer as answered}
use Rattle.openrdson_core.specs.declared.mesh.Counts.{Counts}
use Rattle.openrdson_core.specs.declared.refusals.Refusal.{Refusal}
use Rattle.meshing.specs.declared.weld.Key.{Key}
use Rattle.meshing.specs.Whole.{mesh_fault}

-- ---- keys

-- two whole numbers are the same
unfoldable pub same : ℤ → ℤ → Bool
same (pos a) (pos b) = eqb a b
same (pos a) (negsuc b) = false
same (negsuc a) (pos b) = false
same (negsuc a) (negsuc b) = eqb a b

-- a node's key, by a name that other crates can use
abbrev pub NodeKey : Type 0
NodeKey = Key

unfoldable pub same_key : Key → Key → Bool
same_key a b = same a.x b.x && same a.y b.y && same a.z b.z

-- the place that a search found, or n
abbrev pub found_or : ℕ → Option ℕ → ℕ
found_or n None = n
found_or n (Some i) = i

module _ (tolerance : Float) (xs ys zs : List Float) where
  -- the key of node i: each coordinate over the tolerance, rounded with halves away from zero, capped to i64; not-a-number gives 0
  unfoldable pub key_at : ℕ → Key
  key_at i =
      record {
        x = nearest_capped (at xs i ⊘ tolerance);
        y = nearest_capped (at ys i ⊘ tolerance);
        z = nearest_capped (at zs i ⊘ tolerance);
      }

  -- no node before node i has its key
  unfoldable pub is_first : ℕ → Bool
  is_first i = not (any_below i (λ j. same_key (key_at j) (key_at i)))

  -- the nodes that are kept, in order
  abbrev pub kept : List ℕ
  kept = passing is_first (elems (length xs) (λ i. i))

  -- the new number of node p: the place of its key among those kept
  unfoldable pub new_number : ℕ → ℕ
  new_number p = found_or (length kept) (first (λ k. same_key (key_at (get_or kept k 0)) (key_at p)) (length kept) 0)

  -- what stands in a node place after welding; a place that is no node's is unused, and stays
  unfoldable pub renumbered : ℕ → ℕ
  renumbered p = cond (ltb p (length xs)) (new_number p) p

-- the mesh of the nodes kept, with the same elements
unfoldable pub welded : Float → Mesh → Mesh
welded tolerance m =
    let ks = kept tolerance m.xs m.ys m.zs in
    the_mesh (gather nan m.xs ks) (gather nan m.ys ks) (gather nan m.zs ks)
    m.kinds (map (renumbered tolerance m.xs m.ys m.zs) m.places) m.regions

-- ---- the call: 16 for the lent lists and for the mesh, 2, 1, 15, 13; then 12

-- the mesh w has room in the lent lists
abbrev pub room_for : Mesh → Mesh → Bool
room_for lent w = leb (length w.xs) (length lent.xs) && leb (length w.kinds) (length lent.kinds)

unfoldable pub fit_welded : Mesh → Mesh → Answer Mesh
fit_welded lent w = unless (room_for lent w) 12 (given w)

unfoldable pub weld_nodes : Mesh → Float → Mesh → Answer Mesh
weld_nodes m tolerance lent = unless (parallel lent) 16 (and_then (mesh_fault (at_most 20 tolerance) m) (λ _. fit_welded lent (welded tolerance m)))

-- the welded mesh over the start of the lent lists
abbrev pub written_over : Mesh → Mesh → Mesh
written_over lent w =
    the_mesh (put lent.xs 0 w.xs) (put lent.ys 0 w.ys) (put lent.zs 0 w.zs)
    (put lent.kinds 0 w.kinds) (put lent.places 0 w.places) (put lent.regions 0 w.regions)

-- what the call answers, the counts of the welded mesh, and what it leaves in the lent lists
pub record WeldedAs (a : Answer Mesh) (lent : Mesh) (r : Result Counts Refusal) (lent' : Mesh) : Type 0 where
  pub answer : answered r ≡ map_answer (λ (w : Mesh). the_counts (length w.xs) (length w.kinds)) a
  pub lists : lent' ≡ left (map_answer (written_over lent) a) lent

-- ---- the coordinates of the nodes that are kept, in three lists
pub record KeptNodes (tolerance : Float) (xs ys zs kx ky kz : List Float) : Type 0 where
  pub x : kx ≡ gather nan xs (kept tolerance xs ys zs)
  pub y : ky ≡ gather nan ys (kept tolerance xs ys zs)
  pub z : kz ≡ gather nan zs (kept tolerance xs ys zs)

-- lent lists with the nodes ks of xs, ys, zs over their start
abbrev pub with_kept : List ℕ → List Float → List Float → List Float → Mesh → Mesh
with_kept ks xs ys zs m = the_mesh (put m.xs 0 (gather nan xs ks)) (put m.ys 0 (gather nan ys ks)) (put m.zs 0 (gather nan zs ks)) m.kinds m.places m.regions

-- lent lists with node places over the start of theirs
abbrev pub with_places : List ℕ → Mesh → Mesh
with_places new m = the_mesh m.xs m.ys m.zs m.kinds (put m.places 0 new) m.regions
