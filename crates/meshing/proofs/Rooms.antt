-- Room in a mesh's lists for so many more nodes and elements. Assumes nothing.
use mathlib.Core.Path.{◌≡◌}
use mathlib.Core.Bool.{true}
use Prim.Native.Nat.{ℕ, ◌+◌, ◌*◌, ◌≤◌}
use native.Mathlib.Omega.{arith}
use Rattle.openrdson_core.specs.Mesh.{parallel_lengths, fits}
use Rattle.openrdson_core.specs.declared.mesh.Counts.{Counts}
use Rattle.openrdson_core.proofs.MeshLaws.{equal_lengths, room_for}

-- the lists are given by their lengths, as in the facts of a program
pub record Room (c : Counts) (nodes elements xs ys zs kinds places regions : ℕ) : Type 0 where
  pub nodes_most : c.nodes + nodes ≤ 1048576
  pub elements_most : c.elements + elements ≤ 1048576
  pub in_xs : c.nodes + nodes ≤ xs
  pub in_ys : c.nodes + nodes ≤ ys
  pub in_zs : c.nodes + nodes ≤ zs
  pub in_kinds : c.elements + elements ≤ kinds
  pub in_places : 8 * c.elements + 8 * elements ≤ places
  pub in_regions : c.elements + elements ≤ regions

pub room_in : (c : Counts) (nodes elements xs ys zs kinds places regions : ℕ) → parallel_lengths xs ys zs kinds places regions ≡ true → fits nodes c.nodes xs ≡ true → fits elements c.elements kinds ≡ true
    → Room c nodes elements xs ys zs kinds places regions
room_in c nodes elements xs ys zs kinds places regions p f g =
    let lists = equal_lengths xs ys zs kinds places regions p in
    let n = room_for nodes c.nodes xs f in
    let e = room_for elements c.elements kinds g in
    record {
      nodes_most = n.0;
      elements_most = e.0;
      in_xs = n.1;
      in_ys = omega (arith, n.1, lists.same_ys);
      in_zs = omega (arith, n.1, lists.same_zs);
      in_kinds = e.1;
      in_places = omega (arith, e.1, lists.eight_places);
      in_regions = omega (arith, e.1, lists.same_regions);
    }
