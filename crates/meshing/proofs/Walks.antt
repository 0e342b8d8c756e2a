-- A walk has each of the vertices below n once. Assumes nothing.
use mathlib.Core.Path.{◌≡◌, refl, ◌∙◌}
use mathlib.Core.Bool.{Bool, true, false}
use Prim.Native.Nat.{ℕ, ◌≤◌}
use native.Mathlib.Omega.{arith}
use lib.Dec.{eqb}
use lib.ListN.{length, length-reverse}
use Rattle.lists.specs.Counts.{bit, occurs}
use Rattle.lists.specs.Lists.{elems}
use Rattle.lists.proofs.Counts.{total_reverse, occurs_past, occurs_once}
use Rattle.lists.proofs.Fills.{elems_length}
use Rattle.meshing.specs.Triangles.{walk}

occurs_walk : (d : Bool) (u n : ℕ) → occurs u (walk d n) ≡ occurs u (elems n (λ i. i))
occurs_walk true u n = refl
occurs_walk false u n = total_reverse (λ a. bit (eqb a u)) (elems n (λ i. i))

pub walk_length : (d : Bool) (n : ℕ) → length (walk d n) ≡ n
walk_length true n = elems_length (λ i. i) n
walk_length false n = length-reverse (elems n (λ i. i)) ∙ elems_length (λ i. i) n

pub walk_once : (d : Bool) (n u : ℕ) → occurs u (walk d n) ≤ 1
walk_once d n u = omega (arith, occurs_walk d u n, occurs_once u n)

pub walk_past : (d : Bool) (n u : ℕ) → n ≤ u → occurs u (walk d n) ≡ 0
walk_past d n u h = omega (arith, occurs_walk d u n, occurs_past u n h)
