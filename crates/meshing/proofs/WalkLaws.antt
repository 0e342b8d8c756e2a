-- The walk as the program fills it. Assumes nothing.
use mathlib.Core.Path.{◌≡◌, refl, sym, ap, subst, ◌∙◌}
use mathlib.Core.Bool.{Bool, true, false, cond}
use mathlib.Core.List.{List, [], ◌∷◌, reverse, reverse-append}
use Prim.Native.Nat.{ℕ, zero, suc, ◌-◌, ◌≤◌, ◌<◌}
use native.Mathlib.Nat.{le_refl}
use native.Mathlib.Omega.{arith}
use Rattle.lists.specs.Lists.{runs, elems, Below}
use Rattle.lists.proofs.Fills.{elems_suc, elems_same, elems_front}
use Rattle.lists.proofs.Places.{below_more}
use Rattle.meshing.specs.Triangles.{walk}

-- the vertex at place k of the walk round n vertices
abbrev pub walk_at : Bool → ℕ → ℕ → ℕ
walk_at d n k = cond d k (n - 1 - k)

back_elems : (n : ℕ) → reverse (elems n (λ i. i)) ≡ elems n (walk_at false n)
unfolding elems runs
back_elems zero = refl
back_elems (suc n) =
    let first : n ≡ walk_at false (suc n) 0 = omega arith in
    ap reverse (elems_suc (λ i. i) n)
    ∙ reverse-append (elems n (λ i. i)) (n ∷ [])
    ∙ ap (λ (l : List ℕ). n ∷ l) (back_elems n ∙ elems_same (walk_at false n) (λ i. walk_at false (suc n) (suc i)) n (λ i h. omega arith))
    ∙ ap (λ (k : ℕ). k ∷ elems n (λ i. walk_at false (suc n) (suc i))) first
    ∙ sym (elems_front (walk_at false (suc n)) n)

pub walk_elems : (d : Bool) (n : ℕ) → elems n (walk_at d n) ≡ walk d n
walk_elems true n = refl
walk_elems false n = sym (back_elems n)

-- its vertices are below n
elems_below : (d : Bool) (n k : ℕ) → k ≤ n → Below n (elems k (walk_at d n))
unfolding elems runs
elems_below d n zero h = tt
elems_below d n (suc k) h = below_more n (elems k (walk_at d n)) (walk_at d n k) (elems_below d n k (omega arith)) (at d)
  where
    at : (b : Bool) → walk_at b n k < n
    at true = omega arith
    at false = omega arith

pub walk_below : (d : Bool) (n : ℕ) → Below n (walk d n)
walk_below d n = subst (Below n) (walk_elems d n) (elems_below d n n (le_refl n))
