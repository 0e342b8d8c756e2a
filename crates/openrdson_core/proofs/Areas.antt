-- The shoelace sum, edge by edge. Assumes nothing.
use mathlib.Core.Path.{◌≡◌, refl, sym, ap, ◌∙◌}
use mathlib.Core.Bool.{Bool, true, ◌&&◌}
use mathlib.Core.List.{List}
use Prim.Native.Nat.{ℕ, ◌+◌, ◌≤◌, ◌<◌}
use native.Mathlib.Omega.{arith}
use lib.ListN.{length}
use lib.Ieee.{Float}
use Rattle.lists.specs.Lists.{all_below, next_of}
use Rattle.lists.proofs.Folds.{fold_start, fold_more}
use Rattle.lists.proofs.Places.{next_inside, next_last}
use Rattle.lists.proofs.Scans.{all_start, all_noted}
use Rattle.binary64.specs.Numbers.{◌⊕◌}
use Rattle.binary64.specs.Constants.{zero64}
use Rattle.openrdson_core.specs.Points.{point_at, point_in, points_in}
use Rattle.openrdson_core.specs.Area.{cross, edge_from, shoelace}
use Rattle.openrdson_core.specs.declared.points.Point.{Point}

module _ (xs ys : List Float) where
  pub sum_start : zero64 ≡ shoelace xs ys 0
  unfolding shoelace
  sum_start = fold_start (λ sum i. sum ⊕ edge_from xs ys i) zero64

  pub sum_step : (i : ℕ) → shoelace xs ys i ⊕ edge_from xs ys i ≡ shoelace xs ys (i + 1)
  unfolding shoelace
  sum_step i = fold_more (λ sum i. sum ⊕ edge_from xs ys i) zero64 i refl refl

  module _ (i : ℕ) {sum : Float} (total : sum ≡ shoelace xs ys i) (here : Point) (at_i : here ≡ point_at xs ys i) where
    -- the edge to point j, the neighbour of point i
    edge_more : (j : ℕ) (next : Point) → next ≡ point_at xs ys j → next_of (length xs) i ≡ j → sum ⊕ cross here next ≡ shoelace xs ys (i + 1)
    edge_more j next k is = rw (total, at_i, k) (ap (λ (p : ℕ). shoelace xs ys i ⊕ cross (point_at xs ys i) (point_at xs ys p)) (sym is)) ∙ sum_step i

    -- on to point j, the next
    pub sum_more : (j : ℕ) (next : Point) → i + 1 ≡ j → j < length xs → next ≡ point_at xs ys j → sum ⊕ cross here next ≡ shoelace xs ys j
    sum_more j next e l k = edge_more j next k (next_inside (length xs) i (omega arith) ∙ e) ∙ ap (shoelace xs ys) e

    -- at the last point: the sum with the edge that closes the ring
    pub sum_closed : (first : Point) → i + 1 ≡ length xs → first ≡ point_at xs ys 0 → sum ⊕ cross here first ≡ shoelace xs ys (length xs)
    sum_closed first l e = edge_more 0 first e (next_last (length xs) i l) ∙ ap (shoelace xs ys) l

    -- on to the neighbour, whichever it is
    pub sum_next : (j : ℕ) (next : Point) → j ≡ next_of (length xs) i → next ≡ point_at xs ys j → sum ⊕ cross here next ≡ shoelace xs ys (i + 1)
    sum_next j next e k = edge_more j next k (sym e)

  -- eight edges on
  pub sum_eight : (i j : ℕ) {sum : Float} → i + 8 ≤ length xs → j ≡ next_of (length xs) (i + 7) → sum ≡ shoelace xs ys i
      → sum ⊕ cross (point_at xs ys i) (point_at xs ys (i + 1)) ⊕ cross (point_at xs ys (i + 1)) (point_at xs ys (i + 2))
      ⊕ cross (point_at xs ys (i + 2)) (point_at xs ys (i + 3)) ⊕ cross (point_at xs ys (i + 3)) (point_at xs ys (i + 4))
      ⊕ cross (point_at xs ys (i + 4)) (point_at xs ys (i + 5)) ⊕ cross (point_at xs ys (i + 5)) (point_at xs ys (i + 6))
      ⊕ cross (point_at xs ys (i + 6)) (point_at xs ys (i + 7)) ⊕ cross (point_at xs ys (i + 7)) (point_at xs ys j)
      ≡ shoelace xs ys (i + 8)
  sum_eight i j l e t =
      let s1 = sum_more i t _ refl (i + 1) _ refl (omega arith) refl in
      let s2 = sum_more (i + 1) s1 _ refl (i + 2) _ (omega arith) (omega arith) refl in
      let s3 = sum_more (i + 2) s2 _ refl (i + 3) _ (omega arith) (omega arith) refl in
      let s4 = sum_more (i + 3) s3 _ refl (i + 4) _ (omega arith) (omega arith) refl in
      let s5 = sum_more (i + 4) s4 _ refl (i + 5) _ (omega arith) (omega arith) refl in
      let s6 = sum_more (i + 5) s5 _ refl (i + 6) _ (omega arith) (omega arith) refl in
      let s7 = sum_more (i + 6) s6 _ refl (i + 7) _ (omega arith) (omega arith) refl in
      let n : i + 7 + 1 ≡ i + 8 = omega arith in
      sum_next (i + 7) s7 _ refl j _ e refl ∙ ap (shoelace xs ys) n

-- the loop over the edges: before the edge from point i, `sum` and `fine` are of the edges and points before it
pub record Summing (xs ys : List Float) (i : ℕ) (sum : Float) (fine : Bool) : Type 0 where
  pub total : sum ≡ shoelace xs ys i
  pub noted : fine ≡ all_below i (λ k. point_in (point_at xs ys k))

module _ (xs ys : List Float) where
  pub summing_start : Summing xs ys 0 zero64 true
  summing_start = record {
    total = sum_start xs ys;
    noted = sym (all_start (λ k. point_in (point_at xs ys k)));
  }

  module _ {i : ℕ} {sum : Float} {fine : Bool} (w : Summing xs ys i sum fine) (here : Point) (at_i : here ≡ point_at xs ys i) where
    fine_more : {now : Bool} → now ≡ (fine && point_in here) → now ≡ all_below (i + 1) (λ k. point_in (point_at xs ys k))
    fine_more e = all_noted (λ k. point_in (point_at xs ys k)) i w.noted (e ∙ ap (λ (p : Point). fine && point_in p) at_i)

    -- on to the next point
    pub summing_more : (next : Point) {s : Float} {f : Bool} → i + 1 < length xs → next ≡ point_at xs ys (i + 1) → f ≡ (fine && point_in here) → s ≡ sum ⊕ cross here next
        → Summing xs ys (i + 1) s f
    summing_more next l e f s = record {
      total = s ∙ sum_more xs ys i w.total here at_i (i + 1) next refl l e;
      noted = fine_more f;
    }

    -- at the last point: whether all are in range, and the sum with the edge that closes the ring
    pub summing_end : {now : Bool} → i + 1 ≡ length xs → now ≡ (fine && point_in here) → now ≡ points_in xs ys
    summing_end l e = fine_more e ∙ ap (λ (n : ℕ). all_below n (λ k. point_in (point_at xs ys k))) l

    pub summing_closed : (first : Point) → i + 1 ≡ length xs → first ≡ point_at xs ys 0 → sum ⊕ cross here first ≡ shoelace xs ys (length xs)
    summing_closed first l e = sum_closed xs ys i w.total here at_i first l e
