-- The area of a ring, two edges a turn: a law for each way through `ring_area`.
use Rattle.std.proofs.Common.{ℕ, ◌+◌, ◌-◌, ◌≤◌, ◌<◌, ◌≡◌, refl, sym, ap, subst, ◌∙◌, Bool, true, false, ◌&&◌, List, ⊎_elim, eq-or-lt_of_le, arith, length, Float, eq-eqb, le-leb, lt-ltb, le-ltb}
use lib.Ieee.{of_bits}
use borrow.Author.Tests.{lt-leb}
use Rattle.lists.specs.Answer.{refused, given}
use Rattle.lists.specs.Lists.{all_below}
use Rattle.lists.proofs.Scans.{both, all_at}
use Rattle.binary64.specs.Numbers.{◌⊕◌, ◌⊘◌, abs}
use Rattle.binary64.specs.Constants.{zero64, two64}
use Rattle.openrdson_core.specs.Points.{point_at, point_in, points_in, ring_fault, of_ring}
use Rattle.openrdson_core.specs.Area.{cross, shoelace, signed_area, area}
use Rattle.openrdson_core.specs.declared.points.Point.{Point}
use Rattle.openrdson_core.proofs.Areas.{Summing, summing_more, summing_end, summing_closed}

both_hold : {f g : Bool} → f ≡ true → g ≡ true → (f && g) ≡ true
both_hold e h = rw (e, h)

module _ (xs ys : List Float) (even : length xs ≡ length ys) where
  pub ring_long : 512 < length xs → refused 2 ≡ of_ring xs ys (area xs ys)
  unfolding ring_fault
  ring_long l = rw (eq-eqb _ _ even, lt-leb _ _ l)

  -- ---- what the turns keep: the sum over the edges before point i, whose points are in range

  pub two_more : {i : ℕ} {sum s : Float} {f g : Bool} (a b c : Point) → Summing xs ys i sum true → i + 2 < length xs → a ≡ point_at xs ys i → b ≡ point_at xs ys (i + 1) → c ≡ point_at xs ys (i + 2)
      → f ≡ point_in a → g ≡ point_in b → (f && g) ≡ true → s ≡ sum ⊕ cross a b ⊕ cross b c → Summing xs ys (i + 2) s true
  two_more {i} {sum} {s} {f} {g} a b c w l p q r fa gb h is =
      let t = both f g h in
      let e : i + 1 + 1 ≡ i + 2 = omega arith in
      let one : Summing xs ys (i + 1) (sum ⊕ cross a b) true = summing_more xs ys w a p b (omega arith) q (sym t.0 ∙ fa) refl in
      let two : Summing xs ys (i + 1 + 1) s true = summing_more xs ys one b q c (omega arith) (r ∙ ap (point_at xs ys) (sym e)) (sym t.1 ∙ gb) is in
      subst (λ (k : ℕ). Summing xs ys k s true) e two

  module _ (short : length xs ≤ 512) where
    ring_in : {v : Float} → points_in xs ys ≡ true → v ≡ area xs ys → given v ≡ of_ring xs ys (area xs ys)
    unfolding ring_fault
    ring_in h e = rw (e, eq-eqb _ _ even, le-leb _ _ short, h)

    ring_out : points_in xs ys ≡ false → refused 1 ≡ of_ring xs ys (area xs ys)
    unfolding ring_fault
    ring_out h = rw (eq-eqb _ _ even, le-leb _ _ short, h)

    -- one of two points is not in range
    pub two_out : {f g : Bool} (i j : ℕ) (a b : Point) → i < length xs → j < length xs → a ≡ point_at xs ys i → b ≡ point_at xs ys j → f ≡ point_in a → g ≡ point_in b → (f && g) ≡ false
        → refused 1 ≡ of_ring xs ys (area xs ys)
    two_out {f} {g} i j a b I J p q fa gb h = ring_out (go (points_in xs ys) refl)
      where
        go : (v : Bool) → points_in xs ys ≡ v → v ≡ false
        go false e = refl
        go true e =
            sym (both_hold (fa ∙ ap point_in p ∙ all_at (λ k. point_in (point_at xs ys k)) (length xs) e i I) (gb ∙ ap point_in q ∙ all_at (λ k. point_in (point_at xs ys k)) (length xs) e j J)) ∙ h

    small_area : length xs < 3 → zero64 ≡ area xs ys
    unfolding signed_area abs of_bits
    small_area l = rw (lt-ltb (length xs) 3 l)

    whole_area : {s : Float} → 3 ≤ length xs → s ≡ shoelace xs ys (length xs) → abs (s ⊘ two64) ≡ area xs ys
    unfolding signed_area
    whole_area l e = rw (e, le-ltb (length xs) 3 l)

    pub no_points : length xs ≡ 0 → given zero64 ≡ of_ring xs ys (area xs ys)
    unfolding all_below
    no_points e = ring_in (rw e) (small_area (omega arith))

    -- ---- after the turns one point is left, or two
    module _ {i : ℕ} {sum : Float} {f g : Bool} (w : Summing xs ys i sum true) (here last : Point) (at_i : here ≡ point_at xs ys i) (at_end : last ≡ point_at xs ys (length xs - 1))
        (fa : f ≡ point_in here) (gb : g ≡ point_in last) (h : (f && g) ≡ true) where
      last_at : (k : ℕ) → k + 1 ≡ length xs → last ≡ point_at xs ys k
      last_at k e = let d : length xs - 1 ≡ k = omega arith in at_end ∙ ap (point_at xs ys) d

      last_in : true ≡ point_in last
      last_in = sym (both f g h).1 ∙ gb

      on_to_last : i + 1 < length xs → i + 2 ≡ length xs → Summing xs ys (i + 1) (sum ⊕ cross here last) true
      on_to_last l e = summing_more xs ys w here at_i last l (last_at (i + 1) (omega arith)) (sym (both f g h).0 ∙ fa) refl

      one_in : i + 1 ≡ length xs → points_in xs ys ≡ true
      one_in e = sym (summing_end xs ys w last (last_at i e) e last_in)

      two_in : i + 1 < length xs → i + 2 ≡ length xs → points_in xs ys ≡ true
      two_in l e = sym (summing_end xs ys (on_to_last l e) last (last_at (i + 1) (omega arith)) (omega arith) last_in)

      pub ends_small : i < length xs → length xs ≤ i + 2 → length xs < 3 → given zero64 ≡ of_ring xs ys (area xs ys)
      ends_small a b l = ring_in (⊎_elim (λ e. one_in e) (λ k. two_in k (omega arith)) (eq-or-lt_of_le (omega arith))) (small_area l)

      pub ends_one : {v : Float} (first : Point) → i + 1 ≡ length xs → 3 ≤ length xs → first ≡ point_at xs ys 0 → v ≡ abs ((sum ⊕ cross last first) ⊘ two64) → given v ≡ of_ring xs ys (area xs ys)
      ends_one first e l z is = ring_in (one_in e) (is ∙ whole_area l (summing_closed xs ys w last (last_at i e) first e z))

      pub ends_two : {v : Float} (first : Point) → i + 1 < length xs → i + 2 ≡ length xs → 3 ≤ length xs → first ≡ point_at xs ys 0 → v ≡ abs ((sum ⊕ cross here last ⊕ cross last first) ⊘ two64) → given v ≡ of_ring xs ys (area xs ys)
      ends_two first k e l z is =
          ring_in (two_in k e) (is ∙ whole_area l (summing_closed xs ys (on_to_last k e) last (last_at (i + 1) (omega arith)) first (omega arith) z))
