-- Points and rings. A ring is two equally long lists, xs and ys, of at most 512 points.
use Rattle.std.specs.Prelude.{ℕ, ◌+◌, Bool, ◌&&◌, cond, List, eqb, leb, length, Float, Option, Some, None}
use Rattle.lists.specs.Answer.{Answer, given, unless, and_then}
use Rattle.lists.specs.Lists.{all_below, part}
use Rattle.binary64.specs.Numbers.{at, at_most}
use Rattle.openrdson_core.specs.declared.points.Point.{Point}

abbrev pub the_point : Float → Float → Point
the_point x y = record { x = x; y = y }

abbrev pub point_at : List Float → List Float → ℕ → Point
point_at xs ys i = the_point (at xs i) (at ys i)

-- both coordinates are finite and at most 2^20 in size
abbrev pub point_in : Point → Bool
point_in p = at_most 20 p.x && at_most 20 p.y

-- all of them are in range
abbrev pub points_in : List Float → List Float → Bool
points_in xs ys = all_below (length xs) (λ i. point_in (point_at xs ys i))

-- two point lists are equally long: 16
abbrev pub even_points : ℕ → ℕ → Answer (Unit {0})
even_points m n = unless (eqb m n) 16 (given tt)

-- `count` entries of both from place `start` on, where the lists have them
unfoldable pub points_part : List Float → List Float → ℕ → ℕ → Option (List Float × List Float)
points_part xs ys start count = cond (leb (start + count) (length xs)) (Some (part start count xs, part start count ys)) None

-- what the lengths of a ring's lists are refused for: 16, 2
abbrev pub ring_size : ℕ → ℕ → Answer (Unit {0})
ring_size m n = unless (eqb m n) 16 (unless (leb m 512) 2 (given tt))

-- what a ring is refused for: 16, 2, 1
unfoldable pub ring_fault : List Float → List Float → Answer (Unit {0})
ring_fault xs ys = and_then (ring_size (length xs) (length ys)) (λ _. unless (points_in xs ys) 1 (given tt))

-- what a call on a ring answers, where a is what it gives
abbrev pub of_ring : {A : Type 0} → List Float → List Float → A → Answer A
of_ring xs ys a = and_then (ring_fault xs ys) (λ _. given a)
