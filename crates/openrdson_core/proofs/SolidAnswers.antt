-- A solid's answer: a box is judged by its bounds, a prism's part as a ring, and its heights then. Assumes nothing.
use mathlib.Core.Path.{◌≡◌, refl}
use mathlib.Core.Bool.{Bool, true, false}
use mathlib.Core.List.{List}
use Prim.Native.Nat.{ℕ}
use lib.ListN.{length}
use lib.Ieee.{Float}
use Rattle.lists.specs.Answer.{Answer, refused, given, unless, and_then}
use Rattle.lists.specs.Lists.{part}
use Rattle.lists.proofs.Answers.{then_then}
use Rattle.openrdson_core.specs.Points.{ring_fault}
use Rattle.openrdson_core.specs.Bounds.{the_bbox}
use Rattle.openrdson_core.specs.Solids.{points_fault, of_part, heights_in, box_fault, of_solid}
use Rattle.openrdson_core.specs.declared.bounds.Bbox.{Bbox}
use Rattle.openrdson_core.specs.declared.solids.Solid.TheVariants.{Box, Prism}

by_cases : {A B : Type 0} (lists ring : Answer (Unit {0})) (heights : Bool) (a : A) (f : A → B)
    → and_then (and_then lists (λ _. and_then ring (λ _. given a))) (λ x. unless heights 1 (given (f x)))
    ≡ and_then (and_then (and_then lists (λ _. and_then ring (λ _. given (tt {0})))) (λ _. unless heights 1 (given (tt {0})))) (λ _. given (f a))
by_cases (refused n) ring heights a f = refl
by_cases (given u) (refused n) heights a f = refl
by_cases (given u) (given v) true a f = refl
by_cases (given u) (given v) false a f = refl

-- f of the part, then g of that where the heights are in range
pub prism_answer : {A B : Type 0} (xs ys : List Float) (z0 z1 : Float) (start count : ℕ) (f : List Float → List Float → A) (g : A → B)
    → and_then (of_part xs ys start count f) (λ a. unless (heights_in z0 z1) 1 (given (g a)))
    ≡ of_solid xs ys (Prism z0 z1 start count) (g (f (part start count xs) (part start count ys)))
prism_answer xs ys z0 z1 start count f g =
    by_cases (points_fault (length xs) (length ys) start count) (ring_fault (part start count xs) (part start count ys)) (heights_in z0 z1) (f (part start count xs) (part start count ys)) g

-- f of the bounds
pub box_answer_lem : {A : Type 0} (xs ys : List Float) (x0 y0 x1 y1 z0 z1 : Float) (f : Bbox → A)
    → and_then (and_then (box_fault (length xs) (length ys) (the_bbox x0 y0 x1 y1) z0 z1) (λ _. given (the_bbox x0 y0 x1 y1))) (λ b. given (f b))
    ≡ of_solid xs ys (Box x0 y0 x1 y1 z0 z1) (f (the_bbox x0 y0 x1 y1))
box_answer_lem xs ys x0 y0 x1 y1 z0 z1 f =
    then_then (box_fault (length xs) (length ys) (the_bbox x0 y0 x1 y1) z0 z1) (λ _. given (the_bbox x0 y0 x1 y1)) (λ b. given (f b))
