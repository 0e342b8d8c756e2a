-- The total volume: a box beside the point lists, and the rows in order.
use Rattle.std.proofs.Common.{ℕ, ◌+◌, ◌≤◌, ◌<◌, ◌≡◌, List, length, ap, sym, arith, eq-eqb, le-leb}
use Rattle.std.specs.Prelude.{◌&&◌, Float}
use Rattle.lists.specs.Answer.{Answer, refused, given, unless, map_answer}
use Rattle.lists.proofs.Answers.{unless_then}
use Rattle.lists.proofs.Folds.{steps_more, steps_stop}
use Rattle.binary64.specs.Numbers.{◌⊕◌, ◌⊖◌, ◌⊗◌, abs}
use Rattle.binary64.specs.Constants.{zero64}
use Rattle.openrdson_core.specs.Points.{the_point, point_in}
use Rattle.openrdson_core.specs.Solids.{heights_in, of_solid, volume}
use Rattle.openrdson_core.specs.declared.solids.Solid.TheVariants.{Box}
use Rattle.geometry.specs.Regions.{Regions}
use Rattle.geometry.specs.Volumes.{row_volume, total_to}

-- a box's volume, where its six numbers are in range
abbrev pub box_answer : Float → Float → Float → Float → Float → Float → Answer Float
box_answer x0 y0 x1 y1 z0 z1 =
    unless (point_in (the_point x0 y0) && point_in (the_point x1 y1) && heights_in z0 z1) 1 (given (abs ((x1 ⊖ x0) ⊗ (y1 ⊖ y0) ⊗ (z1 ⊖ z0))))

module _ (xs ys : List Float) (even : length xs ≡ length ys) (short : length xs ≤ 2097152) where
  pub box_beside : (x0 y0 x1 y1 z0 z1 : Float) → box_answer x0 y0 x1 y1 z0 z1 ≡ of_solid xs ys (Box x0 y0 x1 y1 z0 z1) (volume xs ys (Box x0 y0 x1 y1 z0 z1))
  unfolding volume
  box_beside x0 y0 x1 y1 z0 z1 =
      rw (eq-eqb _ _ even, le-leb 0 (length xs) (omega arith), le-leb _ _ short)
      (sym (unless_then (point_in (the_point x0 y0) && point_in (the_point x1 y1) && heights_in z0 z1) 1 (given (tt {0})) (λ _. given (abs ((x1 ⊖ x0) ⊗ (y1 ⊖ y0) ⊗ (z1 ⊖ z0))))))

module _ (r : Regions) (xs ys : List Float) where
  abbrev step : Float → ℕ → Answer Float
  step sum i = map_answer (λ (v : Float). sum ⊕ v) (row_volume r xs ys i)

  pub total_more : (i : ℕ) {sum v : Float} → given sum ≡ total_to r xs ys i → given v ≡ row_volume r xs ys i → given (sum ⊕ v) ≡ total_to r xs ys (i + 1)
  total_more i {sum} e f = steps_more step zero64 i e (ap (map_answer (λ (v : Float). sum ⊕ v)) f)

  -- a row that is refused decides, whatever comes after
  pub total_stops : (i m : ℕ) {sum : Float} {n : ℕ} → i < m → given sum ≡ total_to r xs ys i → refused n ≡ row_volume r xs ys i → refused n ≡ total_to r xs ys m
  total_stops i m {sum} h e f = steps_stop step zero64 i m h e (ap (map_answer (λ (v : Float). sum ⊕ v)) f)
