-- Cells and axes: an axis has at least one cell, its last coordinate is its end, and a count that is given is at most 4,096. Assumes nothing.
use mathlib.Core.Path.{◌≡◌, refl}
use mathlib.Core.Bool.{Bool, true, false, cond}
use Prim.Native.Nat.{ℕ, ◌≤◌}
use native.Mathlib.Omega.{arith}
use lib.Dec.{leb}
use lib.Ieee.{Float, lt}
use borrow.Author.Tests.{leb-true, leb-false, eq-eqb}
use Rattle.lists.specs.Answer.{given}
use Rattle.lists.proofs.Answers.{passed, given_same}
use Rattle.binary64.specs.Numbers.{◌⊗◌, ◌⊘◌}
use Rattle.binary64.specs.Constants.{zero64}
use Rattle.binary64.specs.Rounding.{ceil_capped}
use Rattle.meshing.specs.Cells.{almost_one, cells_for, cells_of, axis_at}

by_test : (t : Bool) (n : ℕ) → leb n 1 ≡ t → 1 ≤ cond t 1 n
by_test true n e = omega arith
by_test false n e = omega (arith, leb-false n 1 e)

-- an axis has at least one cell
pub some_cell : (extent cell : Float) → 1 ≤ cells_for extent cell
unfolding cells_for
some_cell extent cell = by_test _ (ceil_capped ((extent ⊘ cell) ⊗ almost_one)) refl

-- the last coordinate is the end itself
pub last_at : (min max : Float) (n : ℕ) → axis_at min max n n ≡ max
unfolding axis_at
last_at min max n = rw (eq-eqb n n refl)

-- a count that is given is that of the cells, and is from 1 to 4,096
pub count_is : (extent cell : Float) (n : ℕ) → cells_of extent cell ≡ given n → cells_for extent cell ≡ n
unfolding cells_of
count_is extent cell n e =
    given_same (passed (leb (cells_for extent cell) 4096) 7 _ (passed (lt zero64 cell) 6 _ (passed (lt zero64 extent) 5 _ e).1).1).1

pub count_most : (extent cell : Float) (n : ℕ) → cells_of extent cell ≡ given n → (1 ≤ n) × (n ≤ 4096)
unfolding cells_of
count_most extent cell n e =
    let few : cells_for extent cell ≤ 4096 = leb-true _ _ (passed (leb (cells_for extent cell) 4096) 7 (given (cells_for extent cell)) (passed (lt zero64 cell) 6 _ (passed (lt zero64 extent) 5 _ e).1).1).0 in
    let is = count_is extent cell n e in
    (omega (arith, is, some_cell extent cell), omega (arith, is, few))
