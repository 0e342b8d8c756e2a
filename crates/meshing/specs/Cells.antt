-- Cells and coordinates on an axis, each operation rounded once in the Rust's order.
use Rattle.std.specs.Prelude.{ℕ, ◌&&◌, cond, eqb, leb, pos, Float}
use Rattle.std.specs.Float.{binary64}
use Rattle.std.specs.Float.Ieee.{of_bits, of_int, lt}
use Rattle.lists.specs.Answer.{Answer, given, unless, and_then}
use Rattle.binary64.specs.Numbers.{◌⊕◌, ◌⊖◌, ◌⊗◌, ◌⊘◌, at_most}
use Rattle.binary64.specs.Constants.{zero64}
use Rattle.binary64.specs.Rounding.{ceil_capped}
use Rattle.meshing.specs.declared.cells.MeshConfig.{MeshConfig}

-- the cell sizes that are used where none are named: 1e-6 across and 0.1e-6 in height
abbrev pub default_config : MeshConfig
default_config = record { lateral_cell = of_bits binary64 0x3eb0_c6f7_a0b5_ed8d; z_cell = of_bits binary64 0x3e7a_d7f2_9abc_af48 }

-- 1 - 1e-12: a quotient that is a whole number but for its rounding is not rounded up
abbrev pub almost_one : Float
almost_one = of_bits binary64 0x3fef_ffff_ffff_dcd1

-- a whole number as a binary64
abbrev pub real : ℕ → Float
real n = of_int binary64 (pos n)

-- extent / cell, times (1 - 1e-12), rounded up, at least 1
unfoldable pub cells_for : Float → Float → ℕ
cells_for extent cell = let n = ceil_capped ((extent ⊘ cell) ⊗ almost_one) in cond (leb n 1) 1 n

-- the cells of an extent, both known to be in range: 5, 6, 7
unfoldable pub cells_of : Float → Float → Answer ℕ
cells_of extent cell =
    unless (lt zero64 extent) 5
    (unless (lt zero64 cell) 6
    (unless (leb (cells_for extent cell) 4096) 7
    (given (cells_for extent cell))))

-- the cell count: 1, 5, 6, 7; an extent may be 2^21
unfoldable pub cell_count : Float → Float → Answer ℕ
cell_count extent cell = unless (at_most 21 extent && at_most 20 cell) 1 (cells_of extent cell)

-- min + (max - min) / n × i; the last, at n, is exactly max
unfoldable pub axis_at : Float → Float → ℕ → ℕ → Float
axis_at min max n i = cond (eqb i n) max (min ⊕ ((max ⊖ min) ⊘ real n) ⊗ real i)

-- the coordinate at a place of an axis: 1, 5, 6, 7, and 15 for a place past the last
unfoldable pub axis_coordinate : Float → Float → Float → ℕ → Answer Float
axis_coordinate min max cell place =
    unless (at_most 20 min && at_most 20 max && at_most 20 cell) 1
    (and_then (cells_of (max ⊖ min) cell) (λ n.
    unless (leb place n) 15
    (given (axis_at min max n place))))
