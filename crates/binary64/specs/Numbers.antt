-- binary64 numbers: the four operations, each rounded once to the nearest value, ties to even (IEEE 754), the size of a number, and which numbers are
-- admitted.
use Rattle.std.specs.Prelude.{ℕ, ◌*◌, ◌^◌, Bool, false, cond, List, nat_le, slice_index_or, Float}
use Rattle.std.specs.Float.{nan, inf, fin, binary64}
use Rattle.std.specs.Float.Ieee.{up, down, add, sub, mul, div, lt}

infixl 65 ◌⊕◌
infixl 65 ◌⊖◌
infixl 70 ◌⊗◌
infixl 70 ◌⊘◌
-- a + b, a - b, a * b and a / b, rounded once
abbrev pub ◌⊕◌ : Float → Float → Float
a ⊕ b = add binary64 a b

abbrev pub ◌⊖◌ : Float → Float → Float
a ⊖ b = sub binary64 a b

abbrev pub ◌⊗◌ : Float → Float → Float
a ⊗ b = mul binary64 a b

abbrev pub ◌⊘◌ : Float → Float → Float
a ⊘ b = div binary64 a b

-- the number at place i of a list
abbrev pub at : List Float → ℕ → Float
at l i = slice_index_or l i nan

-- finite and at most 2 ^ k in size; fin s m e is m * up e / down e in size
unfoldable pub at_most : ℕ → Float → Bool
at_most k nan = false
at_most k (inf s) = false
at_most k (fin s m e) = nat_le (m * up e) (2 ^ k * down e)

-- the sign cleared
unfoldable pub abs : Float → Float
abs nan = nan
abs (inf s) = inf false
abs (fin s m e) = fin false m e

-- the larger of two numbers, the first of two that are equal
abbrev pub larger : Float → Float → Float
larger a b = cond (lt a b) b a
