-- The number of each refusal. include/openrdson.h says what each means.
use Rattle.std.specs.Prelude.{ℕ}
use Rattle.openrdson_core.specs.declared.refusals.Refusal.{Refusal}
use Rattle.openrdson_core.specs.declared.refusals.Refusal.TheVariants as R

abbrev pub refusal_number : Refusal → ℕ
refusal_number R.NumberOutOfRange = 1
refusal_number R.ListTooLong = 2
refusal_number R.TooFewVertices = 3
refusal_number R.ClippingStalled = 4
refusal_number R.DegenerateBox = 5
refusal_number R.CellSizeNotPositive = 6
refusal_number R.TooManyCells = 7
refusal_number R.DegeneratePrism = 8
refusal_number R.DegenerateYExtent = 9
refusal_number R.OddCrossings = 10
refusal_number R.NoTrapezoid = 11
refusal_number R.OutputTooShort = 12
refusal_number R.NodeOutsideMesh = 13
refusal_number R.BlockDamaged = 14
refusal_number R.OutsideList = 15
refusal_number R.UnequalLists = 16
