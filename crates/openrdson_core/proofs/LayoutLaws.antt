-- The two bytes of a layer number, and the row that they find. Assumes nothing.
use Rattle.std.proofs.Common.{◌≡◌, refl, sym, ℕ, ◌+◌, ◌<◌, List, eqb, ℤ, pos, negsuc, arith, Some, w16, of_z}
use Rattle.lists.proofs.Searches.{first_below}
use Rattle.openrdson_core.specs.Bytes.{little}
use Rattle.openrdson_core.specs.Blocks.{count, key_at}
use Rattle.openrdson_core.specs.Layout.{pattern_of, row_of_pattern}
use Rattle.openrdson_core.specs.declared.blocks.Cell.TheVariants.{Number}

-- `layer.cast_unsigned()`
pub pattern_is : (z : ℤ) → of_z w16 z ≡ pattern_of z
pattern_is (pos n) = refl
pattern_is (negsuc n) = omega arith

-- the row found is a row
pub layer_below : (s : List ℕ) (bits i : ℕ) → Some i ≡ row_of_pattern s bits → i < count s
unfolding row_of_pattern
layer_below s bits i e = let h : i < 0 + count s = first_below (λ k. eqb (little (key_at Number s k)) bits) (count s) 0 i (sym e) in omega arith

pub layer_found : (s : List ℕ) (bits i : ℕ) → row_of_pattern s bits ≡ Some i → (row_of_pattern s bits ≡ Some i) × (i < count s)
layer_found s bits i e = (e, layer_below s bits i (sym e))
