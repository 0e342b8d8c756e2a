-- The layout: the logical name of a layer number, and the marker rule.
use Rattle.std.specs.Prelude.{ℕ, ◌-◌, Bool, ◌||◌, List, [], ◌∷◌, eqb, ℤ, pos, negsuc, Option, option_map}
use Rattle.lists.specs.Answer.{Answer, given, unless}
use Rattle.lists.specs.Lists.{first}
use Rattle.openrdson_core.specs.Bytes.{unpad, little, starts_with, contains}
use Rattle.openrdson_core.specs.Blocks.{count, key_at, value_start, value_at, layer_names_ok}
use Rattle.openrdson_core.specs.declared.blocks.Cell.TheVariants.{Number, Name}

-- a layer number's two bytes, as a number: its two's complement
abbrev pub pattern_of : ℤ → ℕ
pattern_of (pos n) = n
pattern_of (negsuc n) = 65535 - n

-- the first row whose key has these bytes
unfoldable pub row_of_pattern : List ℕ → ℕ → Option ℕ
row_of_pattern s bits = first (λ i. eqb (little (key_at Number s i)) bits) (count s) 0

-- the logical name of a layer, without its padding
abbrev pub name_of_layer : List ℕ → ℤ → Option (List ℕ)
name_of_layer s layer = option_map unpad (option_map (value_at Number Name s) (row_of_pattern s (pattern_of layer)))

-- the same of any bytes: 14 where they are no block of layer names
unfoldable pub layer_name : List ℕ → ℤ → Answer (Option (List ℕ))
layer_name s layer = unless (layer_names_ok s) 14 (given (name_of_layer s layer))

-- where the logical name of a layer starts in the block
abbrev pub start_of_name : List ℕ → ℤ → Option ℕ
start_of_name s layer = option_map (value_start Number Name s) (row_of_pattern s (pattern_of layer))

-- ---- markers: `seed_`, `BLOCK_`, `_prop`, `marker` and `drawing` in ASCII

abbrev pub seed : List ℕ
seed = 115 ∷ 101 ∷ 101 ∷ 100 ∷ 95 ∷ []

abbrev pub block : List ℕ
block = 66 ∷ 76 ∷ 79 ∷ 67 ∷ 75 ∷ 95 ∷ []

abbrev pub prop : List ℕ
prop = 95 ∷ 112 ∷ 114 ∷ 111 ∷ 112 ∷ []

abbrev pub mark : List ℕ
mark = 109 ∷ 97 ∷ 114 ∷ 107 ∷ 101 ∷ 114 ∷ []

abbrev pub drawing : List ℕ
drawing = 100 ∷ 114 ∷ 97 ∷ 119 ∷ 105 ∷ 110 ∷ 103 ∷ []

-- the name starts with `seed_` or `BLOCK_`, or contains `_prop`, `marker` or `drawing`
unfoldable pub is_marker : List ℕ → Bool
is_marker name = starts_with name seed || starts_with name block || contains name prop || contains name mark || contains name drawing
