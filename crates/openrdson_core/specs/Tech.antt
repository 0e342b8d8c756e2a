-- The stack: conductors, diffusions and vias by name, material numbers, and what the blocks must be.
use Rattle.std.specs.Prelude.{ℕ, ◌+◌, ◌≡◌, Bool, true, not, ◌&&◌, ◌||◌, cond, List, Float, Option, Some, None, option_map, IfSome}
use Rattle.std.specs.Float.{binary64}
use Rattle.std.specs.Float.Ieee.{of_bits}
use Rattle.lists.specs.Answer.{Answer, given, unless}
use Rattle.lists.specs.Lists.{part, all_below}
use Rattle.binary64.specs.Numbers.{at_most}
use Rattle.openrdson_core.specs.Bytes.{zeros, unpad, little}
use Rattle.openrdson_core.specs.Blocks.{has_height, has_thickness, count, value_start, value_at, layer_names_ok, map_ok, stack_ok, vias_ok, row_of, entry_of}
use Rattle.openrdson_core.specs.Maps.{spanned, span_within, span_from}
use Rattle.openrdson_core.specs.declared.blocks.Cell.TheVariants as cell
use Rattle.openrdson_core.specs.declared.tech.Figures.{Figures}
use Rattle.openrdson_core.specs.declared.tech.Blocks.{Blocks as Lent}
use Rattle.openrdson_core.specs.declared.tech.ViaLayers.{ViaLayers}

-- ---- a stack entry's figures

-- eight bytes as a binary64
abbrev pub float_of : List ℕ → Float
float_of c = of_bits binary64 (little c)

-- the figure in these bytes, if it is present
abbrev pub figure_of : Bool → List ℕ → Option Float
figure_of present c = cond present (Some (float_of c)) None

-- height and thickness, each if present
abbrev pub figures_of : List ℕ → Figures
figures_of c = record { height = figure_of (has_height c) (part 1 8 c); thickness = figure_of (has_thickness c) (part 9 8 c) }

-- a present figure is finite and at most 2^19 in size
unfoldable pub figures_in : List ℕ → Bool
figures_in c = (not (has_height c) || at_most 19 (float_of (part 1 8 c))) && (not (has_thickness c) || at_most 19 (float_of (part 9 8 c)))

-- so are those of every entry of a block
unfoldable pub stack_in : List ℕ → Bool
stack_in s = all_below (count s) (λ i. figures_in (value_at cell.Name cell.Figures s i))

-- the conductor or the diffusion of a name, the first of equal names: 14, 1
unfoldable pub stack_layer : List ℕ → List ℕ → Answer (Option Figures)
stack_layer s name =
    unless (stack_ok s) 14
    (unless (stack_in s) 1
    (given (option_map figures_of (entry_of cell.Figures s name))))

-- ---- a via's layers

-- a name without its padding, absent where all bytes are zero
abbrev pub end_name : List ℕ → Option (List ℕ)
end_name c = cond (zeros c) None (Some (unpad c))

-- the names of a via's layers, each if it has one
pub record ViaNames : Type 0 where
  pub bottom : Option (List ℕ)
  pub top : Option (List ℕ)

abbrev pub via_names_of : List ℕ → ViaNames
via_names_of c = record { bottom = end_name (part 0 32 c); top = end_name (part 32 32 c) }

-- the via of a name, the first of equal names: 14
unfoldable pub via_layers : List ℕ → List ℕ → Answer (Option ViaNames)
via_layers s name = unless (vias_ok s) 14 (given (option_map via_names_of (entry_of cell.Ends s name)))

-- where the name of the bottom layer starts in the block; the top's starts 32 bytes further
abbrev pub start_of_ends : List ℕ → List ℕ → Option ℕ
start_of_ends s name = option_map (value_start cell.Name cell.Ends s) (row_of s name)

-- ---- materials: conductors, diffusions, then vias; a name's number is its first place plus 1, and 0 where it has none

-- the number of the row found, after so many rows of other blocks; other where none is found
abbrev pub number_from : ℕ → Option ℕ → ℕ → ℕ
number_from before None other = other
number_from before (Some i) other = before + i + 1

unfoldable pub material_of : List ℕ → List ℕ → List ℕ → List ℕ → ℕ
material_of conductors diffusions vias name =
    number_from 0 (row_of conductors name)
    (number_from (count conductors) (row_of diffusions name)
    (number_from (count conductors + count diffusions) (row_of vias name) 0))

-- 14 in the order conductors, diffusions, vias
unfoldable pub material_number : List ℕ → List ℕ → List ℕ → List ℕ → Answer ℕ
material_number conductors diffusions vias name =
    unless (stack_ok conductors) 14
    (unless (stack_ok diffusions) 14
    (unless (vias_ok vias) 14
    (given (material_of conductors diffusions vias name))))

-- ---- the six blocks: 14 in their order, then 1 for stack figures
unfoldable pub blocks_fault : List ℕ → List ℕ → List ℕ → List ℕ → List ℕ → List ℕ → Answer (Unit {0})
blocks_fault names conducting via conductors diffusions vias =
    unless (layer_names_ok names) 14
    (unless (map_ok conducting) 14
    (unless (map_ok via) 14
    (unless (stack_ok conductors) 14
    (unless (stack_ok diffusions) 14
    (unless (vias_ok vias) 14
    (unless (stack_in conductors) 1
    (unless (stack_in diffusions) 1 (given tt))))))))

-- ---- the six blocks together

pub record Blocks : Type 0 where
  pub names : List ℕ
  pub conducting : List ℕ
  pub via : List ℕ
  pub conductors : List ℕ
  pub diffusions : List ℕ
  pub vias : List ℕ

abbrev pub the_blocks : List ℕ → List ℕ → List ℕ → List ℕ → List ℕ → List ℕ → Blocks
the_blocks names conducting via conductors diffusions vias =
    record { names = names; conducting = conducting; via = via; conductors = conductors; diffusions = diffusions; vias = vias }

-- what lent blocks hold
abbrev pub bytes_of : Lent → Blocks
bytes_of b = the_blocks b.names.now b.conducting.now b.via.now b.conductors.now b.diffusions.now b.vias.now

-- what they are refused for
abbrev pub fault_of : Blocks → Answer (Unit {0})
fault_of b = blocks_fault b.names b.conducting b.via b.conductors b.diffusions b.vias

-- none of them is damaged
pub record Sound (b : Blocks) : Type 0 where
  pub names : layer_names_ok b.names ≡ true
  pub conducting : map_ok b.conducting ≡ true
  pub via : map_ok b.via ≡ true
  pub conductors : stack_ok b.conductors ≡ true
  pub diffusions : stack_ok b.diffusions ≡ true
  pub vias : vias_ok b.vias ≡ true

-- ---- what a via's spans say

-- the names that the spans are
abbrev pub via_names : List ℕ → ViaLayers → ViaNames
via_names s v = record { bottom = option_map (spanned s) v.bottom; top = option_map (spanned s) v.top }

-- the spans lie in the block
abbrev pub via_layers_within : List ℕ → ViaLayers → Type 0
via_layers_within s v = IfSome v.bottom (span_within s) × IfSome v.top (span_within s)

-- the bottom's span starts at this place, the top's 32 bytes further
abbrev pub via_layers_from : Option ℕ → ViaLayers → Type 0
via_layers_from at v = IfSome v.bottom (span_from at) × IfSome v.top (span_from (option_map (λ k. k + 32) at))
