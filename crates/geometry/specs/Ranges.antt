-- The range of heights of a physical name.
use Rattle.std.specs.Prelude.{ℕ, List, Float, Option, Some, None, option_map}
use Rattle.binary64.specs.Numbers.{◌⊕◌}
use Rattle.openrdson_core.specs.Blocks.{entry_of}
use Rattle.openrdson_core.specs.Tech.{figures_of, ViaNames, via_names_of}
use Rattle.openrdson_core.specs.declared.blocks.Cell.TheVariants as cell
use Rattle.openrdson_core.specs.declared.tech.Figures.{Figures}
use Rattle.openrdson_core.specs.declared.solids.Heights.{Heights}

-- a bottom and a top, if there are any
abbrev pub Range : Type 0
Range = Option Heights

-- height to height + thickness, where both are present
abbrev pub from_to : Option Float → Option Float → Range
from_to None t = None
from_to (Some h) None = None
from_to (Some h) (Some t) = Some (record { bottom = h; top = h ⊕ t })

-- of a conductor or a diffusion, where there is one
abbrev pub figures_range : Option Figures → Range
figures_range None = None
figures_range (Some f) = from_to f.height f.thickness

-- the conductor's, else the diffusion's; a conductor with a missing figure ends the search
abbrev pub first_range : Option Figures → Range → Range
first_range None other = other
first_range (Some c) other = from_to c.height c.thickness

-- of the diffusion of a name
unfoldable pub diffusion_range : List ℕ → List ℕ → Range
diffusion_range diffusions name = figures_range (option_map figures_of (entry_of cell.Figures diffusions name))

-- of the conductor of a name, else of the diffusion
unfoldable pub layer_range : List ℕ → List ℕ → List ℕ → Range
layer_range conductors diffusions name = first_range (option_map figures_of (entry_of cell.Figures conductors name)) (diffusion_range diffusions name)

-- the range of the layer at an end of a via, where it names one
abbrev pub end_range : List ℕ → List ℕ → Option (List ℕ) → Range
end_range conductors diffusions None = None
end_range conductors diffusions (Some name) = layer_range conductors diffusions name

-- top of the bottom layer to bottom of the top layer
abbrev pub between : Range → Range → Range
between None t = None
between (Some b) None = None
between (Some b) (Some t) = Some (record { bottom = b.top; top = t.bottom })

-- of a via, by its two layers
abbrev pub via_range : List ℕ → List ℕ → ViaNames → Range
via_range conductors diffusions v = between (end_range conductors diffusions v.bottom) (end_range conductors diffusions v.top)

-- a name that is a via's takes the via rule
abbrev pub range_by : List ℕ → List ℕ → List ℕ → Option ViaNames → Range
range_by conductors diffusions name None = layer_range conductors diffusions name
range_by conductors diffusions name (Some v) = via_range conductors diffusions v

-- of a physical name
unfoldable pub stack_range : List ℕ → List ℕ → List ℕ → List ℕ → Range
stack_range conductors diffusions vias name = range_by conductors diffusions name (option_map via_names_of (entry_of cell.Ends vias name))
