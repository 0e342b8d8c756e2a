-- What the lookups give back through references: names as places in the lent blocks, and the figures of a stack layer. A function `the_x` makes the
-- record X of its fields in order.
use Rattle.std.specs.Prelude.{ℕ, zero, suc, ◌+◌, ◌≤◌, ◌≡◌, Bool, true, false, List, Float, length, Option, Some, None, option_map}
use Rattle.lists.specs.Lists.{part}
use Rattle.binary64.specs.Constants.{zero64}
use Rattle.openrdson_core.specs.Maps.{start_in_map}
use Rattle.openrdson_core.specs.Tech.{ViaNames}
use Rattle.openrdson_core.specs.declared.maps.Span.{Span}
use Rattle.openrdson_core.specs.declared.maps.NamePlace.{NamePlace}
use Rattle.openrdson_core.specs.declared.maps.NamePlace.TheVariants as place
use Rattle.openrdson_core.specs.declared.tech.Figures.{Figures}
use Rattle.openrdson_core.specs.declared.tech.ViaLayers.{ViaLayers}

-- ---- a part of a block: a start and a count, both 0 for none

pub record Places : Type 0 where
  pub start : ℕ
  pub count : ℕ

abbrev pub the_places : ℕ → ℕ → Places
the_places s n = record { start = s; count = n }

-- the bytes of a block at these places
abbrev pub bytes_at : List ℕ → Places → List ℕ
bytes_at block p = part p.start p.count block

-- that these places all lie in the block
abbrev pub places_in : List ℕ → Places → Type 0
places_in block p = p.start + p.count ≤ length block

-- the places of a span, both numbers 0 for none
abbrev pub span_places : Option Span → Places
span_places (Some p) = the_places p.start p.count
span_places None = the_places 0 0

-- the name stands at the places, which lie in the block and start at `at`
abbrev pub Stands : List ℕ → Option ℕ → List ℕ → Places → Type 0
Stands block at name p = (bytes_at block p ≡ name) × places_in block p × (at ≡ Some p.start)

-- the same of a name that may be absent: both numbers are 0 then
abbrev pub StandsIf : List ℕ → Option ℕ → Option (List ℕ) → Places → Type 0
StandsIf block at None p = p ≡ the_places 0 0
StandsIf block at (Some name) p = Stands block at name p

-- ---- a physical name: block 0 none, 1 the conducting map, 2 the via map

pub record NameAt : Type 0 where
  pub block : ℕ
  pub places : Places

abbrev pub the_name : ℕ → ℕ → ℕ → NameAt
the_name b s n = record { block = b; places = the_places s n }

-- the name stands in the map with this number, 1 or 2, at the cell that the map has for the name asked; it is the via map only where the conducting map
-- has none
abbrev pub StandsIn : List ℕ → List ℕ → List ℕ → List ℕ → ℕ → Places → Type 0
StandsIn conducting via asked name zero p = ⊥
StandsIn conducting via asked name (suc zero) p = Stands conducting (start_in_map conducting asked) name p
StandsIn conducting via asked name (suc (suc zero)) p = (start_in_map conducting asked ≡ None) × Stands via (start_in_map via asked) name p
StandsIn conducting via asked name (suc (suc (suc n))) p = ⊥

-- the same of a name that may be absent: all three numbers are 0 then
abbrev pub NameStands : List ℕ → List ℕ → List ℕ → Option (List ℕ) → NameAt → Type 0
NameStands conducting via asked None a = a ≡ the_name 0 0 0
NameStands conducting via asked (Some name) a = StandsIn conducting via asked name a.block a.places

-- what is given of a name's place
abbrev pub name_given : Option NamePlace → NameAt
name_given (Some (place.Conducting p)) = the_name 1 p.start p.count
name_given (Some (place.Via p)) = the_name 2 p.start p.count
name_given None = the_name 0 0 0

-- ---- a stack layer: an absent figure is 0, and so are both where no layer is found

pub record FigureGiven : Type 0 where
  pub present : Bool
  pub figure : Float

abbrev pub the_figure : Bool → Float → FigureGiven
the_figure p x = record { present = p; figure = x }

abbrev pub figure_given : Option Float → FigureGiven
figure_given None = the_figure false zero64
figure_given (Some x) = the_figure true x

pub record LayerGiven : Type 0 where
  pub found : Bool
  pub height : FigureGiven
  pub thickness : FigureGiven

abbrev pub the_layer : Bool → FigureGiven → FigureGiven → LayerGiven
the_layer f h t = record { found = f; height = h; thickness = t }

-- what is given of a layer's figures
abbrev pub layer_given : Option Figures → LayerGiven
layer_given None = the_layer false (the_figure false zero64) (the_figure false zero64)
layer_given (Some l) = the_layer true (figure_given l.height) (figure_given l.thickness)

-- ---- a via's layers, as places in the vias block

pub record ViaAt : Type 0 where
  pub found : Bool
  pub bottom : Places
  pub top : Places

abbrev pub the_via : Bool → Places → Places → ViaAt
the_via f b t = record { found = f; bottom = b; top = t }

-- the layers of a via, the top's 32 bytes past the bottom's; all numbers are 0 where there is none
abbrev pub ViaStands : List ℕ → Option ℕ → Option ViaNames → ViaAt → Type 0
ViaStands vias at None v = v ≡ the_via false (the_places 0 0) (the_places 0 0)
ViaStands vias at (Some names) v = (v.found ≡ true) × StandsIf vias at names.bottom v.bottom × StandsIf vias (option_map (λ k. k + 32) at) names.top v.top

-- what is given of a via's layers
abbrev pub via_given : Option ViaLayers → ViaAt
via_given (Some l) = the_via true (span_places l.bottom) (span_places l.top)
via_given None = the_via false (the_places 0 0) (the_places 0 0)
