-- The words of an answer.
use Rattle.std.specs.Prelude.{ℕ, List, [], ◌∷◌, Bool, cond, Option, Some, None, Float}
use Rattle.openrdson_core.specs.declared.maps.Span.{Span}
use Rattle.openrdson_core.specs.declared.maps.NamePlace.{NamePlace}
use Rattle.openrdson_core.specs.declared.maps.NamePlace.TheVariants as place
use Rattle.openrdson_core.specs.declared.tech.Figures.{Figures}
use Rattle.openrdson_core.specs.declared.tech.ViaLayers.{ViaLayers}
use Rattle.records.specs.Words.{bits_of}

-- The words of an accepted call: 0, five values and two zeros.
abbrev pub given : ℕ → ℕ → ℕ → ℕ → ℕ → List ℕ
given a b c d e = 0 ∷ a ∷ b ∷ c ∷ d ∷ e ∷ 0 ∷ 0 ∷ []

-- The words of a refusal: its number and seven zeros.
abbrev pub refused : ℕ → List ℕ
refused n = n ∷ 0 ∷ 0 ∷ 0 ∷ 0 ∷ 0 ∷ 0 ∷ 0 ∷ []

-- 1 for true, 0 for false.
abbrev pub bit : Bool → ℕ
bit b = cond b 1 0

-- Whether a figure is present, and its bits, 0 where it is absent.
abbrev pub present : Option Float → ℕ
present (Some _) = 1
present None = 0

abbrev pub figure_bits : Option Float → ℕ
figure_bits (Some x) = bits_of x
figure_bits None = 0

-- 1, and of each figure whether it is present, and its bits.
abbrev pub of_figures : Figures → List ℕ
of_figures f = given 1 (present f.height) (figure_bits f.height) (present f.thickness) (figure_bits f.thickness)

-- A part's start and count, 0 where there is none.
abbrev pub part_start : Option Span → ℕ
part_start (Some p) = p.start
part_start None = 0

abbrev pub part_count : Option Span → ℕ
part_count (Some p) = p.count
part_count None = 0

-- 1, and the parts of the bottom and the top layer's name.
abbrev pub of_layers : ViaLayers → List ℕ
of_layers l = given 1 (part_start l.bottom) (part_count l.bottom) (part_start l.top) (part_count l.top)

-- The number of a name's map, and the part's start and count.
abbrev pub of_name : NamePlace → List ℕ
of_name (place.Conducting p) = given 1 p.start p.count 0 0
of_name (place.Via p) = given 2 p.start p.count 0 0
