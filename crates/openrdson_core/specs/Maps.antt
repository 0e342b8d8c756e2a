-- The name lookup: the conducting map is asked first, then the via map.
use Rattle.std.specs.Prelude.{ℕ, ◌+◌, ◌≤◌, ◌≡◌, List, [], length, Option, Some, None, option_map}
use Rattle.std.specs.Option.{option_or}
use Rattle.lists.specs.Answer.{Answer, refused, given, unless}
use Rattle.lists.specs.Lists.{part}
use Rattle.openrdson_core.specs.Bytes.{unpad}
use Rattle.openrdson_core.specs.Blocks.{value_start, map_ok, row_of, entry_of}
use Rattle.openrdson_core.specs.declared.blocks.Cell.TheVariants.{Name}
use Rattle.openrdson_core.specs.declared.maps.Span.{Span}
use Rattle.openrdson_core.specs.declared.maps.NamePlace.{NamePlace}
use Rattle.openrdson_core.specs.declared.maps.NamePlace.TheVariants as place

-- the physical name that one map has for a logical one, without its padding
abbrev pub in_map : List ℕ → List ℕ → Option (List ℕ)
in_map s name = option_map unpad (entry_of Name s name)

-- where the physical name of a logical one starts in a map
abbrev pub start_in_map : List ℕ → List ℕ → Option ℕ
start_in_map s name = option_map (value_start Name Name s) (row_of s name)

-- 14 in conducting, then via; else the physical name, if a map has one
unfoldable pub lookup : List ℕ → List ℕ → List ℕ → Answer (Option (List ℕ))
lookup conducting via name =
    unless (map_ok conducting) 14
    (unless (map_ok via) 14
    (given (option_or (in_map conducting name) (in_map via name))))

-- the physical name that a lookup gives, empty unless one is found
abbrev pub part_of : Answer (Option (List ℕ)) → List ℕ
part_of (given (Some p)) = p
part_of (given None) = []
part_of (refused n) = []

-- ---- what the spans say

-- the bytes of a span of the block
abbrev pub spanned : List ℕ → Span → List ℕ
spanned s p = part p.start p.count s

-- the span lies in the block
abbrev pub span_within : List ℕ → Span → Type 0
span_within s p = p.start + p.count ≤ length s

-- the span starts at this place
abbrev pub span_from : Option ℕ → Span → Type 0
span_from at p = at ≡ Some p.start

-- the bytes of a place in the one map or the other
abbrev pub placed : List ℕ → List ℕ → NamePlace → List ℕ
placed conducting via (place.Conducting p) = spanned conducting p
placed conducting via (place.Via p) = spanned via p

-- the place lies in its map
abbrev pub place_within : List ℕ → List ℕ → NamePlace → Type 0
place_within conducting via (place.Conducting p) = span_within conducting p
place_within conducting via (place.Via p) = span_within via p

-- the conducting map is asked first: a place in it starts where its physical name does; a place in the via map means that the conducting map has none
abbrev pub place_from : List ℕ → List ℕ → List ℕ → NamePlace → Type 0
place_from conducting via name (place.Conducting p) = span_from (start_in_map conducting name) p
place_from conducting via name (place.Via p) = (start_in_map conducting name ≡ None) × span_from (start_in_map via name) p
