-- Calls on a solid depend on the solid alone. Assumes nothing.
use mathlib.Core.Path.{◌≡◌, ap, ◌∙◌}
use mathlib.Core.List.{List}
use lib.Ieee.{Float}
use Rattle.lists.specs.Answer.{Answer}
use Rattle.openrdson_core.specs.Solids.{of_solid, footprint, volume}
use Rattle.openrdson_core.specs.declared.bounds.Bbox.{Bbox}
use Rattle.openrdson_core.specs.declared.solids.Solid.{Solid}

pub volume_of : (xs ys : List Float) {a : Answer Float} {s t : Solid} → s ≡ t → a ≡ of_solid xs ys s (volume xs ys s) → a ≡ of_solid xs ys t (volume xs ys t)
volume_of xs ys e h = h ∙ ap (λ s. of_solid xs ys s (volume xs ys s)) e

pub footprint_of : (xs ys : List Float) {a : Answer Bbox} {s t : Solid} → s ≡ t → a ≡ of_solid xs ys s (footprint xs ys s) → a ≡ of_solid xs ys t (footprint xs ys t)
footprint_of xs ys e h = h ∙ ap (λ s. of_solid xs ys s (footprint xs ys s)) e
