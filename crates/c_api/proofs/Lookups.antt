-- What a lookup found stands at its places. Assumes nothing.
use Rattle.std.proofs.Common.{◌≡◌, ℕ, ◌+◌, Bool, List, refl, sym, ap, subst, ◌∙◌}
use Rattle.std.specs.Prelude.{Result, Ok, Err, Option, Some, None, option_map, IfOk, IfSome}
use Rattle.lists.specs.Answer as answers
use Rattle.openrdson_core.specs.Answers.{answer}
use Rattle.openrdson_core.specs.Maps.{placed, place_within, place_from, spanned, span_within, span_from}
use Rattle.openrdson_core.specs.Tech.{via_names, via_layers_within, via_layers_from}
use Rattle.openrdson_core.specs.declared.refusals.Refusal.{Refusal}
use Rattle.openrdson_core.specs.declared.maps.Span.{Span}
use Rattle.openrdson_core.specs.declared.maps.NamePlace.{NamePlace}
use Rattle.openrdson_core.specs.declared.maps.NamePlace.TheVariants as place
use Rattle.openrdson_core.specs.declared.tech.ViaLayers.{ViaLayers}
use Rattle.c_api.specs.Given.{Given, GivenAs, Said}
use Rattle.c_api.specs.Lookups as spec

-- what is given depends on the answer alone
pub same_as : {A B : Type 0} {says : A → B → Type 0} {a b : answers.Answer A} {r : ℕ} {old new : B} → a ≡ b → GivenAs says a r old new → GivenAs says b r old new
same_as {says = says} {old = old} {new = new} e g = record { status = g.status ∙ ap answers.status e; value = subst (λ x. Said says x old new) e g.value }

-- what two facts say of a value together, where there is one
pub both_ok : {V : Type 0} {P Q R : V → Type 0} (r : Result V Refusal) → ((v : V) → P v → Q v → R v) → IfOk r P → IfOk r Q → IfOk r R
both_ok (Ok v) f p q = f v p q
both_ok (Err why) f p q = tt

-- from a value that is given exactly to what it means
pub said_as : {A B V : Type 0} (says : A → B → Type 0) (means : V → A) (gives : V → B) (r : Result V Refusal) {n : ℕ} {old new : B}
    → IfOk r (λ v. says (means v) (gives v)) → Given (answers.map_answer gives (answer r)) n old new → GivenAs says (answers.map_answer means (answer r)) n old new
said_as says means gives (Ok v) w g = record { status = g.status; value = subst (says (means v)) (sym g.value) w }
said_as says means gives (Err why) w g = record { status = g.status; value = g.value }

pub span_stands : (block : List ℕ) (at : Option ℕ) (s : Option Span) → IfSome s (span_within block) → IfSome s (span_from at) → spec.StandsIf block at (option_map (spanned block) s) (spec.span_places s)
span_stands block at (Some p) w f = (refl, w, f)
span_stands block at None w f = refl

pub name_stands : (conducting via asked : List ℕ) (p : Option NamePlace) → IfSome p (place_within conducting via) → IfSome p (place_from conducting via asked)
    → spec.NameStands conducting via asked (option_map (placed conducting via) p) (spec.name_given p)
name_stands conducting via asked (Some (place.Conducting p)) w f = (refl, w, f)
name_stands conducting via asked (Some (place.Via p)) w f = (f.0, (refl, w, f.1))
name_stands conducting via asked None w f = refl

pub via_stands : (vias : List ℕ) (at : Option ℕ) (v : Option ViaLayers) → IfSome v (via_layers_within vias) → IfSome v (via_layers_from at)
    → spec.ViaStands vias at (option_map (via_names vias) v) (spec.via_given v)
via_stands vias at (Some v) w f = (refl, span_stands vias at v.bottom w.0 f.0, span_stands vias (option_map (λ k. k + 32) at) v.top w.1 f.1)
via_stands vias at None w f = refl

pub layer_of : {f : Bool} {h h' t t' : spec.FigureGiven} → h ≡ h' → t ≡ t' → spec.the_layer f h t ≡ spec.the_layer f h' t'
layer_of {f} {h} {h'} {t} {t'} e d = ap (λ x. spec.the_layer f x t) e ∙ ap (λ y. spec.the_layer f h' y) d

pub via_of : {f : Bool} {b b' t t' : spec.Places} → b ≡ b' → t ≡ t' → spec.the_via f b t ≡ spec.the_via f b' t'
via_of {f} {b} {b'} {t} {t'} e d = ap (λ x. spec.the_via f x t) e ∙ ap (λ y. spec.the_via f b' y) d
