use Rattle.std.proofs.Common.{◌∙◌, ap, subst}
use Rattle.std.specs.Prelude.{ℤ, option_map, IfOk, IfSome}
use mir.Syntax.{w16}
use mir.ValLaws.{to_z-of_z}
use Rattle.openrdson_core.specs.Maps.{spanned, span_from}
use Rattle.openrdson_core.specs.Layout.{layer_name, start_of_name}
use Rattle.c_api.specs.Lookups.{StandsIf, span_places}
use Rattle.c_api.proofs.Lookups.{same_as, said_as, both_ok, span_stands}
use Rattle.c_api.proofs.blocks.openrdson_layer_name.Goals as goal

pub returns : goal.returns
returns c = let a = c.args in
    let p = c.layer_name in
    let e = to_z-of_z w16 a.layer c.ranges.layer in
    let at = start_of_name a.names.now a.layer in
    same_as (p.ensures.value ∙ ap (layer_name a.names.now) e)
    (said_as (StandsIf a.names.now at) (option_map (spanned a.names.now)) span_places p.result
    (both_ok p.result (span_stands a.names.now at) p.ensures.within (subst (λ (z : ℤ). IfOk p.result (λ s. IfSome s (span_from (start_of_name a.names.now z)))) e p.ensures.start)) c.give_part.ensures)
