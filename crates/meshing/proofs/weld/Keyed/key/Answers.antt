-- `key` meets its contract: number by number. Assumes nothing.
use Rattle.std.proofs.Common.{◌∙◌, rules}
use mir.Syntax.{w64}
use mir.ValLaws.{to_z-of_z}
use Rattle.meshing.specs.Welds.{key_at}
use Rattle.meshing.proofs.WeldLaws.{key_eq}
use Rattle.meshing.proofs.weld.Keyed.key.Goals as goal

pub returns : goal.returns
unfolding key_at
returns c = let x = c.nearest_capped in
    let y = c.nearest_capped-2 in
    let z = c.nearest_capped-3 in
    key_eq _ _ _ _ _ _ (to_z-of_z w64 x.result (search rules) ∙ x.ensures) (to_z-of_z w64 y.result (search rules) ∙ y.ensures) (to_z-of_z w64 z.result (search rules) ∙ z.ensures)
