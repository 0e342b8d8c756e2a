-- `is_unused_from` meets its contract: what `all` answers of the places from N on. Assumes nothing.
use Rattle.std.proofs.Common.{rules, ◌∙◌, ap, ℕ, eqb, List, length, get_or, drop, take, ◌-◌}
use Rattle.lists.specs.Lists.{all_below}
use Rattle.lists.proofs.Parts.{rest_lent}
use Rattle.lists.proofs.Searches.{all_answers}
use Rattle.openrdson_core.specs.Mesh.{unused}
use Rattle.openrdson_core.proofs.MeshLaws.{rest_is}
use Rattle.openrdson_core.proofs.mesh.Element.is_unused_from.Goals as goal

pub returns : goal.returns
returns g c =
    let ws = c.args.self.places.now in
    let n = g.row.N in
    let rest = take (length ws - n) (drop n ws) in
    all_answers (λ i. eqb (get_or rest i 0) unused) (length rest) _ (search rules) (search rules)
    ∙ ap (λ (l : List ℕ). all_below (length l) (λ i. eqb (get_or l i 0) unused)) (rest_lent ws n)
    ∙ rest_is n ws (search rules) c.args.self.eight
