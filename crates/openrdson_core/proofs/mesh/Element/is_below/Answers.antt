-- `is_below` meets its contract: what `all` answers of the first N places. Assumes nothing.
use Rattle.std.proofs.Common.{rules, ◌∙◌, ap, ℕ, ltb, List, length, get_or, take, ◌-◌}
use Rattle.lists.specs.Lists.{all_below}
use Rattle.lists.proofs.Parts.{head_lent}
use Rattle.lists.proofs.Searches.{all_answers}
use Rattle.openrdson_core.proofs.MeshLaws.{first_are}
use Rattle.openrdson_core.proofs.mesh.Element.is_below.Goals as goal

pub returns : goal.returns
returns g c =
    let ws = c.args.self.places.now in
    let nodes = c.args.nodes in
    let n = g.row.N in
    let head = take (n - 0) ws in
    all_answers (λ i. ltb (get_or head i 0) nodes) (length head) _ (search rules) (search rules)
    ∙ ap (λ (l : List ℕ). all_below (length l) (λ i. ltb (get_or l i 0) nodes)) (head_lent ws n)
    ∙ first_are n nodes ws (search rules)
