-- `is_clear` meets its contract: what std's `all` answers. Assumes nothing.
use Rattle.std.proofs.Common.{rules, tests, arith, length, ◌<◌, ◌∙◌}
use Rattle.std.proofs.lemmas.Grind.{get_or_default_zero}
use Rattle.std.proofs.lemmas.Iterator.{YieldsList-from_slice}
use Rattle.std.proofs.lemmas.Iterator.Adapters.{serves_from_places}
use Rattle.lists.proofs.Searches.{all_answers}
use Rattle.meshing.specs.Ears.{is_clear}
use Rattle.meshing.proofs.EarLaws.{free}
use Rattle.meshing.proofs.ears.is_clear.Goals as goal

pub all-requires-clause-callable : goal.all-requires-clause-callable
all-requires-clause-callable c = let a = c.args in
    let vs = a.walk.vertices.now in
    serves_from_places (YieldsList-from_slice vs cc) (λ x q k. search (rules, tests))
    (λ x k l e. let below : x.now < length a.walk.ring.xs.now = omega (arith, a.walk.below k l, e ∙ get_or_default_zero vs k x.now l) in search (rules, below))

pub returns : goal.returns
unfolding is_clear
returns c = let a = c.args in
    all_answers (free a.walk.ring.xs.now a.walk.ring.ys.now a.walk.vertices.now a.a a.b a.c) (length a.walk.vertices.now) _ (search rules) (search rules)
