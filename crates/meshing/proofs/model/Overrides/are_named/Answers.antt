-- `are_named` meets its contract: what std's `all` tells. Assumes nothing.
use Rattle.std.proofs.Common.{rules, ◌≡◌, true, false}
use Rattle.std.proofs.lemmas.Iterator.{cases_from_all, YieldsList-from_slice}
use borrow.Author.Tests.{tests}
use Rattle.meshing.specs.Models.{named}
use Rattle.meshing.proofs.ModelLaws.{all_decides}
use Rattle.meshing.proofs.model.Overrides.are_named.Goals as goal

pub returns : goal.returns
returns c = all_decides named c.args.self.materials.now 0 c.all.result
    (cases_from_all _ _ _ (λ x. named x ≡ true) (λ x. named x ≡ false) c.all.ensures.ran (YieldsList-from_slice c.args.self.materials.now cc) (λ x q k. search (rules, tests)) (λ x q k. search (rules, tests)))
