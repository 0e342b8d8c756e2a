-- A stacking as C sees it, from what the call leaves and what is given of its answer. Assumes nothing.
use Rattle.std.proofs.Common.{ℕ, List, subst}
use Rattle.std.specs.Prelude.{Result}
use Rattle.openrdson_core.specs.Answers.{answer}
use Rattle.openrdson_core.specs.declared.refusals.Refusal.{Refusal}
use Rattle.lists.specs.Answer.{Answer}
use Rattle.geometry.specs.Regions.{Regions}
use Rattle.geometry.specs.Stack.{Stacking, Leaves}
use Rattle.c_api.specs.Given.{Given}
use Rattle.c_api.specs.Stacks.{GivenRows}

pub given_rows : {a : Answer Stacking} {stacked : Result ℕ Refusal} {r n n' : ℕ} {rows rows' : Regions} {outcomes outcomes' : List ℕ}
    → Leaves a rows rows' outcomes outcomes' stacked → Given (answer stacked) r n n' → GivenRows a r n n' rows rows' outcomes outcomes'
given_rows {r = r} {n = n} {n' = n'} l g = record { count = subst (λ (x : Answer ℕ). Given x r n n') l.count g; regions = l.rows; told = l.told }
