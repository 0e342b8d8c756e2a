-- `name_length` meets its contract: what `position` answers. Assumes nothing.
use Rattle.std.proofs.Common.{rules, ◌≡◌, ◌∙◌, eqb, length, ap, Option, ℕ, unwrap_or}
use Rattle.lists.specs.Lists.{first}
use Rattle.lists.proofs.Searches.{first_answers}
use Rattle.openrdson_core.specs.Bytes.{byte_at, name_length}
use Rattle.openrdson_core.proofs.bytes.name_length.Goals as goal

pub returns-clause-value : goal.returns-clause-value
unfolding name_length
returns-clause-value c =
    let e : c.position.result ≡ first (λ i. eqb (byte_at c.args.c.now i) 0) (length c.args.c.now) 0 = first_answers (λ i. eqb (byte_at c.args.c.now i) 0) (length c.args.c.now) _ (search rules) (search rules) in
    let v : c.unwrap_or.result ≡ unwrap_or c.position.result (length c.args.c.now) = search rules in
    v ∙ ap (λ (o : Option ℕ). unwrap_or o (length c.args.c.now)) e
