-- `is_zero` meets its contract: what `all` answers. Assumes nothing.
use Rattle.std.proofs.Common.{rules, eqb, length}
use Rattle.lists.proofs.Searches.{all_answers}
use Rattle.openrdson_core.specs.Bytes.{byte_at, zeros}
use Rattle.openrdson_core.proofs.bytes.is_zero.Goals as goal

pub returns : goal.returns
unfolding zeros
returns c = all_answers (λ i. eqb (byte_at c.args.c.now i) 0) (length c.args.c.now) _ (search rules) (search rules)
