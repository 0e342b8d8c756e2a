-- `is_block` meets its contract. Assumes nothing.
use Rattle.std.proofs.Common.{◌≡◌, ◌∙◌, ◌+◌, ◌*◌, ℕ, ap, arith}
use Rattle.lists.specs.Lists.{part}
use Rattle.openrdson_core.specs.Blocks.{block_ok, count, key_at, distinct}
use Rattle.openrdson_core.proofs.blocks.is_block.Goals as goal

pub returns-else-not-once : goal.returns-else-not-once
unfolding block_ok
returns-else-not-once c =
    let keys : c.are_distinct.result ≡ distinct (count c.args.s.now) (key_at c.args.key c.args.s.now) = c.are_distinct.ensures ∙ ap (λ (n : ℕ). distinct n (λ i. part (2 + i * c.width-k.result) c.width-k.result c.args.s.now)) c.rows-n.ensures ∙ ap (λ (w : ℕ). distinct (count c.args.s.now) (λ i. part (2 + i * w) w c.args.s.now)) c.width-k.ensures.value in
    grind (arith, keys)
