-- `find` meets its contract: the two names are the halves of the value. Assumes nothing.
use Rattle.std.proofs.Common.{◌≡◌, ◌∙◌, ◌+◌, ◌*◌, ℕ, ap, arith}
use Rattle.lists.specs.Lists.{part}
use Rattle.lists.proofs.Parts.{part_of_part}
use Rattle.openrdson_core.proofs.tech.Vias.find.Goals as goal

pub returns-clause-value : goal.returns-clause-value
returns-clause-value c =
    let s = c.args.self.bytes.now in
    let start : ℕ = 2 + c.rows.result * 32 + c.in_ok-i.i * 64 in
    let low : part 0 32 (part start 64 s) ≡ part start 32 s = part_of_part s start 0 32 64 (omega arith) ∙ (let e : start + 0 ≡ start = omega arith in ap (λ (k : ℕ). part k 32 s) e) in
    let high : part 32 32 (part start 64 s) ≡ part (start + 32) 32 s = part_of_part s start 32 32 64 (omega arith) in
    grind (arith, low, high)
