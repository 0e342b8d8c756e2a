-- `has_key` meets its contract: numbers of an i64 are told apart by their bits. Assumes nothing.
use Rattle.std.proofs.Common.{sym, ◌∙◌, rules}
use borrow.Author.Tests.{eqb-true, eqb-false}
use Rattle.meshing.proofs.WeldLaws.{other_x, other_y, by_z}
use Rattle.meshing.proofs.weld.Keyed.has_key.Goals as goal
use Rattle.meshing.proofs.weld.Keyed.has_key.Goals.{then-nearest_capped-key, else-nearest_capped-key}

pub returns-then-nearest_capped-key-2 : goal.returns-then-nearest_capped-key-2
returns-then-nearest_capped-key-2 c = let a = c.args in
    let n = a.self.nodes in
    let t = a.self.tolerance in
    let x = c.nearest_capped in
    let z = c.nearest_capped-then-nearest_capped-key-2 in
    elim c.if-nearest_capped-key.branch [
      | then-nearest_capped-key w ↦
          let y = w.nearest_capped-then-nearest_capped-key in
          by_z t n.xs.now n.ys.now n.zs.now a.i a.key x.result x.ensures (search rules) (search rules) w.if-nearest_capped-key.true y.result y.ensures (search rules) (search rules) (eqb-true _ _ (sym w.value-is ∙ c.if-nearest_capped-key-2.true)) z.result z.ensures (search rules) (search rules)
      | else-nearest_capped-key w ↦ absurd (w.if-nearest_capped-key.false (eqb-true _ _ (sym w.value-is ∙ c.if-nearest_capped-key-2.true)))
    ]

pub returns-else-nearest_capped-key-2 : goal.returns-else-nearest_capped-key-2
returns-else-nearest_capped-key-2 c = let a = c.args in
    let n = a.self.nodes in
    let t = a.self.tolerance in
    let x = c.nearest_capped in
    c.if-nearest_capped-key-2.false
    ∙ elim c.if-nearest_capped-key.branch [
      | then-nearest_capped-key w ↦
          let y = w.nearest_capped-then-nearest_capped-key in
          other_y t n.xs.now n.ys.now n.zs.now a.i a.key x.result x.ensures (search rules) (search rules) w.if-nearest_capped-key.true y.result y.ensures (search rules) (search rules) (eqb-false _ _ (sym w.value-is ∙ c.if-nearest_capped-key-2.false))
      | else-nearest_capped-key w ↦ other_x t n.xs.now n.ys.now n.zs.now a.i a.key x.result x.ensures (search rules) (search rules) w.if-nearest_capped-key.false
    ]
