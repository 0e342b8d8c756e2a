-- `renumbered` meets its contract: the node's key is looked up among those kept, and found. Assumes nothing.
use Rattle.std.proofs.Common.{sym, ◌∙◌, ap, length, take, rules}
use Rattle.meshing.specs.Welds.{found_or}
use Rattle.meshing.proofs.WeldLaws.{no_node, look_up_finds, new_number_lem, number_most}
use Rattle.meshing.proofs.weld.Keyed.renumbered.Goals as goal

pub returns-then-i-self : goal.returns-then-i-self
returns-then-i-self c = let n = c.args.self.nodes in
    no_node c.args.self.tolerance n.xs.now n.ys.now n.zs.now c.args.place c.if-i-self.true

pub unreachable-requires : goal.unreachable-requires
unreachable-requires c = let n = c.args.self.nodes in
    look_up_finds c.args.self.tolerance n.xs.now n.ys.now n.zs.now c.args.place c.requires.kept c.if-i-self.false c.key.ensures c.find.ensures c.in_default.is

pub overflow_cast-result : goal.overflow_cast-result
overflow_cast-result c = let n = c.args.self.nodes in
    let m = number_most c.args.self.tolerance n.xs.now n.ys.now n.zs.now c.requires.kept c.requires.few c.key.result (sym c.in-Some.is ∙ c.find.ensures) in
    search rules

pub returns : goal.returns
returns c = let n = c.args.self.nodes in
    new_number_lem c.args.self.tolerance n.xs.now n.ys.now n.zs.now c.args.place c.requires.kept c.if-i-self.false c.key.ensures (ap (found_or (length (take c.args.kept c.args.out.now.xs.now))) (sym c.in-Some.is ∙ c.find.ensures))
