-- `weld_nodes` meets its contract: each way out is a row of the definition. Assumes nothing.
use Rattle.std.proofs.Common.{◌≡◌, true, false, sym, ap, ◌∙◌, arith}
use Rattle.std.proofs.lemmas.Grind.{common_steps}
use Rattle.binary64.specs.Numbers.{at_most}
use Rattle.openrdson_core.specs.Mesh.{read, held, parallel}
use Rattle.meshing.proofs.WholeLaws.{fault_by_size, fault_by_number, fault_by_contents}
use Rattle.meshing.specs.Whole.{contents_fault}
use Rattle.meshing.proofs.WeldLaws.{weld_uneven, weld_faulty, weld_follows}
use Rattle.meshing.proofs.weld.weld_nodes.Goals as goal

pub returns-then-not-is_parallel-clause-welded : goal.returns-then-not-is_parallel-clause-welded
returns-then-not-is_parallel-clause-welded c = weld_uneven _ _ _ (grind (arith, common_steps))

pub returns-in_err-mesh-clause-welded : goal.returns-in_err-mesh-clause-welded
returns-in_err-mesh-clause-welded c =
    let m = read c.args.mesh in
    let lent = held c.args.out.now in
    let even : parallel lent ≡ true = grind (arith, common_steps) in
    weld_faulty m c.args.tolerance lent even (fault_by_size m (at_most 20 c.args.tolerance) c.in_err-mesh.ensures.size) (grind (arith, common_steps))

pub returns-then-not-coordinate_in_range-clause-welded : goal.returns-then-not-coordinate_in_range-clause-welded
returns-then-not-coordinate_in_range-clause-welded c =
    let m = read c.args.mesh in
    let lent = held c.args.out.now in
    let even : parallel lent ≡ true = grind (arith, common_steps) in
    let out : at_most 20 c.args.tolerance ≡ false = grind (arith, common_steps) in
    weld_faulty m c.args.tolerance lent even (fault_by_number m c.in_ok-mesh.ensures.size out) (grind (arith, common_steps))

pub returns-in_err-mesh-2-clause-welded : goal.returns-in_err-mesh-2-clause-welded
returns-in_err-mesh-2-clause-welded c =
    let m = read c.args.mesh in
    let lent = held c.args.out.now in
    let even : parallel lent ≡ true = grind (arith, common_steps) in
    let fits : at_most 20 c.args.tolerance ≡ true = grind (arith, common_steps) in
    weld_faulty m c.args.tolerance lent even (fault_by_contents m c.in_ok-mesh.ensures.size fits ∙ ap contents_fault (sym c.in_ok-mesh.ensures.lists) ∙ sym c.in_err-mesh-2.ensures.fault) (grind (arith, common_steps))

pub returns-clause-welded : goal.returns-clause-welded
returns-clause-welded c =
    let m = read c.args.mesh in
    let lent = held c.args.out.now in
    let even : parallel lent ≡ true = grind (arith, common_steps) in
    let fits : at_most 20 c.args.tolerance ≡ true = grind (arith, common_steps) in
    weld_follows m c.args.tolerance lent even c.in_ok-mesh.ensures.size fits c.in_ok-mesh.ensures.lists c.in_ok-mesh-2.ensures.fault c.in_ok-mesh-2.ensures.lists c.weld_checked.ensures.welded
