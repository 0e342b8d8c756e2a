-- `weld_checked` meets its contract: room for the elements and for the nodes, then list after list. Assumes nothing.
use Rattle.std.proofs.Common.{sym, ap, arith, length}
use Rattle.openrdson_core.specs.Mesh.{Mesh, held}
use Rattle.openrdson_core.proofs.MeshLaws.{equal_lengths}
use Rattle.openrdson_core.specs.declared.refusals.Refusal.TheVariants as refusal
use Rattle.meshing.proofs.WeldLaws.{weld_refused, few_kinds, few_nodes_lem, weld_written, kept_written, kept_within}
use Rattle.meshing.proofs.weld.weld_checked.Goals as goal

pub returns-then-kinds-out-clause-welded : goal.returns-then-kinds-out-clause-welded
returns-then-kinds-out-clause-welded c = let m = c.args.mesh.lists in
    let lent = held c.args.out.now in
    weld_refused lent refusal.OutputTooShort _ (few_kinds c.args.tolerance m.xs.now m.ys.now m.zs.now m.kinds.now m.places.now m.regions.now lent c.if-kinds-out.true)

pub returns-then-count_kept-out-clause-welded : goal.returns-then-count_kept-out-clause-welded
returns-then-count_kept-out-clause-welded c = let m = c.args.mesh.lists in
    let lent = held c.args.out.now in
    weld_refused lent refusal.OutputTooShort _ (few_nodes_lem c.args.tolerance m.xs.now m.ys.now m.zs.now m.kinds.now m.places.now m.regions.now lent c.count_kept.result c.count_kept.ensures c.if-count_kept-out.true)

pub write_kept-nodes-requires : goal.write_kept-nodes-requires
write_kept-nodes-requires c = let l = equal_lengths _ _ _ _ _ _ c.requires in
    (omega (arith, c.if-count_kept-out.false, c.count_kept.ensures), sym l.same_ys, sym l.same_zs)

pub write_places-requires-clause-room : goal.write_places-requires-clause-room
write_places-requires-clause-room c = let l = equal_lengths _ _ _ _ _ _ c.requires in
    omega (arith, ap (λ (a : Mesh). length a.places) c.write_kept-nodes.ensures.mesh, c.if-kinds-out.false, l.eight_places, c.args.mesh.eight_places)

pub write_places-requires-clause-within : goal.write_places-requires-clause-within
write_places-requires-clause-within c = let m = c.args.mesh.lists in
    let w = c.write_kept-nodes in
    kept_within c.args.tolerance m.xs.now m.ys.now m.zs.now m.kinds.now m.places.now m.regions.now (held c.args.out.now) w.result w.ensures.count w.ensures.mesh c.requires (omega (arith, c.if-count_kept-out.false, c.count_kept.ensures, w.ensures.count))

pub write_places-requires-clause-kept : goal.write_places-requires-clause-kept
write_places-requires-clause-kept c = let m = c.args.mesh.lists in
    let w = c.write_kept-nodes in
    kept_written c.args.tolerance m.xs.now m.ys.now m.zs.now m.kinds.now m.places.now m.regions.now (held c.args.out.now) w.result w.ensures.count w.ensures.mesh

pub copy-requires-2 : goal.copy-requires-2
copy-requires-2 c = let l = equal_lengths _ _ _ _ _ _ c.requires in
    omega (arith, ap (λ (a : Mesh). length a.regions) c.write_kept-nodes.ensures.mesh, ap (λ (a : Mesh). length a.regions) c.write_places.ensures.mesh, c.if-kinds-out.false, l.same_regions, c.args.mesh.same_regions)

pub returns-clause-welded : goal.returns-clause-welded
returns-clause-welded c = let m = c.args.mesh.lists in
    let w = c.write_kept-nodes in
    weld_written c.args.tolerance m.xs.now m.ys.now m.zs.now m.kinds.now m.places.now m.regions.now (held c.args.out.now) w.result w.ensures.count (omega (arith, c.if-count_kept-out.false, c.count_kept.ensures, w.ensures.count)) c.if-kinds-out.false w.ensures.mesh c.write_places.ensures.mesh c.copy.ensures c.copy-2.ensures
