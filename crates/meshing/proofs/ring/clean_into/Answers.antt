-- `clean_into` meets its contract: there is room, and the points kept stand over the start of both lists. Assumes nothing.
use Rattle.std.proofs.Common.{sym, ◌∙◌, arith}
use Rattle.std.specs.Float.{nan}
use Rattle.lists.proofs.Fills.{put_start}
use Rattle.lists.proofs.Places.{gather_length}
use Rattle.meshing.specs.Ring.{kept}
use Rattle.meshing.proofs.RingLaws.{kept_most}
use Rattle.meshing.proofs.ring.clean_into.Goals as goal

pub unreachable-requires : goal.unreachable-requires
unreachable-requires c = let r = c.args.ring in
    let none = c.in_default.ensures in
    omega (arith, none.0, kept_most r.xs.now r.ys.now, r.short)

pub shared_ref_as_front-xs : goal.shared_ref_as_front-xs
shared_ref_as_front-xs c = let some = c.in-Some.ensures in omega (arith, some.0)

pub returns-clause-kept_x : goal.returns-clause-kept_x
returns-clause-kept_x c = let r = c.args.ring in
    let some = c.in-Some.ensures in
    put_start _ _ some.2 (some.1 ∙ sym (gather_length nan r.xs.now (kept r.xs.now r.ys.now)))

pub returns-clause-kept_y : goal.returns-clause-kept_y
returns-clause-kept_y c = let r = c.args.ring in
    let some = c.in-Some.ensures in
    put_start _ _ some.3 (some.1 ∙ sym (gather_length nan r.ys.now (kept r.xs.now r.ys.now)))
