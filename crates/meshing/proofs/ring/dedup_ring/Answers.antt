-- `dedup_ring` meets its contract: each way out is a row of the definition. Assumes nothing.
use Rattle.std.proofs.Common.{refl, arith}
use Rattle.std.proofs.lemmas.Grind.{common_steps}
use Rattle.meshing.specs.Ring.{CleanedIn}
use Rattle.meshing.proofs.RingLaws.{dedup_uneven, dedup_refused, cleaned_refused, cleaned_in}
use Rattle.meshing.proofs.ring.dedup_ring.Goals as goal

pub returns-then-out_x-out_y : goal.returns-then-out_x-out_y
returns-then-out_x-out_y c = cleaned_refused _ _ _ _ _ 16 refl (dedup_uneven _ _ _ _ c.if-out_x-out_y.true)

pub returns-in_err-sound : goal.returns-in_err-sound
returns-in_err-sound c = cleaned_refused _ _ _ _ _ _ (grind (arith, common_steps)) (dedup_refused _ _ _ _ _ c.if-out_x-out_y.false c.in_err-sound.ensures.fault)

pub returns : goal.returns
returns c = let a = c.args in
    let r = c.in_ok-sound.ensures in
    let w = c.clean_where_room in
    let cleaned : CleanedIn a.xs.now a.ys.now a.out_x.now a.out_y.now w.result w.new.out_x w.new.out_y = rw (← r.lists.0, ← r.lists.1) w.ensures in
    cleaned_in _ _ _ _ _ w.result _ _ c.ok_or.ensures.value c.if-out_x-out_y.false r.fault cleaned
