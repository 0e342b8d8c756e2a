-- `ring_is_rectilinear` meets its contract: what std's `all` answers of the edges. Assumes nothing.
use Rattle.std.proofs.Common.{◌≡◌, true, false, refl, rules, arith, tests, ℕ, Bool, length}
use Rattle.std.proofs.lemmas.Iterator.{cases_from_all, YieldsList-from_range}
use Rattle.openrdson_core.proofs.Ranges.{all_is}
use Rattle.meshing.proofs.RectLaws.{is_straight, rect_few, tolerance_is, rect_by}
use Rattle.meshing.proofs.rectilinear.ring_is_rectilinear.Goals as goal

pub returns-then-n-lt3 : goal.returns-then-n-lt3
returns-then-n-lt3 c = rect_few c.args.ring.xs.now c.args.ring.ys.now c.if-n-lt3.true

pub returns : goal.returns
returns c =
    let xs = c.args.ring.xs.now in
    let ys = c.args.ring.ys.now in
    let n = length xs in
    let test : ℕ → Bool = is_straight xs ys in
    let e = tolerance_is xs ys c.largest_size.ensures c.larger.ensures in
    rect_by xs ys c.if-n-lt3.false
    (all_is test n c.all.result
    (cases_from_all _ _ _ (λ i. test i ≡ true) (λ i. test i ≡ false) c.all.ensures.ran (YieldsList-from_range 0 n n refl (omega arith))
    (λ x q k. (search rules, grind (arith, tests, e)))
    (λ x q k. grind (arith, tests, e))))
