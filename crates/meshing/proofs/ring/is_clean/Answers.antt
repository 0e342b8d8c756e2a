-- `is_clean` meets its contract: what std's `all` answers of neighbours, then the last and the first. Assumes nothing.
use Rattle.std.proofs.Common.{◌≡◌, ◌-◌, true, false, refl, rules, arith, tests, length}
use Rattle.std.proofs.lemmas.Bool.{not-true}
use Rattle.std.proofs.lemmas.Iterator.{cases_from_all, YieldsList-from_range}
use Rattle.openrdson_core.specs.Points.{point_at}
use Rattle.meshing.specs.Ring.{is_close}
use Rattle.meshing.proofs.RingLaws.{clean_apart}
use Rattle.meshing.proofs.ring.is_clean.Goals as goal

pub returns-then-apart : goal.returns-then-apart
returns-then-apart c e =
    let xs = c.args.ring.xs.now in
    let ys = c.args.ring.ys.now in
    let n = length xs in
    clean_apart xs ys _ (omega arith)
    (cases_from_all _ _ _ (λ i. is_close (point_at xs ys (i - 1)) (point_at xs ys i) ≡ false) (λ i. is_close (point_at xs ys (i - 1)) (point_at xs ys i) ≡ true) c.all-apart.ensures.ran (YieldsList-from_range 1 n (n - 1) refl (omega arith))
    (λ x q k. (search rules, grind (arith, tests)))
    (λ x q k. grind (arith, tests)))
    c.if-apart.true
    c.point.ensures
    c.point-then-apart.ensures
    c.is_close.ensures
    (not-true _ e)
