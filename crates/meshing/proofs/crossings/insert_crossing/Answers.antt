-- `insert_crossing` meets its contract: the search for the place shifts both lists. Assumes nothing.
use Rattle.std.proofs.Common.{ℕ, ◌+◌, ◌-◌, ◌≡◌, refl, sym, ◌∙◌, Float, arith}
use Rattle.std.specs.Float.{nan}
use Rattle.lists.proofs.Sorts.{shift_end, shift_left, shift_past, past_two, stops_two}
use Rattle.meshing.specs.Crossings.{goes_before}
use Rattle.meshing.proofs.crossings.insert_crossing.Goals as goal

pub returns-then-not-goes_before : goal.returns-then-not-goes_before
returns-then-not-goes_before c = let l = c.loop-k in
    let v = l.invariant in
    let a = c.args.at.now in
    let e = c.args.edges.now in
    let m = c.args.m in
    let here : l.k - 1 + 1 ≡ l.k = omega arith in
    let k = stops_two (λ (z : Float) (d : ℕ). goes_before c.args.x c.args.e z d) a e m l.k nan 0 l.at l.edges v.1 v.0 c.loop-k-test.true l.auto.k c.requires.1 c.requires.0 v.2 (sym c.goes_before.ensures ∙ c.if-not-goes_before.true) in
    rw (here, ← k) (shift_end e m l.k l.k c.args.e l.edges v.0 refl l.auto.k c.requires.0, shift_end a m l.k l.k c.args.x l.at v.1 refl l.auto.k c.requires.1, shift_past e m l.k l.k c.args.e l.edges v.0 refl l.auto.k c.requires.0)

pub loop-k-preserved : goal.loop-k-preserved
loop-k-preserved c = let l = c.loop-k in
    let v = l.invariant in
    let a = c.args.at.now in
    let e = c.args.edges.now in
    let m = c.args.m in
    let here : l.k - 1 + 1 ≡ l.k = omega arith in
    rw here (
      shift_left e m l.k _ l.edges v.0 c.loop-k-test.true l.auto.k c.requires.0,
      shift_left a m l.k _ l.at v.1 c.loop-k-test.true l.auto.k c.requires.1,
      past_two (λ (z : Float) (d : ℕ). goes_before c.args.x c.args.e z d) a e m l.k nan 0 l.at l.edges v.1 v.0 c.loop-k-test.true l.auto.k c.requires.1 c.requires.0 v.2 (sym c.goes_before.ensures ∙ c.if-not-goes_before.false),
    )
