-- `level_list` meets its contract: the heights put in so far, with those that are left, come to the levels of all. Assumes nothing.
use Rattle.std.proofs.Common.{refl, ◌≤◌, ◌++◌, ◌∙◌, length, length-append, take, drop, length-take-le, arith}
use Rattle.std.proofs.lemmas.List.{take-append-le}
use Rattle.meshing.proofs.LevelLaws.{levels_start, levels_more, levels_end}
use Rattle.meshing.proofs.levels.level_list.Goals as goal

pub loop-i-init : goal.loop-i-init
loop-i-init c = (omega arith, refl, levels_start c.args.ys.now c.args.out.now)

pub loop-i-preserved : goal.loop-i-preserved
loop-i-preserved c = let v = c.loop-i in (
  omega arith,
  c.add_level-count.ensures.1,
  levels_more c.args.ys.now (take v.count v.out) v.i v.invariant.2 (take c.add_level-count.result c.add_level-count.new.l) (omega arith) c.requires.1 c.add_level-count.ensures.0,
)

pub returns : goal.returns
returns c = let v = c.loop-i in
    let d = c.drop_close-apart in
    let less : d.result ≤ length d.new.l = omega (arith, d.ensures.1, d.auto.l) in
    let few = length-take-le d.result (d.new.l ++ drop v.count v.out) (omega (arith, less, length-append d.new.l (drop v.count v.out))) in
    record {
      are = take-append-le d.result d.new.l (drop v.count v.out) less ∙ d.ensures.0 ∙ levels_end c.args.ys.now (take v.count v.out) v.i v.invariant.2 (omega arith);
      within = omega (arith, few, d.ensures.1, length-take-le v.count v.out (omega arith));
    }
