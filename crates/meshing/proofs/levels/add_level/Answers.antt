-- `add_level` meets its contract: y is put in at its slot, or equals the height left of it. Assumes nothing.
use Rattle.std.proofs.Common.{ℕ, ◌≡◌, ◌+◌, ◌-◌, ◌++◌, ap, ◌∙◌, length, take, drop, take_at, take-take, arith, Float}
use Rattle.lists.specs.Sorts.{insert_at}
use Rattle.std.specs.Float.{nan}
use Rattle.std.specs.Float.Ieee.{eq}
use Rattle.std.proofs.Math.Seq.{length-take-le, get_or-take}
use Rattle.meshing.proofs.LevelLaws.{level_there, level_new, level_new_all}
use Rattle.meshing.proofs.levels.add_level.Goals as goal

pub returns-then-l-k : goal.returns-then-l-k
returns-then-l-k c = let a = c.args in
    let k = c.level_slot-k.result in
    let long = length-take-le a.m a.l.now (omega arith) in (
      level_there (take a.m a.l.now) a.y k c.level_slot-k.ensures.0 c.requires.1 c.requires.2 c.if-k-gt0.true c.level_slot-k.ensures.1 (ap (λ (z : Float). eq z a.y) (get_or-take a.m a.l.now (k - 1) nan (omega arith)) ∙ c.if-l-k.true),
      c.requires.1,
      omega arith,
    )

pub returns : goal.returns
returns c = let a = c.args in
    let l = take a.m a.l.now in
    let part = take (a.m + 1) a.l.now in
    let w = c.insert_level in
    let long = length-take-le (a.m + 1) a.l.now (omega arith) in
    let less : length part - 1 ≡ a.m = omega (arith, long) in
    let put : take (a.m + 1) (w.new.l ++ drop (a.m + 1) a.l.now) ≡ insert_at c.level_slot-k.result a.y l =
    take_at w.new.l _ (a.m + 1) (w.auto.l ∙ long) ∙ w.ensures ∙ ap (λ (n : ℕ). insert_at c.level_slot-k.result a.y (take n part)) less ∙ ap (insert_at c.level_slot-k.result a.y) (take-take a.m (a.m + 1) a.l.now (omega arith)) in (
      level_new l a.y c.level_slot-k.result c.level_slot-k.ensures.0 c.requires.1 c.requires.2 _ put,
      level_new_all l a.y c.level_slot-k.result c.level_slot-k.ensures.0 c.requires.1 c.requires.2 _ put,
      omega arith,
    )
