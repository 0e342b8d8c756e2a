-- `clip_around` meets its contract: the walk is filled, then clipped. Assumes nothing.
use Rattle.std.proofs.Common.{ℕ, ◌≡◌, ◌-◌, ◌*◌, ◌∙◌, sym, ap, length, take, length-take-le, replicate, arith}
use Rattle.std.proofs.lemmas.List.{length-replicate}
use Rattle.lists.specs.Answer.{given}
use Rattle.meshing.specs.Triangles.{walk}
use Rattle.meshing.specs.Clipping.{clip}
use Rattle.meshing.specs.Ears.{is_ear}
use Rattle.meshing.proofs.Walks.{walk_length}
use Rattle.meshing.proofs.WalkLaws.{walk_below}
use Rattle.meshing.proofs.TriangulateLaws.{corners_given}
use Rattle.meshing.proofs.triangulate.clip_around.Goals as goal

pub clip_walk-requires : goal.clip_walk-requires
clip_walk-requires g c = let p = c.requires in
    let n = length c.args.ring.xs.now in
    let filled : c.fill_walk.new.walk ≡ walk c.args.forward n = c.fill_walk.ensures ∙ ap (walk c.args.forward) (length-take-le n (replicate g.row.N 0) (omega (arith, length-replicate {A = ℕ} g.row.N 0, p.1))) in
    rw (filled, walk_length c.args.forward n) (p.0, walk_below c.args.forward n, p.3)

pub invariant_of-result : goal.invariant_of-result
invariant_of-result g c = let r = c.args.ring in
    let n = length r.xs.now in
    let filled : c.fill_walk.new.walk ≡ walk c.args.forward n = c.fill_walk.ensures ∙ ap (walk c.args.forward) (length-take-le n (replicate g.row.N 0) (omega (arith, length-replicate {A = ℕ} g.row.N 0, c.requires.1))) in
    let written = ap (λ (k : ℕ). given (take ((k - 2) * 3) c.clip_walk.new.out)) (sym (ap length filled ∙ walk_length c.args.forward n)) ∙ c.in_ok-clip_walk.ensures in
    record { whole = (corners_given _ _ written).1 }

pub returns : goal.returns
returns g c = let r = c.args.ring in
    let n = length r.xs.now in
    let filled : c.fill_walk.new.walk ≡ walk c.args.forward n = c.fill_walk.ensures ∙ ap (walk c.args.forward) (length-take-le n (replicate g.row.N 0) (omega (arith, length-replicate {A = ℕ} g.row.N 0, c.requires.1))) in
    let written = ap (λ (k : ℕ). given (take ((k - 2) * 3) c.clip_walk.new.out)) (sym (ap length filled ∙ walk_length c.args.forward n)) ∙ c.in_ok-clip_walk.ensures in
    (corners_given _ _ written).0 ∙ ap (clip (is_ear r.xs.now r.ys.now)) filled
