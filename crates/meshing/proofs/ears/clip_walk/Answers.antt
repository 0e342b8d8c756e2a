-- `clip_walk` meets its contract: its loop is `Run`, and the last three vertices end it. Assumes nothing.
use Rattle.std.proofs.Common.{◌≡◌, ◌-◌, ◌∙◌, sym, length, arith}
use Rattle.std.proofs.lemmas.Grind.{common_steps}
use Rattle.lists.specs.Answer.{refused}
use Rattle.lists.proofs.Parts.{rest_lent}
use Rattle.lists.proofs.Places.{below_at, below_wider}
use Rattle.openrdson_core.specs.Answers.{answer}
use Rattle.meshing.specs.Ears.{is_ear}
use Rattle.meshing.proofs.ClipLaws.{run_below, run_at, run_cut, run_stalls, run_ends}
use Rattle.meshing.proofs.ears.clip_walk.Goals as goal

pub invariant_of-first_ear : goal.invariant_of-first_ear
invariant_of-first_ear c = let v = c.loop-at in record { below = λ i h. below_at _ _ i (run_below _ _ _ _ _ _ v.invariant _ (rest_lent v.walk v.at)) h }

pub returns-in_err-i : goal.returns-in_err-i
returns-in_err-i c = let v = c.loop-at in
    let four : answer c.from_residual.result ≡ refused 4 = grind (arith, common_steps) in
    rw four (run_stalls _ _ _ _ _ _ v.invariant _ (rest_lent v.walk v.at) (omega arith) (sym c.in_err-i.ensures.ok_part ∙ c.first_ear.ensures))

pub cut_ear-requires : goal.cut_ear-requires
cut_ear-requires c = let v = c.loop-at in
    let rest = rest_lent v.walk v.at in (
      run_at _ _ _ _ _ _ v.invariant _ rest c.in_ok-i.i (sym c.in_ok-i.ensures.ok_part ∙ c.first_ear.ensures),
      below_wider _ 512 _ c.args.ring.short (run_below _ _ _ _ _ _ v.invariant _ rest),
      omega arith,
    )

pub loop-at-preserved : goal.loop-at-preserved
loop-at-preserved c = let v = c.loop-at in
    let k = c.cut_ear in
    run_cut _ _ _ _ _ _ v.invariant _ (rest_lent v.walk v.at) c.in_ok-i.i k.new.walk k.new.out (omega arith) (sym c.in_ok-i.ensures.ok_part ∙ c.first_ear.ensures) k.ensures.0 k.auto.walk k.ensures.1

pub returns : goal.returns
returns c = let v = c.loop-at in
    let end : v.at ≡ length c.args.walk.now - 3 = omega arith in
    run_ends (is_ear c.args.ring.xs.now c.args.ring.ys.now) (length c.args.ring.xs.now) c.args.walk.now v.walk v.out v.at v.invariant c.put_triangle.new.out (omega arith) (rw end c.put_triangle.ensures)
