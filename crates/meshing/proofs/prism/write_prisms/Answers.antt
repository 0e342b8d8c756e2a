-- `write_prisms` meets its contract: each turn writes the eight places of the prism on a triangle. Assumes nothing.
use Rattle.std.proofs.Common.{◌+◌, ◌*◌, ◌/◌, ◌<◌, ◌≡◌, refl, ap, ◌∙◌, length, get_or, arith}
use Rattle.lists.specs.Lists.{put}
use Rattle.lists.proofs.Fills.{no_runs, one_run, all_runs}
use Rattle.lists.proofs.Joined.{joined_runs}
use Rattle.meshing.specs.Prisms.{prism_places}
use Rattle.meshing.specs.Triangles.{tri, triples}
use Rattle.meshing.proofs.PrismLaws.{prism_length, corner_below, prism_of, triples_many}
use Rattle.meshing.proofs.prism.write_prisms.Goals as goal

pub loop-i-init : goal.loop-i-init
loop-i-init c = no_runs _ _ _ _

pub overflow_add-bottom : goal.overflow_add-bottom
overflow_add-bottom c = let a = c.args in
    let k : c.loop-i.i < length a.corners.places.now / 3 = omega arith in
    omega (arith, c.requires.1, corner_below a.corners.places.now c.as_chunks.ensures.front c.loop-i.i k a.n 0 c.requires.0 (omega arith))

pub overflow_add-bottom-in-loop-i : goal.overflow_add-bottom-in-loop-i
overflow_add-bottom-in-loop-i c = let a = c.args in
    let k : c.loop-i.i < length a.corners.places.now / 3 = omega arith in
    omega (arith, c.requires.1, corner_below a.corners.places.now c.as_chunks.ensures.front c.loop-i.i k a.n 1 c.requires.0 (omega arith))

pub overflow_add-bottom-in-loop-i-2 : goal.overflow_add-bottom-in-loop-i-2
overflow_add-bottom-in-loop-i-2 c = let a = c.args in
    let k : c.loop-i.i < length a.corners.places.now / 3 = omega arith in
    omega (arith, c.requires.1, corner_below a.corners.places.now c.as_chunks.ensures.front c.loop-i.i k a.n 2 c.requires.0 (omega arith))

pub overflow_add-top-in-loop-i : goal.overflow_add-top-in-loop-i
overflow_add-top-in-loop-i c = let a = c.args in
    let k : c.loop-i.i < length a.corners.places.now / 3 = omega arith in
    omega (arith, c.requires.1, corner_below a.corners.places.now c.as_chunks.ensures.front c.loop-i.i k a.n 0 c.requires.0 (omega arith))

pub overflow_add-top-in-loop-i-2 : goal.overflow_add-top-in-loop-i-2
overflow_add-top-in-loop-i-2 c = let a = c.args in
    let k : c.loop-i.i < length a.corners.places.now / 3 = omega arith in
    omega (arith, c.requires.1, corner_below a.corners.places.now c.as_chunks.ensures.front c.loop-i.i k a.n 1 c.requires.0 (omega arith))

pub overflow_add-top-in-loop-i-3 : goal.overflow_add-top-in-loop-i-3
overflow_add-top-in-loop-i-3 c = let a = c.args in
    let k : c.loop-i.i < length a.corners.places.now / 3 = omega arith in
    omega (arith, c.requires.1, corner_below a.corners.places.now c.as_chunks.ensures.front c.loop-i.i k a.n 2 c.requires.0 (omega arith))

pub write_eight-requires : goal.write_eight-requires
write_eight-requires c = let many : length c.args.corners.places.now / 3 ≡ length (triples c.args.corners.places.now) = omega (arith, triples_many c.args.corners.places.now c.args.corners.whole) in
    omega (arith, c.requires.2, many)

pub loop-i-preserved : goal.loop-i-preserved
loop-i-preserved c = let a = c.args in
    let v = c.loop-i in
    let k : v.i < length a.corners.places.now / 3 = omega arith in
    let many : length a.corners.places.now / 3 ≡ length (triples a.corners.places.now) = omega (arith, triples_many a.corners.places.now c.args.corners.whole) in
    one_run v.invariant (c.write_eight.ensures ∙ ap (put v.places (a.at + v.i * 8)) (prism_of a.corners.places.now c.as_chunks.ensures.front v.i k a.base a.n)) (λ j. prism_length a.base a.n (get_or (triples a.corners.places.now) j (tri 0 0 0))) refl (omega (arith, c.requires.2))

pub returns : goal.returns
returns c = let a = c.args in
    let many : length a.corners.places.now / 3 ≡ length (triples a.corners.places.now) = omega (arith, triples_many a.corners.places.now c.args.corners.whole) in
    all_runs c.loop-i.invariant (omega arith) ∙ ap (put a.places.now a.at) (joined_runs (prism_places a.base a.n) (tri 0 0 0) (triples a.corners.places.now))
