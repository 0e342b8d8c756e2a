-- `next_edges` meets its contract: the last band's edges are taken on to this one, and turning the new ones round keeps them. Assumes nothing.
use Rattle.std.proofs.Common.{ℕ, List, ◌≡◌, ◌≤◌, ◌+◌, ◌++◌, ◌∙◌, refl, ap, length, take, drop, length-append, length-drop, length-take-le, arith}
use Rattle.std.proofs.lemmas.List.{take-append-le}
use Rattle.lists.proofs.Parts.{rest_lent}
use Rattle.lists.proofs.Passing.{below_passing_elems, same_between}
use Rattle.meshing.specs.Crossings.{new_at}
use Rattle.meshing.proofs.CrossingLaws.{spanning_below, next_most, next_spanning, with_new, new_long, new_front, new_lent}
use Rattle.meshing.proofs.crossings.next_edges.Goals as goal

pub keep_spanning-kept-requires : goal.keep_spanning-kept-requires
keep_spanning-kept-requires c = let a = c.args in spanning_below a.ring.xs.now a.ring.ys.now a.below (take a.m a.edges.now) c.requires.2 (length a.ring.ys.now) refl

pub turn_if_falling-requires : goal.turn_if_falling-requires
turn_if_falling-requires c = let a = c.args in
    let p = c.requires in
    let k = c.keep_spanning-kept in
    let d = c.add_spanning in
    let edges = k.new.edges ++ drop a.m a.edges.now in
    let fits : k.result ≤ length edges = omega (arith, k.ensures.1, k.auto.edges, length-append k.new.edges (drop a.m a.edges.now)) in
    rw (new_lent edges d.new.edges k.result fits (d.auto.edges ∙ ap length (rest_lent edges k.result)) d.result, d.ensures.0, a.ring.even) (below_passing_elems (new_at a.ring.ys.now a.below a.y) (length a.ring.ys.now))

pub returns : goal.returns
returns c = let a = c.args in
    let p = c.requires in
    let k = c.keep_spanning-kept in
    let d = c.add_spanning in
    let edges = k.new.edges ++ drop a.m a.edges.now in
    let near : k.result ≤ length k.new.edges = omega (arith, k.ensures.1, k.auto.edges) in
    let fits : k.result ≤ length edges = omega (arith, near, length-append k.new.edges (drop a.m a.edges.now)) in
    let back = d.auto.edges ∙ ap length (rest_lent edges k.result) in
    let room = next_most a.ring.ys.now a.below a.y (take a.m a.edges.now) p.2 k.result k.new.edges near k.ensures.0 in
    let all = with_new edges d.new.edges k.result fits back in
    let long = new_long edges d.new.edges k.result fits back in
    let was : length edges ≡ length a.edges.now = omega (arith, length-append k.new.edges (drop a.m a.edges.now), length-drop a.m a.edges.now, length-take-le a.m a.edges.now p.1, k.auto.edges, p.1) in
    let are = new_front edges d.new.edges k.result fits back d.result ∙ ap (λ (x : List ℕ). x ++ take d.result d.new.edges) (take-append-le k.result k.new.edges (drop a.m a.edges.now) near) ∙ ap (λ (x : List ℕ). take k.result k.new.edges ++ x) d.ensures.0 in (
      λ test.
          same_between all k.result (k.result + d.result) c.turn_if_falling.new.edges (omega arith) (omega (arith, long, was, room, d.ensures.1, p.0)) c.turn_if_falling.ensures test
          ∙ next_spanning a.ring.ys.now a.below a.y (take a.m a.edges.now) p.2 k.result k.new.edges near k.ensures.0 (take (k.result + d.result) all) are test,
      omega (arith, room, d.ensures.1),
    )
