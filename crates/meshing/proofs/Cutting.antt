-- What clipping gives for any test of what an ear is, and any walk without repeats: the induction over the ears cut. Assumes nothing.
use mathlib.Core.Path.{◌≡◌, refl, sym, ap, subst}
use mathlib.Core.Bool.{Bool, true, false, ◌&&◌}
use mathlib.Core.List.{List, [], ◌∷◌, ◌++◌}
use Prim.Native.Nat.{ℕ, ◌+◌, ◌≤◌, ◌<◌}
use native.Mathlib.Numerals.{add-one}
use native.Mathlib.Omega.{arith}
use lib.Dec.{eqb}
use lib.ListN.{length, get_or, take, drop, length-append}
use lib.Seq.{split_at}
use Rattle.lists.specs.Counts.{bit, total, occurs}
use Rattle.lists.proofs.Counts.{total_append, and_left, and_right}
use Rattle.meshing.specs.Triangles.{Triangle, tri, Edge, edge, ring_edges, edges, corners, is_edge, times}
use Rattle.meshing.specs.Clipping.{before, after, triangle_at, without}
use Rattle.meshing.proofs.Counting.{total_cut}
use Rattle.meshing.proofs.Around.{around}
use Rattle.meshing.proofs.Clipped.{Clipped, last, cut}

abbrev pub back : Edge → Edge
back (edge u v) = edge v u

-- how often the pair of u and v occurs, in either direction, among ring edges and cuts
abbrev pub met : List ℕ → List Edge → ℕ → ℕ → ℕ
met w ds u v = times u v (ring_edges w) + times v u (ring_edges w) + times u v ds + times v u ds

-- The triangles' edges are the ring edges and the cuts, each cut in both directions; and no pair of vertices occurs twice among ring edges and cuts.
pub record Cut (w : List ℕ) (ts : List Triangle) : Type 0 where
  pub cuts : List Edge
  pub number : length ts + 2 ≡ length w
  pub size : length cuts + 3 ≡ length w
  pub inside : (u : ℕ) → occurs u w ≡ 0 → occurs u (corners ts) ≡ 0
  pub split : (f : Edge → ℕ) → total f (edges ts) ≡ total f (ring_edges w) + total f cuts + total (λ e. f (back e)) cuts
  pub once : (u v : ℕ) → met w cuts u v ≤ 1
  pub fresh : (u v : ℕ) → occurs u w ≡ 0 → met w cuts u v ≡ 0

-- ---- three vertices

three_bits : (x y z x' y' z' : Bool) → bit x + bit y + bit z ≤ 1 → bit x' + bit y' + bit z' ≤ 1
    → bit (x && y') + bit (y && z') + bit (z && x') + bit (x' && y) + bit (y' && z) + bit (z' && x) ≤ 1
three_bits true y z x' y' z' h h' = omega (arith, and_left y z', and_left z x', and_right x' y, and_right y' z, and_left z' true)
three_bits false true z x' y' z' h h' = omega (arith, and_left z x', and_left x' true, and_right y' z, and_right z' false)
three_bits false false z x' y' z' h h' = omega (arith, and_right z x', and_right x' false, and_left y' z, and_right z' false)

three : (x y z : ℕ) → ((u : ℕ) → occurs u (x ∷ y ∷ z ∷ []) ≤ 1) → Cut (x ∷ y ∷ z ∷ []) (tri x y z ∷ [])
three x y z one =
    record {
      cuts = [];
      number = refl;
      size = refl;
      inside = λ u h. h;
      split = λ f. omega arith;
      once = λ u v. omega (arith, three_bits (eqb x u) (eqb y u) (eqb z u) (eqb x v) (eqb y v) (eqb z v) (omega (arith, one u)) (omega (arith, one v)));
      fresh = λ u v h. omega (arith, and_left (eqb x u) (eqb y v), and_left (eqb y u) (eqb z v), and_left (eqb z u) (eqb x v), and_right (eqb x v) (eqb y u), and_right (eqb y v) (eqb z u), and_right (eqb z v) (eqb x u));
    }

-- ---- one ear more

ear_bits : (a b c a' b' c' : Bool) (n : ℕ) → bit a + bit b + bit c ≤ 1 → bit a' + bit b' + bit c' ≤ 1 → n ≤ 1 → (bit b ≡ 1 → n ≡ 0) → (bit b' ≡ 1 → n ≡ 0)
    → n + bit (a && b') + bit (b && c') + bit (a' && b) + bit (b' && c) ≤ 1
ear_bits a true c a' b' c' n h h' l z z' = omega (arith, z refl, and_left a b', and_left a' true, and_right b' c)
ear_bits a false c a' true c' n h h' l z z' = omega (arith, z' refl, and_left a true, and_right a' false)
ear_bits a false c a' false c' n h h' l z z' = omega (arith, and_right a false, and_right a' false)

module _ (s q : List ℕ) (a b c : ℕ) (t : List ℕ) (e : q ++ s ≡ c ∷ (t ++ a ∷ [])) where
  occurs_whole : (u : ℕ) → occurs u (s ++ b ∷ q) ≡ bit (eqb b u) + occurs u (s ++ q)
  occurs_whole u = omega (arith, total_append (λ x. bit (eqb x u)) s (b ∷ q), total_append (λ x. bit (eqb x u)) s q)

  occurs_rest : (u : ℕ) → occurs u (s ++ q) ≡ bit (eqb c u) + occurs u t + bit (eqb a u)
  occurs_rest u = omega (arith, total_append (λ x. bit (eqb x u)) s q, total_append (λ x. bit (eqb x u)) q s, ap (occurs u) e, total_append (λ x. bit (eqb x u)) t (a ∷ []))

  met_whole : (ds : List Edge) (u v : ℕ)
      → met (s ++ b ∷ q) (edge a c ∷ ds) u v ≡ met (s ++ q) ds u v + bit (eqb a u && eqb b v) + bit (eqb b u && eqb c v) + bit (eqb a v && eqb b u) + bit (eqb b v && eqb c u)
  met_whole ds u v = omega (arith, total_cut (λ x. bit (is_edge u v x)) s q a b c t e, total_cut (λ x. bit (is_edge v u x)) s q a b c t e)

  step : (ts : List Triangle) → ((u : ℕ) → occurs u (s ++ b ∷ q) ≤ 1) → Cut (s ++ q) ts → Cut (s ++ b ∷ q) (tri a b c ∷ ts)
  step ts one k =
      record {
        cuts = edge a c ∷ k.cuts;
        number = omega (arith, k.number, length-append s (b ∷ q), length-append s q);
        size = omega (arith, k.size, length-append s (b ∷ q), length-append s q);
        inside = λ u h. omega (arith, occurs_whole u, occurs_rest u, k.inside u (omega (arith, occurs_whole u)));
        split = λ f. omega (arith, k.split f, total_cut f s q a b c t e);
        once = λ u v. omega (arith, met_whole k.cuts u v, ear_bits (eqb a u) (eqb b u) (eqb c u) (eqb a v) (eqb b v) (eqb c v) (met (s ++ q) k.cuts u v) (apart u) (apart v) (k.once u v) (λ h. k.fresh u v (new u h)) (λ h. swap v u (k.fresh v u (new v h))));
        fresh = λ u v h. omega (arith, met_whole k.cuts u v, occurs_whole u, occurs_rest u, k.fresh u v (omega (arith, occurs_whole u)), and_left (eqb a u) (eqb b v), and_left (eqb b u) (eqb c v), and_right (eqb a v) (eqb b u), and_right (eqb b v) (eqb c u));
      }
    where
      apart : (u : ℕ) → bit (eqb a u) + bit (eqb b u) + bit (eqb c u) ≤ 1
      apart u = omega (arith, one u, occurs_whole u, occurs_rest u)

      new : (u : ℕ) → bit (eqb b u) ≡ 1 → occurs u (s ++ q) ≡ 0
      new u h = omega (arith, one u, occurs_whole u)

      swap : (u v : ℕ) → met (s ++ q) k.cuts u v ≡ 0 → met (s ++ q) k.cuts v u ≡ 0
      swap u v h = omega arith

-- ---- all ears

module _ (w : List ℕ) (i : ℕ) (h : i < length w) (one : (u : ℕ) → occurs u w ≤ 1) where
  parts : w ≡ take i w ++ get_or w i 0 ∷ drop (i + 1) w
  parts = rw add-one (split_at w i 0 h)

  without_one : (u : ℕ) → occurs u (without w i) ≤ 1
  without_one u = omega (arith, one u, ap (occurs u) parts, total_append (λ x. bit (eqb x u)) (take i w) (get_or w i 0 ∷ drop (i + 1) w), total_append (λ x. bit (eqb x u)) (take i w) (drop (i + 1) w))

  cut_one : (ts : List Triangle) → 2 < length w → Cut (without w i) ts → Cut w (triangle_at w i ∷ ts)
  cut_one ts l k =
      let r = around w i h l in
      subst
      (λ (v : List ℕ). Cut v (triangle_at w i ∷ ts))
      (sym parts)
      (step (take i w) (drop (i + 1) w) (before w i) (get_or w i 0) (after w i) r.0 r.1 ts (λ u. omega (arith, one u, ap (occurs u) parts)) k)

pub clipped_cut : {ear : List ℕ → ℕ → Bool} {w : List ℕ} {ts : List Triangle} → Clipped ear w ts → ((u : ℕ) → occurs u w ≤ 1) → Cut w ts
clipped_cut (last x y z) one = three x y z one
clipped_cut (cut w i ts h l t b k) one = cut_one w i h one ts (omega arith) (clipped_cut k (without_one w i h one))
