-- What clipping gives is a triangulation of the ring. Assumes nothing.
use mathlib.Core.Path.{◌≡◌, refl, ap}
use mathlib.Core.Bool.{Bool, true, false, not, ◌&&◌}
use mathlib.Core.List.{List, [], ◌∷◌}
use Prim.Native.Nat.{ℕ, ◌+◌, ◌-◌, ◌≤◌, ◌<◌}
use native.Mathlib.Omega.{arith}
use native.Mathlib.Decide.{dec_lt}
use lib.Dec.{T, ltb, leb, eqb, eqb→eq, eqb_refl, ltb→lt, nltb→le}
use lib.Ieee.{Float}
use lib.ListN.{length}
use borrow.Author.Tests.{leb-true}
use Rattle.lists.specs.Answer.{given}
use Rattle.lists.specs.Counts.{bit, total, tally}
use Rattle.lists.proofs.Answers.{passed}
use Rattle.lists.proofs.Counts.{total_same, and_left, and_right, and_comm}
use Rattle.meshing.specs.Triangles.{Triangle, Edge, edge, walk, ring_edges, edges, is_edge, times, inner, Triangulation}
use Rattle.meshing.specs.Clipping.{clip}
use Rattle.meshing.specs.Ears.{is_ear, is_forward, triangles_of}
use Rattle.meshing.proofs.Clipped.{cutting_clipped}
use Rattle.meshing.proofs.Cutting.{back, Cut, clipped_cut}
use Rattle.meshing.proofs.Walks.{walk_length, walk_once, walk_past}

times_back : (u v : ℕ) (ds : List Edge) → tally (λ e. is_edge u v (back e)) ds ≡ times v u ds
times_back u v [] = refl
times_back u v (edge a b ∷ ds) = omega (arith, ap bit (and_comm (eqb b u) (eqb a v)), times_back u v ds)

hit : (a b : ℕ) → bit (is_edge a b (edge a b)) ≡ 1
hit a b = go (eqb a a) (eqb b b) (eqb_refl a) (eqb_refl b)
  where
    go : (x y : Bool) → T x → T y → bit (x && y) ≡ 1
    go true true p q = refl
    go true false p q = absurd q
    go false y p q = absurd p

-- a test that no edge of a list passes
tally_none : (p : Edge → Bool) (es : List Edge) → ((u v : ℕ) → 0 < times u v es → bit (p (edge u v)) ≡ 0) → tally p es ≡ 0
tally_none p [] h = refl
tally_none p (edge a b ∷ es) h = omega (arith, h a b (omega (arith, hit a b)), tally_none p es (λ u v l. h u v (omega arith)))

-- a test that each edge of a list passes in exactly one of its directions
tally_either : (p : Edge → Bool) (ds : List Edge) → ((u v : ℕ) → 0 < times u v ds → bit (p (edge u v)) + bit (p (edge v u)) ≡ 1)
    → tally p ds + tally (λ e. p (back e)) ds ≡ length ds
tally_either p [] h = omega arith
tally_either p (edge a b ∷ ds) h = omega (arith, h a b (omega (arith, hit a b)), tally_either p ds (λ u v l. h u v (omega arith)))

none_bit : (n : ℕ) → 0 < n → bit (eqb n 0) ≡ 0
none_bit n = go (eqb n 0) (eqb→eq n 0)
  where
    go : (b : Bool) → (T b → n ≡ 0) → 0 < n → bit b ≡ 0
    go true f h = absurd (omega (arith, f tt))
    go false f h = refl

one_way : (u v : ℕ) → (u ≡ v → ⊥) → bit (ltb u v && true && true) + bit (ltb v u && true && true) ≡ 1
one_way u v ne = go (ltb u v) (ltb v u) (ltb→lt u v) (nltb→le u v) (ltb→lt v u) (nltb→le v u)
  where
    go : (x y : Bool) → (T x → u < v) → (T (not x) → v ≤ u) → (T y → v < u) → (T (not y) → u ≤ v) → bit (x && true && true) + bit (y && true && true) ≡ 1
    go true true f f' g g' = absurd (omega (arith, f tt, g tt))
    go true false f f' g g' = refl
    go false true f f' g g' = refl
    go false false f f' g g' = absurd (ne (omega (arith, f' tt, g' tt)))

module _ (d : Bool) (n : ℕ) (ts : List Triangle) (k : Cut (walk d n) ts) where
  times_all : (u v : ℕ) → times u v (edges ts) ≡ times u v (ring_edges (walk d n)) + times u v k.cuts + times v u k.cuts
  times_all u v = omega (arith, k.split (λ x. bit (is_edge u v x)), times_back u v k.cuts)

  differ : (u v : ℕ) → 0 < times u v k.cuts + times v u k.cuts → u ≡ v → ⊥
  differ u v h e = omega (arith, k.once u v, ap (λ (x : ℕ). times x v k.cuts) e, ap (λ (x : ℕ). times v x k.cuts) e)

  pairs_all : tally (inner (walk d n)) (edges ts) + 3 ≡ n
  pairs_all = omega (arith, k.split (λ x. bit (inner (walk d n) x)), k.size, walk_length d n, tally_none (inner (walk d n)) (ring_edges (walk d n)) ring, tally_either (inner (walk d n)) k.cuts cut)
    where
      ring : (u v : ℕ) → 0 < times u v (ring_edges (walk d n)) → bit (inner (walk d n) (edge u v)) ≡ 0
      ring u v h =
          let rs = ring_edges (walk d n) in
          let z = none_bit (times u v rs) h in
          omega (arith, z, and_left (ltb u v && eqb (times u v rs) 0) (eqb (times v u rs) 0), and_right (ltb u v) (eqb (times u v rs) 0))

      cut : (u v : ℕ) → 0 < times u v k.cuts → bit (inner (walk d n) (edge u v)) + bit (inner (walk d n) (edge v u)) ≡ 1
      cut u v h =
          let z : times u v (ring_edges (walk d n)) ≡ 0 = omega (arith, k.once u v) in
          let z' : times v u (ring_edges (walk d n)) ≡ 0 = omega (arith, k.once u v) in
          rw (z, z') (one_way u v (differ u v (omega arith)))

  pub cut_triangulation : Triangulation d n ts
  cut_triangulation =
      record {
        number = omega (arith, k.number, walk_length d n);
        below = λ u h. elim (dec_lt u n) [ yes l ↦ l | no l ↦ absurd (omega (arith, k.inside u (walk_past d n u (omega arith)))) ];
        along = λ u v h. omega (arith, times_all u v, times_all v u, k.once u v);
        across = λ u v z z' h. (differ u v (omega (arith, times_all u v)), omega (arith, times_all u v, k.once u v), omega (arith, times_all u v, times_all v u, k.once u v));
        pairs = pairs_all;
      }

-- ---- two more statements of it

-- The pairs other than ring edges, listed: n - 3 of them, none twice in either direction, and they are exactly the other edges that occur.
pub record Listed (forward : Bool) (n : ℕ) (ts : List Triangle) : Type 0 where
  pub others : List Edge
  pub number : length others + 3 ≡ n
  pub once : (u v : ℕ) → times u v others + times v u others ≤ 1
  pub exactly : (u v : ℕ) → times u v (edges ts) ≡ times u v (ring_edges (walk forward n)) + times u v others + times v u others
  pub apart : (u v : ℕ) → 0 < times u v others → (times u v (ring_edges (walk forward n)) ≡ 0) × (times v u (ring_edges (walk forward n)) ≡ 0)

pub cut_listed : (d : Bool) (n : ℕ) (ts : List Triangle) → Cut (walk d n) ts → Listed d n ts
cut_listed d n ts k =
    record {
      others = k.cuts;
      number = omega (arith, k.size, walk_length d n);
      once = λ u v. omega (arith, k.once u v);
      exactly = times_all d n ts k;
      apart = λ u v h. omega (arith, k.once u v);
    }

-- Where g weighs each edge as f weighs it turned round, f less g sums to the same over the triangles' edges and over the ring's.
pub cut_weights : (w : List ℕ) (ts : List Triangle) → Cut w ts → (f g : Edge → ℕ) → ((e : Edge) → g e ≡ f (back e)) → ((e : Edge) → f e ≡ g (back e))
    → total f (edges ts) + total g (ring_edges w) ≡ total g (edges ts) + total f (ring_edges w)
cut_weights w ts k f g h h' = omega (arith, k.split f, k.split g, total_same g (λ e. f (back e)) h k.cuts, total_same f (λ e. g (back e)) h' k.cuts)

-- ---- the triangulation

-- the cuts of every accepted clipping of a walk, whatever the test of what an ear is
pub clip_cut : (ear : List ℕ → ℕ → Bool) (d : Bool) (n : ℕ) (ts : List Triangle) → 3 ≤ n → clip ear (walk d n) ≡ given ts → Cut (walk d n) ts
clip_cut ear d n ts h e = clipped_cut (cutting_clipped ear (length (walk d n) - 3) (walk d n) ts (omega (arith, walk_length d n)) e) (walk_once d n)

pub clip_listed : (ear : List ℕ → ℕ → Bool) (d : Bool) (n : ℕ) (ts : List Triangle) → 3 ≤ n → clip ear (walk d n) ≡ given ts → Listed d n ts
clip_listed ear d n ts h e = cut_listed d n ts (clip_cut ear d n ts h e)

pub clip_triangulation : (ear : List ℕ → ℕ → Bool) (d : Bool) (n : ℕ) (ts : List Triangle) → 3 ≤ n → clip ear (walk d n) ≡ given ts → Triangulation d n ts
clip_triangulation ear d n ts h e = cut_triangulation d n ts (clip_cut ear d n ts h e)

pub triangles_triangulation : (xs ys : List Float) (ts : List Triangle) → triangles_of xs ys ≡ given ts → Triangulation (is_forward xs ys) (length xs) ts
unfolding triangles_of
triangles_triangulation xs ys ts e =
    let p = passed (leb 3 (length xs)) 3 (clip (is_ear xs ys) (walk (is_forward xs ys) (length xs))) e in
    clip_triangulation (is_ear xs ys) (is_forward xs ys) (length xs) ts (leb-true 3 (length xs) p.0) p.1
