-- Triangulating: the cleaned ring is a ring, each refusal, and what is written is a triangulation. Assumes nothing.
use mathlib.Core.Path.{◌≡◌, refl, sym, ap, subst, ◌∙◌}
use mathlib.Core.Bool.{Bool, true, false, not}
use mathlib.Core.List.{List, [], ◌∷◌}
use Prim.Native.Nat.{ℕ, ◌*◌, ◌≤◌, ◌<◌}
use native.Mathlib.Omega.{arith}
use lib.Dec.{eqb, leb}
use lib.ListN.{length, get_or, take}
use lib.Ieee.{Float, nan, lt}
use Rattle.std.specs.Prelude.{Result, Ok, Err}
use borrow.Author.Tests.{le-leb, lt-leb, eq-eqb, ne_eqb}
use Rattle.lists.specs.Answer.{Answer, refused, given, unless, map_answer, left}
use Rattle.lists.specs.Lists.{put, elems, Below}
use Rattle.lists.proofs.Answers.{refused_given, passed, passed_then, given_same}
use Rattle.lists.proofs.Fills.{put_start, elems_length}
use Rattle.lists.proofs.Scans.{all_at, all_from}
use Rattle.lists.proofs.Places.{gather_length, gather_all, below_at}
use Rattle.lists.proofs.Stores.{map_at}
use Rattle.binary64.specs.Constants.{zero64}
use Rattle.openrdson_core.specs.Answers.{answer}
use Rattle.openrdson_core.specs.Area.{signed_area}
use Rattle.openrdson_core.specs.declared.refusals.Refusal.{Refusal}
use Rattle.openrdson_core.specs.Points.{point_at, point_in, points_in, ring_fault, of_ring}
use Rattle.meshing.specs.Ring.{kept, gathered}
use Rattle.meshing.specs.Triangles.{Triangle, tri, corners, triples, walk, Triangulation}
use Rattle.meshing.specs.Clipping.{clip}
use Rattle.meshing.specs.Ears.{is_ear, is_forward, triangles_of}
use Rattle.meshing.specs.Triangulate.{Cutting, fitted, cutting, triangulate_polygon, numbers, Leaves, TriangulationLeft}
use Rattle.meshing.specs.declared.triangulate.Corners.{Corners}
use Rattle.meshing.specs.declared.triangulate.PolygonCounts.{PolygonCounts}
use Rattle.meshing.proofs.Written.{triples_corners}
use Rattle.openrdson_core.proofs.Rings.{fine_ring, fine_points}
use Rattle.meshing.proofs.RingLaws.{kept_below, kept_most}
use Rattle.meshing.proofs.Triangulations.{triangles_triangulation}

-- ---- the points at places of a ring are a ring

module _ (xs ys : List Float) (ks : List ℕ) (e : ring_fault xs ys ≡ given tt) (b : Below (length xs) ks) where
  gathered_points : points_in (gathered xs ks) (gathered ys ks) ≡ true
  gathered_points =
      all_from (λ i. point_in (point_at (gathered xs ks) (gathered ys ks) i)) (length (gathered xs ks)) (λ i h.
      let l : i < length ks = omega (arith, h, gather_length nan xs ks) in
      rw (map_at (λ k. get_or xs k nan) ks i 0 nan l, map_at (λ k. get_or ys k nan) ks i 0 nan l)
      (all_at (λ j. point_in (point_at xs ys j)) (length xs) (fine_points xs ys e) (get_or ks i 0) (below_at (length xs) ks i b l)))

  pub gathered_ring : length ks ≤ 512 → ring_fault (gathered xs ks) (gathered ys ks) ≡ given tt
  unfolding ring_fault
  gathered_ring h =
      rw (gathered_points, gather_length nan xs ks, gather_length nan ys ks, eq-eqb (length ks) (length ks) refl, le-leb (length ks) 512 h)

-- a ring cleaned is a ring
pub kept_ring : (xs ys : List Float) {rx ry : List Float} → rx ≡ gathered xs (kept xs ys) → ry ≡ gathered ys (kept xs ys) → ring_fault xs ys ≡ given tt → ring_fault rx ry ≡ given tt
kept_ring xs ys e f g = rw (e, f) (gathered_ring xs ys (kept xs ys) g (kept_below xs ys) (omega (arith, kept_most xs ys, (fine_ring xs ys g).short)))

-- nothing is against a sound ring, and a sound ring cleaned is sound
pub sound_fault : (xs ys : List Float) → length xs ≡ length ys → length xs ≤ 512 → points_in xs ys ≡ true → ring_fault xs ys ≡ given tt
unfolding ring_fault
sound_fault xs ys e s p = rw (eq-eqb (length xs) (length ys) e, le-leb (length xs) 512 s, p)

pub kept_sound : (xs ys : List Float) {rx ry : List Float} → rx ≡ gathered xs (kept xs ys) → ry ≡ gathered ys (kept xs ys) → length xs ≡ length ys → length xs ≤ 512 → points_in xs ys ≡ true → points_in rx ry ≡ true
kept_sound xs ys e f even short p = fine_points _ _ (kept_ring xs ys e f (sound_fault xs ys even short p))

-- ---- refusals

pub lists_uneven : (xs ys : List Float) (m n c : ℕ) → (m ≡ n → ⊥) → triangulate_polygon xs ys m n c ≡ refused 16
unfolding triangulate_polygon
lists_uneven xs ys m n c h = rw (ne_eqb m n h)

pub ring_refused : (xs ys : List Float) (m n c : ℕ) {why : ℕ} → m ≡ n → ring_fault xs ys ≡ refused why → triangulate_polygon xs ys m n c ≡ refused why
unfolding triangulate_polygon
ring_refused xs ys m n c h e = rw (eq-eqb m n h, e)

pub ring_fine : (xs ys : List Float) (m n c : ℕ) → m ≡ n → ring_fault xs ys ≡ given tt → triangulate_polygon xs ys m n c ≡ cutting xs ys m c (kept xs ys)
unfolding triangulate_polygon
ring_fine xs ys m n c h e = rw (eq-eqb m n h, e)

pub ring_few : (xs ys : List Float) → length xs < 3 → triangles_of xs ys ≡ refused 3
unfolding triangles_of
ring_few xs ys h = rw (lt-leb 3 (length xs) h)

module _ (xs ys : List Float) (m c : ℕ) (ks : List ℕ) where
  pub not_cut : {why : ℕ} → triangles_of (gathered xs ks) (gathered ys ks) ≡ refused why → cutting xs ys m c ks ≡ refused why
  unfolding cutting
  not_cut e = rw e

  few : length ks < 3 → triangles_of (gathered xs ks) (gathered ys ks) ≡ refused 3
  few h = ring_few (gathered xs ks) (gathered ys ks) (omega (arith, h, gather_length nan xs ks))

  pub too_few : length ks < 3 → cutting xs ys m c ks ≡ refused 3
  too_few h = not_cut (few h)

  -- with the triangles known, 12 is left
  pub cut_to : {ts : List Triangle} → triangles_of (gathered xs ks) (gathered ys ks) ≡ given ts → cutting xs ys m c ks ≡ fitted m c ks ts
  unfolding cutting
  cut_to e = rw e

module _ (m c : ℕ) (ks : List ℕ) (ts : List Triangle) where
  pub no_ring_room : m < length ks → fitted m c ks ts ≡ refused 12
  unfolding fitted
  no_ring_room h = rw (lt-leb (length ks) m h)

  pub no_corner_room : length ks ≤ m → c < length (corners ts) → fitted m c ks ts ≡ refused 12
  unfolding fitted
  no_corner_room h l = rw (le-leb (length ks) m h, lt-leb (length (corners ts)) c l)

  pub has_room : length ks ≤ m → length (corners ts) ≤ c → fitted m c ks ts ≡ given (record { ring = ks; triangles = ts })
  unfolding fitted
  has_room h l = rw (le-leb (length ks) m h, le-leb (length (corners ts)) c l)

-- ---- what a refusal leaves, and an answer

pub refused_leaves : {xs ys ox oy : List Float} {cs : List ℕ} {r : Result PolygonCounts Refusal} (a : Answer Cutting) {n : ℕ} → a ≡ refused n → answer r ≡ refused n → Leaves a xs ys ox oy cs r ox oy cs
refused_leaves a e f = rw e (record { answer = f; writes_x = refl; writes_y = refl; writes_corners = refl })

pub given_leaves : {xs ys ox oy : List Float} {cs : List ℕ} {ox' oy' : List Float} {cs' : List ℕ} (a : Answer Cutting) (ks : List ℕ) (ts : List Triangle) {v t : ℕ}
    → a ≡ given (record { ring = ks; triangles = ts }) → v ≡ length ks → t ≡ length ts → ox' ≡ put ox 0 (gathered xs ks) → oy' ≡ put oy 0 (gathered ys ks) → cs' ≡ put cs 0 (corners ts)
    → Leaves a xs ys ox oy cs (Ok (record { vertices = v; triangles = t })) ox' oy' cs'
given_leaves a ks ts e f g x y z = rw e (record { answer = rw (f, g); writes_x = x; writes_y = y; writes_corners = z })

-- the same of the points at some places, gathered, and of those at all places of what was gathered
fit_same : {B : Type 0} (F G : Cutting → B) (m c : ℕ) (is ks : List ℕ) (ts : List Triangle) → length is ≡ length ks
    → F (record { ring = is; triangles = ts }) ≡ G (record { ring = ks; triangles = ts }) → map_answer F (fitted m c is ts) ≡ map_answer G (fitted m c ks ts)
unfolding fitted
fit_same F G m c is ks ts n e = rw n (at (leb (length ks) m) (leb (length (corners ts)) c))
  where
    at : (p q : Bool) → map_answer F (unless p 12 (unless q 12 (given (record { ring = is; triangles = ts })))) ≡ map_answer G (unless p 12 (unless q 12 (given (record { ring = ks; triangles = ts }))))
    at true true = ap given e
    at true false = refl
    at false q = refl

pub leaves_gathered : (xs ys : List Float) {rx ry ox oy : List Float} {cs : List ℕ} {r : Result PolygonCounts Refusal} {ox' oy' : List Float} {cs' : List ℕ} (m c : ℕ) (ks : List ℕ) (ts : List Triangle)
    → rx ≡ gathered xs ks → ry ≡ gathered ys ks → Leaves (fitted m c (elems (length rx) (λ i. i)) ts) rx ry ox oy cs r ox' oy' cs' → Leaves (fitted m c ks ts) xs ys ox oy cs r ox' oy' cs'
leaves_gathered xs ys {rx} {ry} {ox} {oy} {cs} m c ks ts e f l =
    let is : List ℕ = elems (length rx) (λ i. i) in
    let n : length is ≡ length ks = elems_length (λ i. i) (length rx) ∙ ap length e ∙ gather_length nan xs ks in
    let even : length rx ≡ length ry = omega (arith, ap length e, ap length f, gather_length nan xs ks, gather_length nan ys ks) in
    let gx : gathered rx is ≡ gathered xs ks = gather_all nan rx (length rx) refl ∙ e in
    let gy : gathered ry is ≡ gathered ys ks = gather_all nan ry (length rx) even ∙ f in
    record {
      answer = l.answer ∙ fit_same numbers numbers m c is ks ts n (ap (λ (k : ℕ). record { vertices = k; triangles = length ts }) n);
      writes_x = l.writes_x ∙ ap (λ (a : Answer (List Float)). left a ox) (fit_same (λ (k : Cutting). put ox 0 (gathered rx k.ring)) (λ (k : Cutting). put ox 0 (gathered xs k.ring)) m c is ks ts n (ap (put ox 0) gx));
      writes_y = l.writes_y ∙ ap (λ (a : Answer (List Float)). left a oy) (fit_same (λ (k : Cutting). put oy 0 (gathered ry k.ring)) (λ (k : Cutting). put oy 0 (gathered ys k.ring)) m c is ks ts n (ap (put oy 0) gy));
      writes_corners = l.writes_corners ∙ ap (λ (a : Answer (List ℕ)). left a cs) (fit_same (λ (k : Cutting). put cs 0 (corners k.triangles)) (λ (k : Cutting). put cs 0 (corners k.triangles)) m c is ks ts n refl);
    }

-- ---- what is written is a triangulation

pub corners_length : (ts : List Triangle) → length (corners ts) ≡ length ts * 3
corners_length [] = refl
corners_length (tri a b c ∷ ts) = omega (arith, corners_length ts)

module _ (xs ys : List Float) where
  fitted_is : (m k : ℕ) (ks : List ℕ) (ts : List Triangle) (c : Cutting) → fitted m k ks ts ≡ given c → (record { ring = ks; triangles = ts }) ≡ c
  unfolding fitted
  fitted_is m k ks ts c e = given_same (passed (leb (length (corners ts)) k) 12 _ (passed (leb (length ks) m) 12 _ e).1).1

  cutting_is : (m k : ℕ) (ks : List ℕ) (c : Cutting) → cutting xs ys m k ks ≡ given c → triangles_of (gathered xs c.ring) (gathered ys c.ring) ≡ given c.triangles
  unfolding cutting
  cutting_is m k ks c e =
      let p = passed_then (triangles_of (gathered xs ks) (gathered ys ks)) (fitted m k ks) e in
      subst (λ (d : Cutting). triangles_of (gathered xs d.ring) (gathered ys d.ring) ≡ given d.triangles) (fitted_is m k ks p.0 c p.2) p.1

  polygon_is : (m n k : ℕ) (c : Cutting) → triangulate_polygon xs ys m n k ≡ given c → triangles_of (gathered xs c.ring) (gathered ys c.ring) ≡ given c.triangles
  unfolding triangulate_polygon
  polygon_is m n k c e =
      let p = passed_then (ring_fault xs ys) (λ _. cutting xs ys m k (kept xs ys)) (passed (eqb m n) 16 _ e).1 in
      cutting_is m k (kept xs ys) c p.2

  module _ (c : Cutting) (e : triangles_of (gathered xs c.ring) (gathered ys c.ring) ≡ given c.triangles) where
    triangulation_left : (ox oy : List Float) (cs : List ℕ) {ox' oy' : List Float} {cs' : List ℕ} (v t : ℕ) → v ≡ length c.ring → t ≡ length c.triangles
        → ox' ≡ put ox 0 (gathered xs c.ring) → oy' ≡ put oy 0 (gathered ys c.ring) → cs' ≡ put cs 0 (corners c.triangles)
        → Triangulation (is_forward (take v ox') (take v oy')) v (triples (take (t * 3) cs'))
    triangulation_left ox oy cs v t f g x y z =
        let gx : take v _ ≡ gathered xs c.ring = put_start ox (gathered xs c.ring) x (f ∙ sym (gather_length nan xs c.ring)) in
        let gy : take v _ ≡ gathered ys c.ring = put_start oy (gathered ys c.ring) y (f ∙ sym (gather_length nan ys c.ring)) in
        let many : t * 3 ≡ length (corners c.triangles) = omega (arith, g, corners_length c.triangles) in
        let gc : triples (take (t * 3) _) ≡ c.triangles = ap triples (put_start cs (corners c.triangles) z many) ∙ triples_corners c.triangles in
        let h : v ≡ length (gathered xs c.ring) = f ∙ sym (gather_length nan xs c.ring) in
        rw (gx, gy, gc, h) (triangles_triangulation (gathered xs c.ring) (gathered ys c.ring) c.triangles e)

-- what the call leaves is a triangulation
pub leaves_triangulation : (xs ys ox oy : List Float) (cs : List ℕ) (r : Result PolygonCounts Refusal) {ox' oy' : List Float} {cs' : List ℕ} (a : Answer Cutting)
    → triangulate_polygon xs ys (length ox) (length oy) (length cs) ≡ a → Leaves a xs ys ox oy cs r ox' oy' cs' → TriangulationLeft r ox' oy' cs'
leaves_triangulation xs ys ox oy cs (Err why) a e l = tt
leaves_triangulation xs ys ox oy cs (Ok n) (refused k) e l = refused_given (sym l.answer)
leaves_triangulation xs ys ox oy cs (Ok n) (given c) e l =
    let same = given_same l.answer in
    triangulation_left xs ys c (polygon_is xs ys (length ox) (length oy) (length cs) c e) ox oy cs n.vertices n.triangles (ap (λ (p : PolygonCounts). p.vertices) same) (ap (λ (p : PolygonCounts). p.triangles) same) l.writes_x l.writes_y l.writes_corners

-- what is left depends on the answer alone
pub same_leaves : {xs ys ox oy : List Float} {cs : List ℕ} {r : Result PolygonCounts Refusal} {ox' oy' : List Float} {cs' : List ℕ} {a b : Answer Cutting} → a ≡ b → Leaves a xs ys ox oy cs r ox' oy' cs' → Leaves b xs ys ox oy cs r ox' oy' cs'
same_leaves {xs = xs} {ys = ys} {ox = ox} {oy = oy} {cs = cs} {r = r} {ox' = ox'} {oy' = oy'} {cs' = cs'} e = subst (λ (a : Answer Cutting). Leaves a xs ys ox oy cs r ox' oy' cs') e

-- ---- clipping a ring in the direction of its area

module _ (xs ys : List Float) (e : ring_fault xs ys ≡ given tt) where
  -- a checked ring has an area
  pub area_given : {n : ℕ} {X : Type 0} → refused n ≡ of_ring xs ys (signed_area xs ys) → X
  area_given f = refused_given {a = signed_area xs ys} (f ∙ rw e)

  pub area_is : {a : Float} → given a ≡ of_ring xs ys (signed_area xs ys) → a ≡ signed_area xs ys
  area_is f = given_same (f ∙ rw e)

-- the triangles of a ring of three points or more are those of its walk
pub ring_triangles : (xs ys : List Float) (a : Float) (w : List ℕ) → 3 ≤ length xs → a ≡ signed_area xs ys → w ≡ walk (not (lt a zero64)) (length xs)
    → clip (is_ear xs ys) w ≡ triangles_of xs ys
unfolding triangles_of
ring_triangles xs ys a w h f g =
    rw (le-leb 3 (length xs) h) (ap (clip (is_ear xs ys)) (g ∙ ap (λ (x : Float). walk (not (lt x zero64)) (length xs)) f))

-- ---- what clipping a ring answers

stalled : (a : Answer (List Triangle)) {n : ℕ} → refused n ≡ map_answer corners a → a ≡ refused n
stalled (refused k) e = sym (ap (map_answer (λ (l : List ℕ). triples l)) e)
stalled (given ts) e = refused_given e

done : (a : Answer (List Triangle)) (l : List ℕ) → given l ≡ map_answer corners a → (a ≡ given (triples l)) × (corners (triples l) ≡ l)
done (refused n) l e = refused_given (sym e)
done (given ts) l e =
    let f : l ≡ corners ts = given_same e in
    let g : triples l ≡ ts = ap triples f ∙ triples_corners ts in
    (ap given (sym g), ap corners g ∙ sym f)

-- what a call that gives corners answers
pub corners_refused : (r : Result Corners Refusal) (a : Answer (List Triangle)) {n : ℕ} → refused n ≡ map_answer corners a → answer r ≡ refused n → map_answer (λ (c : Corners). triples c.places.now) (answer r) ≡ a
corners_refused r a e f = rw f (sym (stalled a e))

pub corners_given : (a : Answer (List Triangle)) (l : List ℕ) → given l ≡ map_answer corners a → (given (triples l) ≡ a) × (corners (triples l) ≡ l)
corners_given a l e = let d = done a l e in (sym d.0, d.1)

-- The points at the places kept, gathered, are rx and ry.
module _ (xs ys rx ry : List Float) (m c : ℕ) (e : rx ≡ gathered xs (kept xs ys)) (f : ry ≡ gathered ys (kept xs ys)) where
  same_triangles : triangles_of rx ry ≡ triangles_of (gathered xs (kept xs ys)) (gathered ys (kept xs ys))
  same_triangles = ap (λ (l : List Float). triangles_of l ry) e ∙ ap (triangles_of (gathered xs (kept xs ys))) f

  pub cut_stalled : {n : ℕ} → refused n ≡ triangles_of rx ry → cutting xs ys m c (kept xs ys) ≡ refused n
  cut_stalled g = not_cut xs ys m c (kept xs ys) (sym same_triangles ∙ sym g)

  pub cut_done : (ts : List Triangle) → given ts ≡ triangles_of rx ry → fitted m c (kept xs ys) ts ≡ cutting xs ys m c (kept xs ys)
  cut_done ts g = sym (cut_to xs ys m c (kept xs ys) (sym same_triangles ∙ sym g))
