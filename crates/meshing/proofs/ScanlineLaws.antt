-- The scanline, over plain values: a turn of each loop over the bands, its answer, and what it writes. Assumes nothing.
use mathlib.Core.Path.{◌≡◌, refl, sym, ap, subst, ◌∙◌}
use mathlib.Core.Bool.{Bool, true, false, ◌&&◌, false≢true}
use mathlib.Core.List.{List, [], ◌∷◌, ◌++◌}
use Prim.Native.Nat.{ℕ, ◌+◌, ◌*◌, ◌≤◌, ◌<◌}
use native.Mathlib.Numerals.{add-one}
use native.Mathlib.Omega.{arith}
use lib.Dec.{leb}
use lib.ListN.{length, take, drop, drop_of_length-le}
use lib.Seq.{drop-cons}
use lib.Ieee.{Float, nan, inf}
use Rattle.std.specs.Prelude.{Ok, Option, Some, None, IsSome}
use borrow.Author.Tests.{le-leb, lt-leb}
use Rattle.lists.specs.Answer.{Answer, refused, given, and_then, map_answer}
use Rattle.lists.specs.Counts.{tally, SameEntries}
use Rattle.lists.specs.Lists.{Below, put, runs, elems, all_of, joined}
use Rattle.lists.proofs.Answers.{refused_given, passed, given_same}
use Rattle.lists.proofs.Fills.{elems_length}
use Rattle.lists.proofs.Joined.{joined_most}
use Rattle.lists.proofs.Scans.{both}
use Rattle.lists.proofs.Sorts.{sort_length}
use Rattle.binary64.specs.Numbers.{at}
use Rattle.openrdson_core.specs.Points.{ring_fault}
use Rattle.openrdson_core.specs.Mesh.{Mesh, the_mesh, the_counts, unused, kind_number, fits}
use Rattle.openrdson_core.specs.declared.mesh.Counts.{Counts}
use Rattle.openrdson_core.specs.declared.mesh.ElementType.TheVariants.{Prism}
use Rattle.openrdson_core.specs.declared.ring.SoundRing.{SoundRing}
use Rattle.openrdson_core.proofs.Rings.{fine_ring}
use Rattle.meshing.specs.declared.quads.Quad.{Quad}
use Rattle.meshing.specs.declared.quads.Tally.{Tally}
use Rattle.meshing.specs.Added.{Part, Adds, fit_part}
use Rattle.meshing.specs.declared.levels.Band.{Band}
use Rattle.meshing.specs.Levels.{the_band, levels, bands_from, bands_of, middle}
use Rattle.meshing.specs.Crossings.{spanning, left_of, crossings, crosses_in, CrossedAs}
use Rattle.meshing.specs.Quads.{quad_in, quads_between, band_quads, quads_of}
use Rattle.meshing.specs.Scanline.{even_band, band_in, bands_in, scanline_of, quad_xs, quad_ys, quad_zs, quad_places, quads_part, Tallied, BandsAs}
use Rattle.meshing.proofs.BoxWrites.{same_adds}
use Rattle.meshing.proofs.CrossingLaws.{spanning_most, spanning_below, spanning_none, crossings_entries}
use Rattle.meshing.proofs.Even.{bands_even}
use Rattle.meshing.proofs.TriangulateLaws.{sound_fault}
use Rattle.meshing.proofs.Placed.{put_two}
use Rattle.meshing.proofs.QuadLaws.{pairs_most, Counted, count_start, count_more, count_end, Sofar, sofar_start, sofar_room, sofar_more, sofar_end, eight_xs}

-- nothing is against a sound ring
pub sound_ring : (r : SoundRing) → ring_fault r.ring.xs.now r.ring.ys.now ≡ given tt
sound_ring r = sound_fault r.ring.xs.now r.ring.ys.now r.ring.even r.ring.short r.in_range

-- ---- the bands from level k on

abbrev pub bands_at : List Float → ℕ → List Band
bands_at levels k = bands_from (at levels k) (drop (k + 1) levels)

pub bands_start : (levels : List Float) → bands_of levels ≡ bands_at levels 0
bands_start [] = refl
bands_start (y ∷ l) = refl

abbrev pub band_at : List Float → ℕ → Band
band_at levels k = the_band (at levels k) (at levels (k + 1))

pub bands_next : (levels : List Float) (k : ℕ) → k + 1 < length levels → bands_at levels k ≡ band_at levels k ∷ bands_at levels (k + 1)
bands_next levels k h =
    ap (bands_from (at levels k)) (drop-cons levels (k + 1) nan h ∙ ap (λ (n : ℕ). at levels (k + 1) ∷ drop n levels) (sym (add-one (k + 1))))

pub bands_last : (levels : List Float) (k : ℕ) → length levels ≤ k + 1 → bands_at levels k ≡ []
bands_last levels k h = ap (bands_from (at levels k)) (drop_of_length-le levels h)

-- ---- the crossings of a band

module _ (xs ys : List Float) (b : Band) {y : Float} (mid : y ≡ middle b) (edges : List ℕ) where
  -- its quads, from the edges that `cross` gives
  quads_are : (m : ℕ) → CrossedAs xs ys y (Some m) edges → quads_between xs ys b (take m edges) ≡ band_quads xs ys b
  unfolding band_quads
  quads_are m c = ap (quads_between xs ys b) (c.1 ∙ ap (crossings xs ys) mid)

  band_fine : (m : ℕ) → CrossedAs xs ys y (Some m) edges → band_in xs ys b ≡ true
  unfolding band_in
  band_fine m c = subst (λ (z : Float). all_of (crosses_in xs ys z) (crossings xs ys z) ≡ true) mid c.0

  band_out : CrossedAs xs ys y None edges → band_in xs ys b ≡ false
  unfolding band_in
  band_out c = subst (λ (z : Float). all_of (crosses_in xs ys z) (crossings xs ys z) ≡ false) mid c

-- the edges in hand, the first count of `edges`: those that span a height, in any order
pub record InHand (ys : List Float) (below : Float) (count : ℕ) (edges : List ℕ) : Type 0 where
  pub are : SameEntries (take count edges) (spanning ys below)
  pub few : count ≤ length ys

pub hand_start : (xs ys : List Float) {below : Float} (edges : List ℕ) → ring_fault xs ys ≡ given tt → below ≡ inf true → InHand ys below 0 edges
hand_start xs ys edges checked e =
    record {
      are = λ test. ap (tally test) (sym (ap (spanning ys) e ∙ spanning_none xs ys checked));
      few = omega arith;
    }

pub hand_next : (xs ys : List Float) (y : Float) (m : ℕ) (edges : List ℕ) → CrossedAs xs ys y (Some m) edges → InHand ys y m edges
hand_next xs ys y m edges c = record { are = λ test. ap (tally test) c.1 ∙ crossings_entries xs ys y test; few = c.2 }

-- what is lent of them
pub hand_below : (xs ys : List Float) (y : Float) (m : ℕ) (edges : List ℕ) → CrossedAs xs ys y (Some m) edges → length ys ≡ length xs → Below (length xs) (take m edges)
hand_below xs ys y m edges c e = spanning_below xs ys y (take m edges) (hand_next xs ys y m edges c).are (length xs) e

-- ---- the pass that decides

abbrev pub no_quads : Tally
no_quads = record { quads = 0; inside = true }

-- before band k: those before it are in range, and their quads are tallied, at most 512 a band
pub record Tallying (xs ys levels : List Float) (k : ℕ) (t : Tally) : Type 0 where
  pub in_range : bands_in xs ys (bands_of levels) ≡ bands_in xs ys (bands_at levels k)
  pub counted : Counted (joined (band_quads xs ys) (bands_of levels)) (joined (band_quads xs ys) (bands_at levels k)) no_quads t
  pub few : t.quads ≤ k * 512

module _ (xs ys levels : List Float) where
  pub tallying_start : Tallying xs ys levels 0 no_quads
  tallying_start =
      record {
        in_range = ap (bands_in xs ys) (bands_start levels);
        counted = count_start no_quads (ap (joined (band_quads xs ys)) (bands_start levels));
        few = omega arith;
      }

  module _ {k : ℕ} {t : Tally} (s : Tallying xs ys levels k t) where
    module _ (h : k + 1 < length levels) {y : Float} (mid : y ≡ middle (band_at levels k)) (edges : List ℕ) where
      pub tallying_turn : {m : ℕ} {r : Tally} → CrossedAs xs ys y (Some m) edges → length ys ≤ 512
          → Tallied t (quads_between xs ys (band_at levels k) (take m edges)) r → r.quads ≤ t.quads + m → Tallying xs ys levels (k + 1) r
      tallying_turn {m} c short is most =
          record {
            in_range = s.in_range ∙ ap (bands_in xs ys) (bands_next levels k h) ∙ ap (λ (p : Bool). p && bands_in xs ys (bands_at levels (k + 1))) (band_fine xs ys (band_at levels k) mid edges m c);
            counted = count_more s.counted (band_quads xs ys (band_at levels k)) (ap (joined (band_quads xs ys)) (bands_next levels k h)) (rw (quads_are xs ys (band_at levels k) mid edges m c) at is);
            few = omega (arith, s.few, most, c.2, short);
          }

      pub tallying_out : CrossedAs xs ys y None edges → BandsAs xs ys (bands_of levels) None
      tallying_out c =
          s.in_range ∙ ap (bands_in xs ys) (bands_next levels k h) ∙ ap (λ (p : Bool). p && bands_in xs ys (bands_at levels (k + 1))) (band_out xs ys (band_at levels k) mid edges c)

    pub tallying_end : length levels ≤ k + 1 → BandsAs xs ys (bands_of levels) (Some t)
    tallying_end h =
        let all = count_end s.counted (ap (joined (band_quads xs ys)) (bands_last levels k h)) in
        (s.in_range ∙ ap (bands_in xs ys) (bands_last levels k h), omega (arith, all.quads), all.inside)

-- ---- the pass that writes

-- before band k: the bands from it on are in range, and the quads of those before it are written
pub record Writing (xs ys levels : List Float) (k p place : ℕ) (nx₀ ny₀ nx ny : List Float) : Type 0 where
  pub in_range : bands_in xs ys (bands_at levels k) ≡ true
  pub wrote : Sofar (joined (band_quads xs ys) (bands_of levels)) (joined (band_quads xs ys) (bands_at levels k)) p place nx₀ ny₀ nx ny

module _ (xs ys levels : List Float) where
  pub writing_start : (p : ℕ) (nx ny : List Float) → bands_in xs ys (bands_of levels) ≡ true → Writing xs ys levels 0 p p nx ny nx ny
  writing_start p nx ny e =
      record {
        in_range = sym (ap (bands_in xs ys) (bands_start levels)) ∙ e;
        wrote = sofar_start p nx ny (ap (joined (band_quads xs ys)) (bands_start levels));
      }

  module _ {k p place : ℕ} {nx₀ ny₀ nx ny : List Float} (s : Writing xs ys levels k p place nx₀ ny₀ nx ny) where
    module _ (h : k + 1 < length levels) {y : Float} (mid : y ≡ middle (band_at levels k)) (edges : List ℕ) where
      here : (band_in xs ys (band_at levels k) ≡ true) × (bands_in xs ys (bands_at levels (k + 1)) ≡ true)
      here = both (band_in xs ys (band_at levels k)) (bands_in xs ys (bands_at levels (k + 1))) (sym (ap (bands_in xs ys) (bands_next levels k h)) ∙ s.in_range)

      rest : joined (band_quads xs ys) (bands_at levels k) ≡ band_quads xs ys (band_at levels k) ++ joined (band_quads xs ys) (bands_at levels (k + 1))
      rest = ap (joined (band_quads xs ys)) (bands_next levels k h)

      -- no crossing is out of range
      pub writing_some : (r : Option ℕ) → CrossedAs xs ys y r edges → IsSome r
      writing_some (Some m) c = refl
      writing_some None c = absurd (false≢true (sym (band_out xs ys (band_at levels k) mid edges c) ∙ here.0))

      module _ {m : ℕ} (c : CrossedAs xs ys y (Some m) edges) (room : p + length (joined quad_xs (joined (band_quads xs ys) (bands_of levels))) ≤ length nx₀) where
        pub writing_room : place + length (joined quad_xs (quads_between xs ys (band_at levels k) (take m edges))) ≤ length nx₀
        writing_room = rw (quads_are xs ys (band_at levels k) mid edges m c) (sofar_room s.wrote (band_quads xs ys (band_at levels k)) (joined (band_quads xs ys) (bands_at levels (k + 1))) rest room)

        pub writing_turn : {nx' ny' : List Float} {place' : ℕ} → length ny₀ ≡ length nx₀
            → nx' ≡ put nx place (joined quad_xs (quads_between xs ys (band_at levels k) (take m edges)))
            → ny' ≡ put ny place (joined quad_ys (quads_between xs ys (band_at levels k) (take m edges)))
            → place' ≡ place + length (joined quad_xs (quads_between xs ys (band_at levels k) (take m edges)))
            → Writing xs ys levels (k + 1) p place' nx₀ ny₀ nx' ny'
        writing_turn same x y' g =
            let e = quads_are xs ys (band_at levels k) mid edges m c in
            record {
              in_range = here.1;
              wrote = sofar_more s.wrote (band_quads xs ys (band_at levels k)) rest room same (rw e at x) (rw e at y') (rw e at g);
            }

    pub writing_end : length levels ≤ k + 1
        → (nx ≡ put nx₀ p (joined quad_xs (joined (band_quads xs ys) (bands_of levels)))) × (ny ≡ put ny₀ p (joined quad_ys (joined (band_quads xs ys) (bands_of levels))))
    writing_end h = let all = sofar_end s.wrote (ap (joined (band_quads xs ys)) (bands_last levels k h)) in (all.0, all.1)

-- ---- the answer: 3, 9, 1 for a crossing, 11, 1 for a node; 10 never applies

module _ (xs ys : List Float) where
  pub few_out : length xs < 3 → refused 3 ≡ map_answer length (scanline_of xs ys)
  unfolding scanline_of
  few_out h = rw (lt-leb 3 (length xs) h)

  module _ (three : 3 ≤ length xs) {l : List Float} (is : l ≡ levels ys) where
    pub level_out : length l < 2 → refused 9 ≡ map_answer length (scanline_of xs ys)
    unfolding scanline_of
    level_out h = rw (le-leb 3 (length xs) three, lt-leb 2 (length (levels ys)) (subst (λ (k : List Float). length k < 2) is h))

    enough : 2 ≤ length l → leb 2 (length (levels ys)) ≡ true
    enough two = le-leb 2 (length (levels ys)) (subst (λ (k : List Float). 2 ≤ length k) is two)

    even : all_of (even_band xs ys) (bands_of (levels ys)) ≡ true
    even = bands_even xs ys (bands_of (levels ys))

    module _ (two : 2 ≤ length l) (r : Option Tally) (found : BandsAs xs ys (bands_of l) r) where
      seen : (r' : Option Tally) → r ≡ r' → BandsAs xs ys (bands_of (levels ys)) r'
      seen r' e = subst (λ (k : List Float). BandsAs xs ys (bands_of k) r') is (subst (BandsAs xs ys (bands_of l)) e found)

      pub crossing_out : r ≡ None → refused 1 ≡ map_answer length (scanline_of xs ys)
      unfolding scanline_of
      crossing_out e = rw (le-leb 3 (length xs) three, enough two, even, seen None e)

      module _ {t : Tally} (e : r ≡ Some t) where
        count : t.quads ≡ length (quads_of xs ys)
        unfolding quads_of
        count = (seen (Some t) e).1

        inside : t.inside ≡ all_of quad_in (quads_of xs ys)
        unfolding quads_of
        inside = (seen (Some t) e).2

        pub none_out : t.quads ≡ 0 → refused 11 ≡ map_answer length (scanline_of xs ys)
        unfolding scanline_of
        none_out h = rw (le-leb 3 (length xs) three, enough two, even, (seen (Some t) e).0, lt-leb 1 (length (quads_of xs ys)) (omega (arith, count)))

        module _ (some : t.quads ≡ 0 → ⊥) where
          one : leb 1 (length (quads_of xs ys)) ≡ true
          one = le-leb 1 (length (quads_of xs ys)) (omega (arith, count))

          pub node_out : t.inside ≡ false → refused 1 ≡ map_answer length (scanline_of xs ys)
          unfolding scanline_of
          node_out h = rw (le-leb 3 (length xs) three, enough two, even, (seen (Some t) e).0, one, sym inside ∙ h)

          pub scan_done : t.inside ≡ true → given t.quads ≡ map_answer length (scanline_of xs ys)
          unfolding scanline_of
          scan_done h = rw (le-leb 3 (length xs) three, enough two, even, (seen (Some t) e).0, one, sym inside ∙ h, count)

-- ---- what is written

-- the two prisms of a quad, one after the other
pub two_prisms : (l : List ℕ) (at a : ℕ) {l' l'' : List ℕ} → at + 16 ≤ length l
    → l' ≡ put l at (a ∷ (a + 1) ∷ (a + 2) ∷ (a + 4) ∷ (a + 5) ∷ (a + 6) ∷ unused ∷ unused ∷ [])
    → l'' ≡ put l' (at + 8) (a ∷ (a + 2) ∷ (a + 3) ∷ (a + 4) ∷ (a + 6) ∷ (a + 7) ∷ unused ∷ unused ∷ [])
    → l'' ≡ put l at (quad_places a)
two_prisms l at a room e f = put_two l _ _ at (at + 8) e f refl (omega arith)

-- a ring whose quads are counted has them, and its crossings are in range
pub record Decided (xs ys : List Float) (n : ℕ) : Type 0 where
  pub is : scanline_of xs ys ≡ given (quads_of xs ys)
  pub count : length (quads_of xs ys) ≡ n
  pub in_range : bands_in xs ys (bands_of (levels ys)) ≡ true

mapped : {A B : Type 0} (f : A → B) (a : Answer A) {b : B} → map_answer f a ≡ given b → (x : A) × (a ≡ given x) × (f x ≡ b)
mapped f (refused n) e = refused_given e
mapped f (given x) e = (x, refl, given_same e)

pub decided : (xs ys : List Float) {n : ℕ} → map_answer length (scanline_of xs ys) ≡ given n → Decided xs ys n
unfolding scanline_of
decided xs ys {n} e =
    let found = mapped length (scanline_of xs ys) e in
    let three = passed (leb 3 (length xs)) 3 _ found.1 in
    let two = passed (leb 2 (length (levels ys))) 9 _ three.1 in
    let even = passed (all_of (even_band xs ys) (bands_of (levels ys))) 10 _ two.1 in
    let range = passed (bands_in xs ys (bands_of (levels ys))) 1 _ even.1 in
    let some = passed (leb 1 (length (quads_of xs ys))) 11 _ range.1 in
    let inside = passed (all_of quad_in (quads_of xs ys)) 1 _ some.1 in
    let same = given_same inside.1 in
    record {
      is = found.1 ∙ ap given (sym same);
      count = ap length same ∙ found.2;
      in_range = range.0;
    }

-- a band has no more quads than the ring has points, and there are fewer bands than levels
band_most : (xs ys : List Float) (b : Band) → length (band_quads xs ys b) ≤ length ys
unfolding band_quads crossings
band_most xs ys b =
    omega (
      arith,
      pairs_most xs ys b (crossings xs ys (middle b)),
      sort_length (left_of xs ys (middle b)) (spanning ys (middle b)),
      spanning_most ys (middle b),
    )

bands_most : (l : List Float) → length (bands_of l) ≤ length l
bands_most [] = omega arith
bands_most (y ∷ l) = omega (arith, go y l)
  where
    go : (y : Float) (l : List Float) → length (bands_from y l) ≡ length l
    go y [] = refl
    go y (z ∷ l) = omega (arith, go z l)

pub quads_most : (xs ys : List Float) → length ys ≤ 512 → length (levels ys) ≤ 512 → length (quads_of xs ys) ≤ 262144
unfolding quads_of
quads_most xs ys short few =
    omega (arith, joined_most (band_quads xs ys) 512 (λ b. omega (arith, band_most xs ys b, short)) (bands_of (levels ys)), bands_most (levels ys), few)

-- the quads of the bands between the levels
pub drawn : (xs ys : List Float) {l : List Float} → l ≡ levels ys → joined (band_quads xs ys) (bands_of l) ≡ quads_of xs ys
unfolding quads_of
drawn xs ys = ap (λ (k : List Float). joined (band_quads xs ys) (bands_of k))

-- what is asked of the ring to write its quads: its bands are in range, and there is room for their nodes
module _ (xs ys : List Float) {l : List Float} (is : l ≡ levels ys) {n : ℕ} (d : Decided xs ys n) where
  pub bands_fine : bands_in xs ys (bands_of l) ≡ true
  bands_fine = ap (λ (k : List Float). bands_in xs ys (bands_of k)) is ∙ d.in_range

  pub quads_few : ring_fault xs ys ≡ given tt → length l ≤ 512 → n ≤ 262144
  quads_few checked few = let ring = fine_ring xs ys checked in omega (arith, quads_most xs ys (omega (arith, ring.even, ring.short)) (omega (arith, ap length is, few)), d.count)

pub bands_room : (xs ys : List Float) {n : ℕ} → Decided xs ys n → (p len : ℕ) → p + 8 * n ≤ len → p + length (joined quad_xs (quads_of xs ys)) ≤ len
bands_room xs ys d p len h = omega (arith, h, eight_xs (quads_of xs ys), d.count)

module _ (xs ys : List Float) (z0 z1 : Float) (c : Counts) (region : ℕ) (m : Mesh) where
  abbrev pub scanline_part : Answer Part
  scanline_part = and_then (map_answer (quads_part c.nodes z0 z1) (scanline_of xs ys)) (fit_part c m)

  module _ {n : ℕ} (d : Decided xs ys n) where
    abbrev part : Part
    part = quads_part c.nodes z0 z1 (quads_of xs ys)

    fitted : scanline_part ≡ fit_part c m part
    fitted = ap (λ (a : Answer (List Quad)). and_then (map_answer (quads_part c.nodes z0 z1) a) (fit_part c m)) d.is

    nodes : length part.xs ≡ 8 * n
    unfolding quads_part
    nodes = omega (arith, eight_xs (quads_of xs ys), d.count)

    elements : length part.kinds ≡ 2 * n
    unfolding quads_part
    elements = omega (arith, elems_length (λ _. kind_number Prism) (2 * length (quads_of xs ys)), d.count)

    -- there is no room: 12
    pub nodes_out : fits (8 * n) c.nodes (length m.xs) ≡ false → scanline_part ≡ refused 12
    unfolding fit_part
    nodes_out e = fitted ∙ rw (nodes, e)

    pub elements_out : fits (8 * n) c.nodes (length m.xs) ≡ true → fits (2 * n) c.elements (length m.kinds) ≡ false → scanline_part ≡ refused 12
    unfolding fit_part
    elements_out e f = fitted ∙ rw (nodes, e, elements, f)

    -- the quads are written
    pub quads_add : fits (8 * n) c.nodes (length m.xs) ≡ true → fits (2 * n) c.elements (length m.kinds) ≡ true
        → {nx ny nz : List Float} {kinds places regions : List ℕ}
        → nx ≡ put m.xs c.nodes (joined quad_xs (quads_of xs ys))
        → ny ≡ put m.ys c.nodes (joined quad_ys (quads_of xs ys))
        → nz ≡ put m.zs c.nodes (runs n (λ _. quad_zs z0 z1))
        → kinds ≡ put m.kinds c.elements (elems (2 * n) (λ _. kind_number Prism))
        → places ≡ put m.places (8 * c.elements) (runs n (λ i. quad_places (c.nodes + i * 8)))
        → regions ≡ put m.regions c.elements (elems (2 * n) (λ _. region))
        → Adds scanline_part c region m (the_mesh nx ny nz kinds places regions) (Ok (the_counts (c.nodes + 8 * n) (c.elements + 2 * n)))
    unfolding fit_part quads_part
    quads_add e f p q r s t u =
        same_adds {a = given part} (sym (fitted ∙ rw (nodes, e, elements, f)))
        (record {
          answer = rw (nodes, elements);
          lists = rw (p, q, r, s, t, u, elems_length (λ _. kind_number Prism) (2 * length (quads_of xs ys)), d.count);
        })
