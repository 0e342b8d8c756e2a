-- Laws of a mesh's definitions: the lengths of parallel lists, room, and the places of a valid element. Assumes nothing.
use mathlib.Core.Path.{◌≡◌, refl, sym, ap, ◌∙◌}
use mathlib.Core.Bool.{Bool, true, false, ◌&&◌, ◌||◌}
use mathlib.Core.List.{List}
use Rattle.std.specs.Prelude.{Option, Some, None}
use Prim.Native.Nat.{ℕ, ◌+◌, ◌-◌, ◌*◌, ◌/◌, ◌%◌, ◌<◌, ◌≤◌}
use native.Mathlib.Omega.{arith}
use lib.Dec.{eqb, leb, ltb}
use lib.ListN.{length, get_or, take, drop, length-drop}
use lib.Seq.{length-take-le, get_or-take, get_or-drop}
use mathlib.Core.Logic.{⊎_elim}
use Rattle.std.proofs.lemmas.Bool.{cases_lt}
use borrow.Author.Tests.{eq-eqb, ne_eqb, eqb-true, lt-ltb, le-ltb, ltb-true, leb-true}
use Rattle.lists.specs.Lists.{all_below}
use Rattle.lists.proofs.Parts.{part_at}
use Rattle.lists.proofs.Scans.{both, all_from, all_at, all_same}
use Rattle.openrdson_core.specs.Mesh.{Mesh, unused, kind_number, node_count, kind_of, parallel_lengths, parallel, within_lengths, within, fits, known, used_places, rest_unused, first_below, sound_element, inside_element, valid_element, kind_at, places_of, used_of, kind_ok, unused_ok, used_below, element_ok, well_formed}
use Rattle.openrdson_core.specs.declared.mesh.ElementType.{ElementType}
use Rattle.openrdson_core.specs.declared.mesh.ElementType.TheVariants.{Tet, Hex, Prism, Pyramid}
use Rattle.openrdson_core.specs.declared.mesh.Counts.{Counts}

same_test : (p q : Bool) → (p ≡ true → q ≡ true) → (q ≡ true → p ≡ true) → p ≡ q
same_test true q f g = sym (f refl)
same_test false true f g = g refl
same_test false false f g = refl

-- ---- the lists

-- eight places a kind, as a program tests it
pub eight_each : (places kinds : ℕ) → places % 8 ≡ 0 → eqb (places / 8) kinds ≡ eqb places (8 * kinds)
eight_each places kinds h =
    same_test
    (eqb (places / 8) kinds)
    (eqb places (8 * kinds))
    (λ e. let f = eqb-true (places / 8) kinds e in eq-eqb places (8 * kinds) (omega arith))
    (λ e. let f = eqb-true places (8 * kinds) e in eq-eqb (places / 8) kinds (omega arith))

pub not_eight : (places kinds : ℕ) → (places % 8 ≡ 0 → ⊥) → eqb places (8 * kinds) ≡ false
not_eight places kinds h = ne_eqb places (8 * kinds) (λ e. h (omega arith))

-- the lengths of parallel lists
pub record Lengths (xs ys zs kinds places regions : ℕ) : Type 0 where
  pub same_ys : xs ≡ ys
  pub same_zs : xs ≡ zs
  pub same_regions : kinds ≡ regions
  pub eight_places : places ≡ 8 * kinds

pub equal_lengths : (xs ys zs kinds places regions : ℕ) → parallel_lengths xs ys zs kinds places regions ≡ true → Lengths xs ys zs kinds places regions
unfolding parallel_lengths
equal_lengths xs ys zs kinds places regions e =
    let last = both (eqb xs ys && eqb xs zs && eqb kinds regions) (eqb places (8 * kinds)) e in
    let third = both (eqb xs ys && eqb xs zs) (eqb kinds regions) last.0 in
    let two = both (eqb xs ys) (eqb xs zs) third.0 in
    record {
      same_ys = eqb-true _ _ two.0;
      same_zs = eqb-true _ _ two.1;
      same_regions = eqb-true _ _ third.1;
      eight_places = eqb-true _ _ last.1;
    }

-- the counts are within the lists
pub counts_in : (c : Counts) (nodes kinds : ℕ) → within_lengths c nodes kinds ≡ true → (c.nodes ≤ nodes) × (c.elements ≤ kinds)
unfolding within_lengths
counts_in c nodes kinds e =
    let parts = both (leb c.nodes nodes) (leb c.elements kinds) e in
    (leb-true _ _ parts.0, leb-true _ _ parts.1)

-- there is room for n more entries
pub room_for : (n at len : ℕ) → fits n at len ≡ true → (at + n ≤ 1048576) × (at + n ≤ len)
unfolding fits
room_for n at len e =
    let parts = both (leb (at + n) 1048576) (leb (at + n) len) e in
    (leb-true _ _ parts.0, leb-true _ _ parts.1)

-- ---- kinds

-- a kind's number stands for it
pub kind_of_number : (t : ElementType) → kind_of (kind_number t) ≡ Some t
unfolding kind_of
kind_of_number Tet = refl
kind_of_number Hex = refl
kind_of_number Prism = refl
kind_of_number Pyramid = refl

-- ---- the places of an element

-- no kind uses more than the eight
pub used_most : (t : ElementType) → node_count t ≤ 8
used_most Tet = omega arith
used_most Hex = omega arith
used_most Prism = omega arith
used_most Pyramid = omega arith

-- a kind uses some place
pub used_some : (t : ElementType) → 0 < node_count t
used_some Tet = omega arith
used_some Hex = omega arith
used_some Prism = omega arith
used_some Pyramid = omega arith

module _ (n : ℕ) (places : List ℕ) where
  -- place i is one of the first n, or unused
  abbrev pub empty_at : ℕ → Bool
  empty_at i = ltb i n || eqb (get_or places i 0) unused

  pub rest_start : all_below n empty_at ≡ true
  rest_start = all_from empty_at n (λ i l. rw (lt-ltb i n l))

  -- the places from n on, as a list of their own
  pub rest_is : n ≤ 8 → length places ≡ 8 → all_below (length (drop n places)) (λ i. eqb (get_or (drop n places) i 0) unused) ≡ rest_unused n places
  unfolding rest_unused
  rest_is m e =
      let here = λ (i : ℕ). eqb (get_or (drop n places) i 0) unused in
      let count : length (drop n places) ≡ 8 - n = omega (arith, length-drop n places) in
      same_test
      (all_below (length (drop n places)) here)
      (all_below 8 empty_at)
      (λ h. all_from empty_at 8 (λ i l. ⊎_elim
      (λ (k : i < n). rw (lt-ltb i n k))
      (λ (k : n ≤ i).
      let at : n + (i - n) ≡ i = omega arith in
      rw (le-ltb i n k) (ap (λ (j : ℕ). eqb (get_or places j 0) unused) (sym at) ∙ ap (λ (p : ℕ). eqb p unused) (sym (get_or-drop n places (i - n) 0)) ∙ all_at here (length (drop n places)) h (i - n) (omega arith)))
      (cases_lt i n)))
      (λ h. all_from here (length (drop n places)) (λ i l.
      let k : n ≤ n + i = omega arith in
      let at : (ltb (n + i) n || eqb (get_or places (n + i) 0) unused) ≡ true = all_at empty_at 8 h (n + i) (omega arith) in
      ap (λ (p : ℕ). eqb p unused) (get_or-drop n places i 0) ∙ (sym (rw (le-ltb (n + i) n k)) ∙ at)))

module _ (nodes : ℕ) (places : List ℕ) where
  -- place i is below the number of nodes
  abbrev pub is_below_at : ℕ → Bool
  is_below_at i = ltb (get_or places i 0) nodes

  -- each used place is
  pub place_below : (n : ℕ) → first_below n nodes places ≡ true → (i : ℕ) → i < n → get_or places i 0 < nodes
  unfolding first_below
  place_below n e i l = ltb-true _ _ (all_at is_below_at n e i l)

  -- and below any larger number
  pub first_wider : (n : ℕ) {more : ℕ} → nodes ≤ more → first_below n nodes places ≡ true → first_below n more places ≡ true
  unfolding first_below
  first_wider n {more} h e =
      all_from (λ i. ltb (get_or places i 0) more) n (λ i l. lt-ltb (get_or places i 0) more (omega (arith, place_below n e i l)))

-- the first n places, as a list of their own
pub first_are : (n nodes : ℕ) (places : List ℕ) → n ≤ length places → all_below (length (take n places)) (λ i. ltb (get_or (take n places) i 0) nodes) ≡ first_below n nodes places
unfolding first_below
first_are n nodes places h =
    ap (λ (k : ℕ). all_below k (λ i. ltb (get_or (take n places) i 0) nodes)) (length-take-le n places h)
    ∙ all_same (λ i. ltb (get_or (take n places) i 0) nodes) (is_below_at nodes places) n (λ i l. ap (λ (p : ℕ). ltb p nodes) (get_or-take n places i 0 l))

-- an element of a kind is sound where the places past those that the kind uses are unused, and inside where those that it uses are below the number of nodes
module _ (k : ℕ) (places : List ℕ) where
  pub sound_by : (t : ElementType) {r : Bool} → kind_of k ≡ Some t → r ≡ rest_unused (node_count t) places → r ≡ sound_element k places
  sound_by t e is = is ∙ sym (ap (λ (o : Option ElementType). known o && rest_unused (used_places o) places) e)

  pub none_sound : kind_of k ≡ None → false ≡ sound_element k places
  none_sound e = sym (ap (λ (o : Option ElementType). known o && rest_unused (used_places o) places) e)

  pub inside_by : (nodes : ℕ) (t : ElementType) {r : Bool} → kind_of k ≡ Some t → r ≡ first_below (node_count t) nodes places → r ≡ inside_element nodes k places
  inside_by nodes t e is = is ∙ sym (ap (λ (o : Option ElementType). first_below (used_places o) nodes places) e)

  pub none_inside : (nodes : ℕ) → kind_of k ≡ None → true ≡ inside_element nodes k places
  unfolding first_below all_below
  none_inside nodes e = sym (ap (λ (o : Option ElementType). first_below (used_places o) nodes places) e)

-- ---- an element of a mesh

-- what a program tests is that it is valid
pub element_is : (n : ℕ) (m : Mesh) (e : ℕ) → element_ok n m e ≡ valid_element n (kind_at m e) (places_of m e)
element_is n m e = refl

-- what it takes for element e to be valid in a mesh of n nodes
pub record Valid (n : ℕ) (m : Mesh) (e : ℕ) : Type 0 where
  pub kind : kind_ok m e ≡ true
  pub rest : unused_ok m e ≡ true
  pub below : used_below n m e ≡ true

pub element_valid : (n : ℕ) (m : Mesh) (e : ℕ) → element_ok n m e ≡ true → Valid n m e
element_valid n m e h =
    let last = both (kind_ok m e && unused_ok m e) (used_below n m e) h in
    let two = both (kind_ok m e) (unused_ok m e) last.0 in
    record { kind = two.0; rest = two.1; below = last.1 }

pub valid_element_lem : (n : ℕ) (m : Mesh) (e : ℕ) → Valid n m e → element_ok n m e ≡ true
valid_element_lem n m e v = rw (v.kind, v.rest, v.below)

-- what it takes for a mesh to be well formed
pub record WellFormed (c : Counts) (m : Mesh) : Type 0 where
  pub lists : parallel m ≡ true
  pub counts : within c m ≡ true
  pub elements : (e : ℕ) → e < c.elements → Valid c.nodes m e

pub well_formed_lem : (c : Counts) (m : Mesh) → well_formed c m ≡ true → WellFormed c m
unfolding well_formed
well_formed_lem c m h =
    let last = both (parallel m && within c m) (all_below c.elements (element_ok c.nodes m)) h in
    let two = both (parallel m) (within c m) last.0 in
    record {
      lists = two.0;
      counts = two.1;
      elements = λ e l. element_valid c.nodes m e (all_at (element_ok c.nodes m) c.elements last.1 e l);
    }

pub formed_well : (c : Counts) (m : Mesh) → WellFormed c m → well_formed c m ≡ true
unfolding well_formed
formed_well c m w =
    rw (w.lists, w.counts)
    (all_from (element_ok c.nodes m) c.elements (λ e l. valid_element_lem c.nodes m e (w.elements e l)))

-- the places that an element of a well-formed mesh uses are below the node count
pub used_below_lem : (c : Counts) (m : Mesh) → well_formed c m ≡ true → (e : ℕ) → e < c.elements → (i : ℕ) → i < used_of m e → get_or (places_of m e) i 0 < c.nodes
used_below_lem c m h e l i k = place_below c.nodes (places_of m e) (used_of m e) ((well_formed_lem c m h).elements e l).below i k

-- its place i is entry 8 e + i of the list of places
pub place_at : (m : Mesh) (e i : ℕ) → i < 8 → get_or (places_of m e) i 0 ≡ get_or m.places (8 * e + i) 0
place_at m e i l = part_at m.places (8 * e) 8 i 0 l

-- its places are within the list of places
pub places_within : (m : Mesh) (e : ℕ) → parallel m ≡ true → e < length m.kinds → 8 * e + 8 ≤ length m.places
places_within m e h l = let same = equal_lengths _ _ _ _ _ _ h in omega (arith, same.eight_places)
