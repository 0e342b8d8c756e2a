-- Laws of the checks that a mesh passes before it is welded or measured. Assumes nothing.
use Prim.Native.Nat.{ℕ, ◌*◌, ◌≤◌, ◌<◌}
use mathlib.Core.Path.{◌≡◌, sym, ap, ◌∙◌}
use mathlib.Core.Bool.{Bool, true, false, ◌&&◌, and-true}
use mathlib.Core.List.{List}
use mathlib.Core.Logic.{◌⊎◌, inl, inr, ⊎_elim}
use Rattle.std.specs.Prelude.{Some, Result, Ok}
use native.Mathlib.Omega.{arith}
use lib.Dec.{leb}
use lib.ListN.{length, take, get_or}
use lib.Seq.{length-take-le, get_or-take}
use lib.Ieee.{Float}
use borrow.Author.Tests.{leb-true, eq-eqb}
use Rattle.lists.specs.Answer.{refused, given, unless}
use Rattle.lists.specs.Lists.{all_below, part}
use Rattle.lists.proofs.Answers.{passed, refused_given, unless_refused}
use Rattle.lists.proofs.Parts.{part_of_start}
use Rattle.lists.proofs.Scans.{both, and_false, all_fails, all_at, all_from}
use Rattle.binary64.specs.Numbers.{at, at_most}
use Rattle.openrdson_core.specs.Mesh.{Mesh, parallel_lengths, parallel, known, kind_of, node_count, used_places, sound_element, inside_element, well_formed}
use Rattle.openrdson_core.specs.declared.mesh.Counts.{Counts}
use Rattle.openrdson_core.specs.declared.mesh.ElementType.{ElementType}
use Rattle.openrdson_core.specs.Answers.{answer}
use Rattle.openrdson_core.specs.declared.refusals.Refusal.{Refusal}
use Rattle.openrdson_core.proofs.MeshLaws.{Lengths, equal_lengths, counts_in, place_below, used_most, well_formed_lem}
use Rattle.meshing.specs.Whole.{nodes_in, elements_fault, mesh_fault, mesh_size, contents_fault, up_to}

-- ---- nodes in range

-- node i is in range
abbrev pub node_in : List Float → List Float → List Float → ℕ → Bool
node_in xs ys zs i = at_most 20 (at xs i) && at_most 20 (at ys i) && at_most 20 (at zs i)

-- ---- elements

module _ (kinds places : List ℕ) where
  -- element e is sound, and inside a mesh of so many nodes
  abbrev pub sound_at : ℕ → Bool
  sound_at e = sound_element (get_or kinds e 0) (part (8 * e) 8 places)

  abbrev pub inside_at : ℕ → ℕ → Bool
  inside_at nodes e = inside_element nodes (get_or kinds e 0) (part (8 * e) 8 places)

  module _ (nodes : ℕ) where
    -- where an element is not sound
    pub not_sound : (e : ℕ) → e < length kinds → sound_at e ≡ false → refused 15 ≡ elements_fault nodes kinds places
    unfolding elements_fault
    not_sound e l h = rw (all_fails sound_at (length kinds) e l h)

    -- where all are, and the loop has noted whether they are inside
    pub inside_decides : (e : ℕ) → e ≡ length kinds → all_below e sound_at ≡ true → {inside : Bool} → inside ≡ all_below e (inside_at nodes)
        → unless inside 13 (given tt) ≡ elements_fault nodes kinds places
    unfolding elements_fault
    inside_decides e is h {inside} noted =
        ap (λ (b : Bool). unless b 13 (given tt)) (noted ∙ ap (λ (n : ℕ). all_below n (inside_at nodes)) is)
        ∙ sym (rw (sym (ap (λ (n : ℕ). all_below n sound_at) is) ∙ h))

    -- so it is refused where some element is not inside, and not where all are
    pub some_outside : (e : ℕ) → e ≡ length kinds → all_below e sound_at ≡ true → {inside : Bool} → inside ≡ all_below e (inside_at nodes) → inside ≡ false → refused 13 ≡ elements_fault nodes kinds places
    some_outside e is h noted f = ap (λ (b : Bool). unless b 13 (given tt)) (sym f) ∙ inside_decides e is h noted

    pub all_inside : (e : ℕ) → e ≡ length kinds → all_below e sound_at ≡ true → {inside : Bool} → inside ≡ all_below e (inside_at nodes) → inside ≡ true → given tt ≡ elements_fault nodes kinds places
    all_inside e is h noted f = ap (λ (b : Bool). unless b 13 (given tt)) (sym f) ∙ inside_decides e is h noted

    -- what elements that nothing is against tell
    pub record Elements : Type 0 where
      pub known : (e : ℕ) → e < length kinds → known (kind_of (get_or kinds e 0)) ≡ true
      pub inside : (e k : ℕ) → e < length kinds → k < used_places (kind_of (get_or kinds e 0)) → get_or (part (8 * e) 8 places) k 0 < nodes

    pub fine_elements : given tt ≡ elements_fault nodes kinds places → Elements
    unfolding elements_fault
    fine_elements fine =
        let four = passed (all_below (length kinds) sound_at) 15 _ (sym fine) in
        let five = passed (all_below (length kinds) (inside_at nodes)) 13 _ four.1 in
        record {
          known = λ e l. (both _ _ (all_at sound_at (length kinds) four.0 e l)).0;
          inside =
              λ e k l h. place_below nodes (part (8 * e) 8 places) (used_places (kind_of (get_or kinds e 0))) (all_at (inside_at nodes) (length kinds) five.0 e l) k h;
        }

-- ---- the two parts of the check

module _ (m : Mesh) where
  abbrev few : Bool
  few = leb (length m.xs) 1048576 && leb (length m.kinds) 1048576

  -- what the first part is against is against the mesh
  pub fault_by_size : (ok : Bool) {n : ℕ} → refused n ≡ mesh_size m → mesh_fault ok m ≡ refused n
  unfolding mesh_fault
  fault_by_size ok {n} e = go (parallel m) few e
    where
      go : (p q : Bool) → refused n ≡ unless p 16 (unless q 2 (given (tt {0}))) → unless p 16 (unless q 2 (unless (nodes_in m.xs m.ys m.zs && ok) 1 (elements_fault (length m.xs) m.kinds m.places))) ≡ refused n
      go false q e = sym e
      go true false e = sym e
      go true true e = refused_given e

  -- where it is against nothing the second part decides
  fault_goes_on : (ok : Bool) → given tt ≡ mesh_size m → mesh_fault ok m ≡ unless (nodes_in m.xs m.ys m.zs && ok) 1 (elements_fault (length m.xs) m.kinds m.places)
  unfolding mesh_fault
  fault_goes_on ok e =
      let one = passed (parallel m) 16 _ (sym e) in
      let two = passed few 2 (given tt) one.1 in
      rw (one.0, two.0)

  pub fault_by_number : {ok : Bool} → given tt ≡ mesh_size m → ok ≡ false → mesh_fault ok m ≡ refused 1
  fault_by_number {ok} e f = fault_goes_on ok e ∙ rw (f, and_false (nodes_in m.xs m.ys m.zs))

  pub fault_by_contents : {ok : Bool} → given tt ≡ mesh_size m → ok ≡ true → mesh_fault ok m ≡ contents_fault m
  fault_by_contents {ok} e f = fault_goes_on ok e ∙ ap (λ (b : Bool). unless b 1 (elements_fault (length m.xs) m.kinds m.places)) (ap (λ (b : Bool). nodes_in m.xs m.ys m.zs && b) f ∙ and-true (nodes_in m.xs m.ys m.zs))

-- ---- what a mesh that nothing is against tells

pub record Whole (m : Mesh) : Type 0 where
  pub lists : Lengths (length m.xs) (length m.ys) (length m.zs) (length m.kinds) (length m.places) (length m.regions)
  pub few_nodes : length m.xs ≤ 1048576
  pub few_elements : length m.kinds ≤ 1048576
  pub nodes : nodes_in m.xs m.ys m.zs ≡ true
  pub sound : (e : ℕ) → e < length m.kinds → sound_at m.kinds m.places e ≡ true
  pub inside : (e k : ℕ) → e < length m.kinds → k < used_places (kind_of (get_or m.kinds e 0)) → get_or (part (8 * e) 8 m.places) k 0 < length m.xs

pub nothing_against : (ok : Bool) (m : Mesh) → mesh_fault ok m ≡ given tt → Whole m
unfolding elements_fault mesh_fault
nothing_against ok m e =
    let one = passed (parallel m) 16 _ e in
    let two = passed (few m) 2 _ one.1 in
    let three = passed (nodes_in m.xs m.ys m.zs && ok) 1 _ two.1 in
    let four = passed (all_below (length m.kinds) (sound_at m.kinds m.places)) 15 _ three.1 in
    let counts = both (leb (length m.xs) 1048576) (leb (length m.kinds) 1048576) two.0 in
    record {
      lists = equal_lengths _ _ _ _ _ _ one.0;
      few_nodes = leb-true _ _ counts.0;
      few_elements = leb-true _ _ counts.1;
      nodes = (both (nodes_in m.xs m.ys m.zs) ok three.0).0;
      sound = all_at (sound_at m.kinds m.places) (length m.kinds) four.0;
      inside = (fine_elements m.kinds m.places (length m.xs) (sym three.1)).inside;
    }

-- the same of a check that found nothing
pub found_whole : (ok : Bool) (m : Mesh) {r : Result (Unit {0}) Refusal} → answer r ≡ mesh_fault ok m → r ≡ Ok tt → Whole m
found_whole ok m e is = nothing_against ok m (sym e ∙ ap answer is)

-- ---- the places that an element uses, as a list of their own

module _ (t : ElementType) {n : ℕ} (many : n ≡ node_count t) (places : List ℕ) (eight : length places ≡ 8) where
  pub used_long : length (take n places) ≡ node_count t
  used_long = length-take-le n places (omega (arith, used_most t)) ∙ many

  pub used_inside : (kind : ℕ) → kind_of kind ≡ Some t → {kind' : ℕ} {places' : List ℕ} {xs xs' : List Float} → kind ≡ kind' → places ≡ places' → xs' ≡ xs
      → ((i : ℕ) → i < used_places (kind_of kind') → get_or places' i 0 < length xs) → (i : ℕ) → i < length (take n places) → get_or (take n places) i 0 < length xs'
  used_inside kind is {kind'} e f g inside i h =
      let l : i < n = omega (arith, used_long) in
      let u : used_places (kind_of kind') ≡ n = ap (λ (k : ℕ). used_places (kind_of k)) (sym e) ∙ ap used_places is ∙ sym many in
      rw (g, get_or-take n places i 0 l, f) (inside i (omega arith))

-- ---- a well-formed mesh, taken to its counts, is refused for its size or for a number alone

-- lists of such lengths are parallel
lengths_equal : (xs ys zs kinds places regions : ℕ) → Lengths xs ys zs kinds places regions → parallel_lengths xs ys zs kinds places regions ≡ true
unfolding parallel_lengths
lengths_equal xs ys zs kinds places regions s =
    rw (eq-eqb xs ys s.same_ys, eq-eqb xs zs s.same_zs, eq-eqb kinds regions s.same_regions, eq-eqb places (8 * kinds) s.eight_places)

module _ (c : Counts) (m : Mesh) (h : well_formed c m ≡ true) where
  lists : Lengths (length m.xs) (length m.ys) (length m.zs) (length m.kinds) (length m.places) (length m.regions)
  lists = equal_lengths _ _ _ _ _ _ (well_formed_lem c m h).lists

  counts : (c.nodes ≤ length m.xs) × (c.elements ≤ length m.kinds)
  counts = counts_in c (length m.xs) (length m.kinds) (well_formed_lem c m h).counts

  nodes_are : length (take c.nodes m.xs) ≡ c.nodes
  nodes_are = length-take-le c.nodes m.xs counts.0

  elements_are : length (take c.elements m.kinds) ≡ c.elements
  elements_are = length-take-le c.elements m.kinds counts.1

  -- its lists are parallel
  pub up_parallel : parallel (up_to c m) ≡ true
  up_parallel =
      let l = lists in
      let n = counts in
      lengths_equal _ _ _ _ _ _
      (record {
        same_ys = nodes_are ∙ sym (length-take-le c.nodes m.ys (omega (arith, n.0, l.same_ys)));
        same_zs = nodes_are ∙ sym (length-take-le c.nodes m.zs (omega (arith, n.0, l.same_zs)));
        same_regions = elements_are ∙ sym (length-take-le c.elements m.regions (omega (arith, n.1, l.same_regions)));
        eight_places = length-take-le (8 * c.elements) m.places (omega (arith, n.1, l.eight_places)) ∙ ap (λ (k : ℕ). 8 * k) (sym elements_are);
      })

  -- an element is as it was
  kind_kept : (e : ℕ) → e < c.elements → get_or (take c.elements m.kinds) e 0 ≡ get_or m.kinds e 0
  kind_kept e l = get_or-take c.elements m.kinds e 0 l

  places_kept : (e : ℕ) → e < c.elements → part (8 * e) 8 (take (8 * c.elements) m.places) ≡ part (8 * e) 8 m.places
  places_kept e l = part_of_start m.places (8 * e) 8 (8 * c.elements) (omega arith)

  up_sound : (e : ℕ) → e < c.elements → sound_at (take c.elements m.kinds) (take (8 * c.elements) m.places) e ≡ true
  up_sound e l =
      let v = (well_formed_lem c m h).elements e l in
      rw (kind_kept e l, places_kept e l, v.kind, v.rest)

  up_inside : (e : ℕ) → e < c.elements → inside_at (take c.elements m.kinds) (take (8 * c.elements) m.places) (length (take c.nodes m.xs)) e ≡ true
  up_inside e l =
      rw (kind_kept e l, places_kept e l, nodes_are) ((well_formed_lem c m h).elements e l).below

  -- nothing is against its elements
  pub up_elements : elements_fault (length (up_to c m).xs) (up_to c m).kinds (up_to c m).places ≡ given tt
  unfolding elements_fault
  up_elements =
      let kinds = take c.elements m.kinds in
      let places = take (8 * c.elements) m.places in
      let nodes = length (take c.nodes m.xs) in
      let sound : all_below (length kinds) (sound_at kinds places) ≡ true = all_from (sound_at kinds places) (length kinds) (λ e l. up_sound e (omega (arith, l, elements_are))) in
      let inside : all_below (length kinds) (inside_at kinds places nodes) ≡ true = all_from (inside_at kinds places nodes) (length kinds) (λ e l. up_inside e (omega (arith, l, elements_are))) in
      rw (sound, inside)

  -- so these two rows decide: 2, then 1
  pub up_fault : (ok : Bool) → mesh_fault ok (up_to c m) ≡ unless (leb c.nodes 1048576 && leb c.elements 1048576) 2
      (unless (nodes_in (take c.nodes m.xs) (take c.nodes m.ys) (take c.nodes m.zs) && ok) 1 (given tt))
  unfolding mesh_fault
  up_fault ok = rw (up_parallel, up_elements, nodes_are, elements_are)

  pub up_refused : (ok : Bool) (k : ℕ) → mesh_fault ok (up_to c m) ≡ refused k → (k ≡ 2) ⊎ (k ≡ 1)
  up_refused ok k e =
      ⊎_elim
      inl
      (λ r. ⊎_elim inr (λ g. refused_given (sym g)) (unless_refused (nodes_in (take c.nodes m.xs) (take c.nodes m.ys) (take c.nodes m.zs) && ok) 1 (given tt) r))
      (unless_refused (leb c.nodes 1048576 && leb c.elements 1048576) 2 _ (sym (up_fault ok) ∙ e))

  -- not for a node outside the mesh, nor for a kind or an unused place
  pub up_never : (ok : Bool) (k : ℕ) → mesh_fault ok (up_to c m) ≡ refused k → (k ≡ 13 → ⊥) × (k ≡ 15 → ⊥)
  up_never ok k e =
      let r : (k ≡ 2) ⊎ (k ≡ 1) = up_refused ok k e in
      (λ is. ⊎_elim (λ g. omega arith) (λ g. omega arith) r, λ is. ⊎_elim (λ g. omega arith) (λ g. omega arith) r)
