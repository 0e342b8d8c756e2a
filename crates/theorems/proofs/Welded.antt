-- What welding does, on the definitions:
--     kept_below, kept_ascends     the nodes kept are old nodes, in their old order
--     new_below, new_key           a node's new number is that of a node kept, and that node has its key
--     well_welded                  a sound mesh stays well formed
--     welded_again                 welding again with the same tolerance changes nothing
--     weld_gives, weld_formed      so an accepted call gives a well-formed mesh
--     weld_never, volume_never     a well-formed mesh taken to its counts is not refused with 13 or 15
-- Assumes nothing.
use Prim.Native.Nat.{ℕ, zero, suc, ◌+◌, ◌*◌, ◌≤◌, ◌<◌}
use mathlib.Core.Path.{◌≡◌, refl, sym, ap, ◌∙◌, subst}
use mathlib.Core.Bool.{Bool, true, false, not, ◌||◌, cond, true≢false}
use mathlib.Core.List.{List, [], ◌∷◌, ◌++◌, map}
use mathlib.Core.Logic.{◌⊎◌, inl, inr, ⊎_elim}
use Rattle.std.specs.Prelude.{Option, Some, None}
use native.Mathlib.Nat.{eq-or-lt_of_le}
use native.Mathlib.Omega.{arith}
use lib.Dec.{eqb, ltb}
use lib.Ieee.{Float, nan}
use lib.ListN.{length, get_or, length-map, length-append, get_or-append}
use lib.Seq.{get_or_at}
use borrow.Author.Tests.{not-true, not-false, lt-ltb, ltb-true, ltb-false, eq-eqb, eqb-true, le-leb}
use Rattle.lists.specs.Answer.{Answer, refused, given, and_then, status}
use Rattle.lists.specs.Lists.{elems, gather, Below, all_below, part}
use Rattle.lists.proofs.Answers.{refused_given, passed, passed_then, given_same, unless_refused}
use Rattle.lists.proofs.Fills.{elems_length, elems_at}
use Rattle.lists.proofs.Parts.{part_at}
use Rattle.lists.proofs.Passing.{below_passing_elems, passing_all, all_of_at, Ascends, passing_suc, skipping_suc, passing_each, passing_ascends}
use Rattle.lists.proofs.Places.{gather_length, gather_all}
use Rattle.lists.proofs.Scans.{both, all_at, all_from, any_holds, any_some, any_nowhere}
use Rattle.lists.proofs.Searches.{first_some}
use Rattle.lists.proofs.Stores.{map_at, map_none}
use Rattle.binary64.specs.Numbers.{at_most}
use Rattle.openrdson_core.specs.Mesh.{Mesh, the_mesh, the_counts, unused, kind_of, known, used_places, rest_unused, first_below, sound_element, inside_element, parallel_lengths, parallel, within_lengths, well_formed}
use Rattle.openrdson_core.specs.declared.mesh.ElementType.{ElementType}
use Rattle.openrdson_core.proofs.MeshLaws.{Lengths, equal_lengths, used_most, place_below, Valid, formed_well}
use Rattle.openrdson_core.specs.declared.mesh.Counts.{Counts}
use Rattle.meshing.specs.Whole.{elements_fault, mesh_fault, up_to}
use Rattle.meshing.specs.Volumes.{mesh_volume}
use Rattle.meshing.specs.Welds.{NodeKey, same_key, found_or, key_at, is_first, kept, new_number, renumbered, welded, room_for, fit_welded, weld_nodes}
use Rattle.meshing.proofs.WholeLaws.{up_never}
use Rattle.meshing.proofs.WeldLaws.{key_same, key_self, kept_of, gathered_key, no_node, Weldable, fine_weldable}

-- neither is less
same_number : (a b : ℕ) → (a < b → ⊥) → (b < a → ⊥) → a ≡ b
same_number a b f g = step (ltb a b) refl (ltb b a) refl
  where
    step : (s : Bool) → ltb a b ≡ s → (t : Bool) → ltb b a ≡ t → a ≡ b
    step true e t h = absurd (f (ltb-true a b e))
    step false e true h = absurd (g (ltb-true b a h))
    step false e false h = omega (arith, ltb-false a b e, ltb-false b a h)

module _ (tolerance : Float) (xs ys zs : List Float) where
  abbrev key : ℕ → NodeKey
  key i = key_at tolerance xs ys zs i

  abbrev ks : List ℕ
  ks = kept tolerance xs ys zs

  -- ---- the nodes kept are old nodes, in their old order

  pub kept_below : Below (length xs) ks
  kept_below = below_passing_elems (is_first tolerance xs ys zs) (length xs)

  pub kept_ascends : Ascends ks
  kept_ascends = passing_ascends (is_first tolerance xs ys zs) (length xs)

  -- ---- some node kept has the key of node p

  record Held (l : List ℕ) (p : ℕ) : Type 0 where
    place : ℕ
    inside : place < length l
    same : key (get_or l place 0) ≡ key p

  held_more : (l : List ℕ) (p i : ℕ) → Held l p → Held (l ++ (i ∷ [])) p
  held_more l p i h =
      record {
        place = h.place;
        inside = omega (arith, h.inside, length-append l (i ∷ []));
        same = ap key (get_or-append l (i ∷ []) 0 h.place h.inside) ∙ h.same;
      }

  held_last : (l : List ℕ) (i : ℕ) → Held (l ++ (i ∷ [])) i
  held_last l i = record { place = length l; inside = omega (arith, length-append l (i ∷ [])); same = ap key (get_or_at l i [] 0 (length l) refl) }

  -- a node that is not the first has one before it
  not_first : (i : ℕ) → is_first tolerance xs ys zs i ≡ false → (j : ℕ) × (j < i) × (key j ≡ key i)
  unfolding is_first
  not_first i e =
      let s = any_some (λ j. same_key (key j) (key i)) i (not-false _ e) in
      (s.0, s.1, key_same (key s.0) (key i) s.2)

  held : (n p : ℕ) → p < n → Held (kept_of tolerance xs ys zs n) p
  held zero p h = absurd (omega arith)
  held (suc n) p h = step (is_first tolerance xs ys zs n) refl (held n)
    where
      l : p ≤ n
      l = omega arith

      step : (b : Bool) → is_first tolerance xs ys zs n ≡ b → ((q : ℕ) → q < n → Held (kept_of tolerance xs ys zs n) q) → Held (kept_of tolerance xs ys zs (suc n)) p
      step true t before =
          subst (λ (k : List ℕ). Held k p) (sym (passing_suc (is_first tolerance xs ys zs) (λ i. i) n t))
          (⊎_elim
          (λ (e : p ≡ n). subst (Held (kept_of tolerance xs ys zs n ++ (n ∷ []))) (sym e) (held_last (kept_of tolerance xs ys zs n) n))
          (λ k. held_more (kept_of tolerance xs ys zs n) p n (before p k))
          (eq-or-lt_of_le l))
      step false t before =
          subst (λ (k : List ℕ). Held k p) (sym (skipping_suc (is_first tolerance xs ys zs) (λ i. i) n t))
          (⊎_elim
          (λ (e : p ≡ n).
          let s = not_first n t in
          let b = before s.0 s.1 in
          record { place = b.place; inside = b.inside; same = b.same ∙ s.2 ∙ ap key (sym e) })
          (λ k. before p k)
          (eq-or-lt_of_le l))

  -- what the lookup finds
  record Numbered (p : ℕ) : Type 0 where
    below : new_number tolerance xs ys zs p < length ks
    same : key (get_or ks (new_number tolerance xs ys zs p) 0) ≡ key p

  numbered : (p : ℕ) → p < length xs → Numbered p
  unfolding new_number
  numbered p h =
      let k = held (length xs) p h in
      let test : ℕ → Bool = λ k. same_key (key (get_or ks k 0)) (key p) in
      let holds : test k.place ≡ true = ap (λ (a : NodeKey). same_key a (key p)) k.same ∙ key_self (key p) in
      let f = first_some test (length ks) k.place k.inside holds in
      let e : new_number tolerance xs ys zs p ≡ f.0 = ap (found_or (length ks)) f.1 in
      record {
        below = omega (arith, e, f.2.below);
        same = ap (λ (n : ℕ). key (get_or ks n 0)) e ∙ key_same (key (get_or ks f.0 0)) (key p) f.2.holds;
      }

  pub new_below : (p : ℕ) → p < length xs → new_number tolerance xs ys zs p < length ks
  new_below p h = (numbered p h).below

  pub new_key : (p : ℕ) → p < length xs → key (get_or ks (new_number tolerance xs ys zs p) 0) ≡ key p
  new_key p h = (numbered p h).same

  -- ---- the nodes kept, by themselves: all are kept, and keep their numbers

  abbrev gx : List Float
  gx = gather nan xs ks

  abbrev gy : List Float
  gy = gather nan ys ks

  abbrev gz : List Float
  gz = gather nan zs ks

  abbrev key' : ℕ → NodeKey
  key' i = key_at tolerance gx gy gz i

  long : length gx ≡ length ks
  long = gather_length nan xs ks

  -- a first node has none before it with its key
  first_not : (i j : ℕ) → j < i → is_first tolerance xs ys zs i ≡ true → same_key (key j) (key i) ≡ true → ⊥
  unfolding is_first
  first_not i j h is e = true≢false (sym (any_holds (λ j. same_key (key j) (key i)) i j h e) ∙ not-true _ is)

  -- no two nodes kept have one key
  apart : (i j : ℕ) → i < j → j < length ks → same_key (key (get_or ks i 0)) (key (get_or ks j 0)) ≡ false
  apart i j h l = step (same_key (key (get_or ks i 0)) (key (get_or ks j 0))) refl
    where
      is : is_first tolerance xs ys zs (get_or ks j 0) ≡ true
      is = all_of_at (is_first tolerance xs ys zs) ks j 0 (passing_all (is_first tolerance xs ys zs) (elems (length xs) (λ i. i))) l

      step : (b : Bool) → same_key (key (get_or ks i 0)) (key (get_or ks j 0)) ≡ b → same_key (key (get_or ks i 0)) (key (get_or ks j 0)) ≡ false
      step true e = absurd (first_not (get_or ks j 0) (get_or ks i 0) (kept_ascends i j h l) is e)
      step false e = e

  apart' : (i j : ℕ) → i < j → j < length ks → same_key (key' i) (key' j) ≡ false
  apart' i j h l = rw (gathered_key tolerance xs ys zs ks i (omega arith), gathered_key tolerance xs ys zs ks j l) (apart i j h l)

  -- so all are kept
  first_again : (i : ℕ) → i < length ks → is_first tolerance gx gy gz i ≡ true
  unfolding is_first
  first_again i l = ap not (any_nowhere (λ j. same_key (key' j) (key' i)) i (λ j h. apart' j i h l))

  kept_again : kept tolerance gx gy gz ≡ elems (length ks) (λ i. i)
  kept_again = rw long (passing_each (is_first tolerance gx gy gz) (λ i. i) (length ks) first_again)

  -- and keep their numbers
  new_again : (q : ℕ) → q < length ks → new_number tolerance gx gy gz q ≡ q
  unfolding new_number
  new_again q l =
      let ks' = kept tolerance gx gy gz in
      let many : length ks' ≡ length ks = ap length kept_again ∙ elems_length (λ i. i) (length ks) in
      let own : (k : ℕ) → k < length ks → get_or ks' k 0 ≡ k = λ k h. ap (λ (l : List ℕ). get_or l k 0) kept_again ∙ elems_at (λ i. i) 0 (length ks) k h in
      let test : ℕ → Bool = λ k. same_key (key' (get_or ks' k 0)) (key' q) in
      let passes : test q ≡ true = ap (λ (k : ℕ). same_key (key' k) (key' q)) (own q l) ∙ key_self (key' q) in
      let f = first_some test (length ks') q (omega arith) passes in
      let j : ℕ = f.0 in
      let low : j < length ks = omega (arith, f.2.below, many) in
      let not-less : j < q → ⊥ = λ h. true≢false (sym f.2.holds ∙ ap (λ (k : ℕ). same_key (key' k) (key' q)) (own j low) ∙ apart' j q h l) in
      let not_more : q < j → ⊥ = λ h. true≢false (sym passes ∙ f.2.earlier q (omega arith) h) in
      ap (found_or (length ks')) f.1 ∙ same_number j q not-less not_more

  number_again : (q : ℕ) → renumbered tolerance gx gy gz q ≡ q
  unfolding renumbered
  number_again q = step (ltb q (length gx)) refl
    where
      step : (b : Bool) → ltb q (length gx) ≡ b → cond b (new_number tolerance gx gy gz q) q ≡ q
      step true e = new_again q (omega (arith, ltb-true q (length gx) e, long))
      step false e = refl

  -- a list gathered at the nodes kept
  gather_again : (l : List Float) → length l ≡ length ks → gather nan l (kept tolerance gx gy gz) ≡ l
  gather_again l e = ap (gather nan l) kept_again ∙ gather_all nan l (length ks) (sym e)

-- ---- a sound mesh stays well formed

parallel_of : (xs ys zs kinds places regions : ℕ) → Lengths xs ys zs kinds places regions → parallel_lengths xs ys zs kinds places regions ≡ true
unfolding parallel_lengths
parallel_of xs ys zs kinds places regions l = rw (eq-eqb _ _ l.same_ys, eq-eqb _ _ l.same_zs, eq-eqb _ _ l.same_regions, eq-eqb _ _ l.eight_places)

within_own : (nodes elements : ℕ) → within_lengths (the_counts nodes elements) nodes elements ≡ true
unfolding within_lengths
within_own nodes elements = rw (le-leb nodes nodes (omega arith), le-leb elements elements (omega arith))

used_eight : (o : Option ElementType) → used_places o ≤ 8
used_eight (Some t) = used_most t
used_eight None = omega arith

-- places that f changes: it leaves an unused one, and takes those of a mesh of `nodes` nodes to those of one of `now` nodes
module _ (f : ℕ → ℕ) (before after : List ℕ) (each : (i : ℕ) → i < 8 → get_or after i 0 ≡ f (get_or before i 0)) where
  rest_after : (n : ℕ) → f unused ≡ unused → rest_unused n before ≡ true → rest_unused n after ≡ true
  unfolding rest_unused
  rest_after n stays h = all_from (λ i. ltb i n || eqb (get_or after i 0) unused) 8 (λ i l. step i l (ltb i n) (all_at (λ i. ltb i n || eqb (get_or before i 0) unused) 8 h i l))
    where
      step : (i : ℕ) → i < 8 → (b : Bool) → (b || eqb (get_or before i 0) unused) ≡ true → (b || eqb (get_or after i 0) unused) ≡ true
      step i l true e = refl
      step i l false e = eq-eqb (get_or after i 0) unused (each i l ∙ ap f (eqb-true (get_or before i 0) unused e) ∙ stays)

  first_after : (n nodes now : ℕ) → n ≤ 8 → ((p : ℕ) → p < nodes → f p < now) → first_below n nodes before ≡ true → first_below n now after ≡ true
  unfolding first_below
  first_after n nodes now few moves h =
      all_from (λ i. ltb (get_or after i 0) now) n
      (λ i l. lt-ltb (get_or after i 0) now (omega (arith, each i (omega arith), moves (get_or before i 0) (place_below nodes before n h i l))))

module _ (tolerance : Float) (m : Mesh) (s : Weldable m) where
  abbrev new : ℕ → ℕ
  new = renumbered tolerance m.xs m.ys m.zs

  lengths : Lengths (length m.xs) (length m.ys) (length m.zs) (length m.kinds) (length m.places) (length m.regions)
  lengths = equal_lengths _ _ _ _ _ _ s.even

  place_new : (e i : ℕ) → e < length m.kinds → i < 8 → get_or (part (8 * e) 8 (map new m.places)) i 0 ≡ new (get_or (part (8 * e) 8 m.places) i 0)
  place_new e i l h =
      part_at (map new m.places) (8 * e) 8 i 0 h
      ∙ map_at new m.places (8 * e + i) 0 0 (omega (arith, lengths.eight_places))
      ∙ ap new (sym (part_at m.places (8 * e) 8 i 0 h))

  stays_unused : new unused ≡ unused
  stays_unused = sym (no_node tolerance m.xs m.ys m.zs unused (omega (arith, s.few)))

  moves : (p : ℕ) → p < length m.xs → new p < length (gather nan m.xs (kept tolerance m.xs m.ys m.zs))
  unfolding renumbered
  moves p h = rw (lt-ltb p (length m.xs) h, gather_length nan m.xs (kept tolerance m.xs m.ys m.zs)) (new_below tolerance m.xs m.ys m.zs p h)

  -- element e of the old mesh
  record Fine (e : ℕ) : Type 0 where
    sound : sound_element (get_or m.kinds e 0) (part (8 * e) 8 m.places) ≡ true
    inside : inside_element (length m.xs) (get_or m.kinds e 0) (part (8 * e) 8 m.places) ≡ true

  fine : (e : ℕ) → e < length m.kinds → Fine e
  unfolding elements_fault
  fine e l =
      let sound = passed (all_below (length m.kinds) (λ e. sound_element (get_or m.kinds e 0) (part (8 * e) 8 m.places))) 15 _ s.elements in
      let inside = passed (all_below (length m.kinds) (λ e. inside_element (length m.xs) (get_or m.kinds e 0) (part (8 * e) 8 m.places))) 13 _ sound.1 in
      record { sound = all_at _ _ sound.0 e l; inside = all_at _ _ inside.0 e l }

  valid : (e : ℕ) → e < length m.kinds → Valid (length (welded tolerance m).xs) (welded tolerance m) e
  unfolding welded
  valid e l =
      let k = kind_of (get_or m.kinds e 0) in
      let before = part (8 * e) 8 m.places in
      let after = part (8 * e) 8 (map new m.places) in
      let parts = both (known k) (rest_unused (used_places k) before) (fine e l).sound in
      record {
        kind = parts.0;
        rest = rest_after new before after (λ i h. place_new e i l h) (used_places k) stays_unused parts.1;
        below = first_after new before after (λ i h. place_new e i l h) (used_places k) (length m.xs) _ (used_eight k) moves (fine e l).inside;
      }

  even_lists : parallel (welded tolerance m) ≡ true
  unfolding welded
  even_lists =
      let ks = kept tolerance m.xs m.ys m.zs in
      parallel_of _ _ _ _ _ _ record {
        same_ys = gather_length nan m.xs ks ∙ sym (gather_length nan m.ys ks);
        same_zs = gather_length nan m.xs ks ∙ sym (gather_length nan m.zs ks);
        same_regions = lengths.same_regions;
        eight_places = length-map m.places new ∙ lengths.eight_places;
      }

  as_many : length (welded tolerance m).kinds ≡ length m.kinds
  unfolding welded
  as_many = refl

  pub well_welded : well_formed (the_counts (length (welded tolerance m).xs) (length (welded tolerance m).kinds)) (welded tolerance m) ≡ true
  well_welded =
      formed_well _ _ record {
        lists = even_lists;
        counts = within_own _ _;
        elements = λ e l. valid e (omega (arith, as_many));
      }

-- ---- welding again changes nothing

mesh_same : {xs ys zs xs' ys' zs' : List Float} {kinds places places' regions : List ℕ} → xs ≡ xs' → ys ≡ ys' → zs ≡ zs' → places ≡ places'
    → the_mesh xs ys zs kinds places regions ≡ the_mesh xs' ys' zs' kinds places' regions
mesh_same e f g h = rw (e, f, g, h)

pub welded_again : (tolerance : Float) (m : Mesh) → welded tolerance (welded tolerance m) ≡ welded tolerance m
unfolding welded
welded_again tolerance m =
    let ks = kept tolerance m.xs m.ys m.zs in
    let again = gather_again tolerance m.xs m.ys m.zs in
    mesh_same (again _ (gather_length nan m.xs ks)) (again _ (gather_length nan m.ys ks)) (again _ (gather_length nan m.zs ks))
    (map_none _ (map (renumbered tolerance m.xs m.ys m.zs) m.places) (number_again tolerance m.xs m.ys m.zs))

-- ---- an accepted call gives the welded mesh, well formed

pub weld_gives : (m : Mesh) (tolerance : Float) (lent : Mesh) {w : Mesh} → weld_nodes m tolerance lent ≡ given w → Weldable m × (w ≡ welded tolerance m)
unfolding weld_nodes fit_welded
weld_gives m tolerance lent e =
    let even = passed (parallel lent) 16 _ e in
    let fine = passed_then (mesh_fault (at_most 20 tolerance) m) (λ _. fit_welded lent (welded tolerance m)) even.1 in
    let room = passed (room_for lent (welded tolerance m)) 12 _ fine.2 in
    (fine_weldable (at_most 20 tolerance) m fine.1, sym (given_same room.1))

pub weld_formed : (m : Mesh) (tolerance : Float) (lent : Mesh) {w : Mesh} → weld_nodes m tolerance lent ≡ given w → well_formed (the_counts (length w.xs) (length w.kinds)) w ≡ true
weld_formed m tolerance lent e =
    let g = weld_gives m tolerance lent e in
    subst (λ (w : Mesh). well_formed (the_counts (length w.xs) (length w.kinds)) w ≡ true) (sym g.1) (well_welded tolerance m g.0)

-- ---- a well-formed mesh, taken to its counts, is refused by neither call with 13 or 15

then_refused : {A B : Type 0} (a : Answer A) (next : A → Answer B) {k : ℕ} → and_then a next ≡ refused k → (a ≡ refused k) ⊎ ((x : A) × (next x ≡ refused k))
then_refused (refused n) next e = inl (ap refused (ap status e))
then_refused (given x) next e = inr (x, e)

module _ (c : Counts) (m : Mesh) (h : well_formed c m ≡ true) (k : ℕ) where
  pub weld_never : (tolerance : Float) (lent : Mesh) → weld_nodes (up_to c m) tolerance lent ≡ refused k → (k ≡ 13 → ⊥) × (k ≡ 15 → ⊥)
  unfolding weld_nodes fit_welded
  weld_never tolerance lent e = ⊎_elim numbered fault (unless_refused (parallel lent) 16 _ e)
    where
      numbered : k ≡ 16 → (k ≡ 13 → ⊥) × (k ≡ 15 → ⊥)
      numbered is = (λ q. omega arith, λ q. omega arith)

      short : (x : Unit {0}) × (fit_welded lent (welded tolerance (up_to c m)) ≡ refused k) → (k ≡ 13 → ⊥) × (k ≡ 15 → ⊥)
      short r = ⊎_elim (λ is. (λ q. omega arith, λ q. omega arith)) (λ g. refused_given (sym g)) (unless_refused (room_for lent (welded tolerance (up_to c m))) 12 _ r.1)

      fault : and_then (mesh_fault (at_most 20 tolerance) (up_to c m)) (λ _. fit_welded lent (welded tolerance (up_to c m))) ≡ refused k → (k ≡ 13 → ⊥) × (k ≡ 15 → ⊥)
      fault r = ⊎_elim (up_never c m h (at_most 20 tolerance) k) short (then_refused (mesh_fault (at_most 20 tolerance) (up_to c m)) (λ _. fit_welded lent (welded tolerance (up_to c m))) r)

  pub volume_never : mesh_volume (up_to c m) ≡ refused k → (k ≡ 13 → ⊥) × (k ≡ 15 → ⊥)
  unfolding mesh_volume
  volume_never e = ⊎_elim (up_never c m h true k) (λ r. refused_given (sym r.1)) (then_refused (mesh_fault true (up_to c m)) _ e)
