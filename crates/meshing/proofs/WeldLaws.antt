-- Welding: keys, which nodes are kept, new numbers, and what the calls answer. Assumes nothing.
use Prim.Native.Nat.{ℕ, zero, suc, ◌+◌, ◌≤◌, ◌<◌}
use mathlib.Core.Path.{◌≡◌, refl, sym, ap, ◌∙◌, subst}
use mathlib.Core.Bool.{Bool, true, false, not, ◌&&◌, cond}
use mathlib.Core.List.{List, [], ◌∷◌, ◌++◌, map}
use mathlib.Core.Logic.{◌⊎◌, inl, inr, ⊎_elim}
use Rattle.std.specs.Prelude.{Option, Some, None}
use Rattle.std.specs.Option.{option_eq}
use Rattle.std.specs.List.{filter, range_with_len}
use native.Mathlib.Nat.{eq-or-lt_of_le}
use native.Mathlib.Omega.{arith}
use mir.Syntax.{w64}
use mir.Val.{of_z, to_z, SFits}
use mir.ValLaws.{to_z-of_z}
use lib.Dec.{eqb, leb, ltb}
use lib.IntN.{ℤ, pos, negsuc}
use lib.ListN.{length, take, get_or, set, length-append, get_or-append}
use lib.Seq.{get_or_at}
use lib.Ieee.{Float, nan}
use Rattle.std.specs.Prelude.{Result, Ok, Err}
use borrow.Author.Tests.{not-false, eqb-true, eqb-false, eq-eqb, ne_eqb, ltb-true, ltb-false, lt-ltb, le-ltb, leb-true, le-leb, lt-leb}
use Rattle.lists.specs.Answer.{Answer, refused, given}
use Rattle.lists.specs.Lists.{put, runs, elems, gather, passing, any_below, first}
use Rattle.lists.proofs.Fills.{elems_same, elems_front, elems_length, put_length}
use Rattle.lists.proofs.Passing.{passing_more, passing_skips, passing_suc, skipping_suc, passing_grows, passing_most}
use Rattle.lists.proofs.Places.{gather_length}
use Rattle.lists.proofs.Answers.{passed}
use Rattle.lists.proofs.Scans.{both, and_false, any_holds, any_some, any_nowhere}
use Rattle.lists.proofs.Searches.{First, first_is, first_none, first_some, first_same, first_below}
use Rattle.lists.proofs.Stores.{map_at, Gathered, gather_start, gather_more, gather_stays, gather_front}
use Rattle.binary64.specs.Numbers.{◌⊘◌, at, at_most}
use Rattle.binary64.specs.Rounding.{nearest_capped}
use Rattle.openrdson_core.specs.Refusals.{refusal_number}
use Rattle.openrdson_core.specs.declared.refusals.Refusal.{Refusal}
use Rattle.openrdson_core.specs.declared.refusals.Refusal.TheVariants as refusal
use Rattle.openrdson_core.specs.Answers.{answer}
use Rattle.openrdson_core.specs.Mesh.{Mesh, the_mesh, the_counts, parallel}
use Rattle.openrdson_core.specs.declared.mesh.Counts.{Counts}
use Rattle.meshing.specs.declared.weld.Key.{Key}
use Rattle.meshing.specs.Whole.{nodes_in, elements_fault, mesh_fault, mesh_size, contents_fault}
use Rattle.openrdson_core.proofs.MeshLaws.{equal_lengths}
use Rattle.meshing.proofs.WholeLaws.{fault_by_contents}
use Rattle.meshing.specs.Welds as spec

-- ---- keys

same_eq : (a b : ℤ) → spec.same a b ≡ true → a ≡ b
unfolding spec.same
same_eq (pos a) (pos b) h = ap pos (eqb-true a b h)
same_eq (pos a) (negsuc b) h = let z : ◌≡◌ {A = ℕ} 0 1 = cc in absurd (omega arith)
same_eq (negsuc a) (pos b) h = let z : ◌≡◌ {A = ℕ} 0 1 = cc in absurd (omega arith)
same_eq (negsuc a) (negsuc b) h = ap negsuc (eqb-true a b h)

same_self : (a : ℤ) → spec.same a a ≡ true
unfolding spec.same
same_self (pos a) = eq-eqb a a refl
same_self (negsuc a) = eq-eqb a a refl

same_not : (a b : ℤ) → (a ≡ b → ⊥) → spec.same a b ≡ false
same_not a b h = go (spec.same a b) refl
  where
    go : (t : Bool) → spec.same a b ≡ t → spec.same a b ≡ false
    go true e = absurd (h (same_eq a b e))
    go false e = e

-- two numbers of an i64 are told apart by their bits
bits_same : (a b : ℤ) → SFits w64 a → SFits w64 b → eqb (of_z w64 a) (of_z w64 b) ≡ spec.same a b
bits_same a b p q = go (eqb (of_z w64 a) (of_z w64 b)) refl
  where
    yes : a ≡ b → spec.same a b ≡ true
    yes e = rw e (same_self b)

    go : (t : Bool) → eqb (of_z w64 a) (of_z w64 b) ≡ t → t ≡ spec.same a b
    go true e = sym (yes (sym (to_z-of_z w64 a p) ∙ ap (to_z w64) (eqb-true (of_z w64 a) (of_z w64 b) e) ∙ to_z-of_z w64 b q))
    go false e = sym (same_not a b (λ h. eqb-false (of_z w64 a) (of_z w64 b) e (ap (of_z w64) h)))

abbrev key : ℤ → ℤ → ℤ → Key
key a b c = record { x = a; y = b; z = c }

pub key_eq : (a b c d e f : ℤ) → a ≡ d → b ≡ e → c ≡ f → key a b c ≡ key d e f
key_eq a b c d e f p q r = rw (p, q, r)

-- keys that are the same are equal, and a key is the same as itself
pub key_same : (a b : Key) → spec.same_key a b ≡ true → a ≡ b
unfolding spec.same_key
key_same a b h =
    let last = both (spec.same a.x b.x && spec.same a.y b.y) (spec.same a.z b.z) h in
    let two = both (spec.same a.x b.x) (spec.same a.y b.y) last.0 in
    key_eq a.x a.y a.z b.x b.y b.z (same_eq _ _ two.0) (same_eq _ _ two.1) (same_eq _ _ last.1)

pub key_self : (a : Key) → spec.same_key a a ≡ true
unfolding spec.same_key
key_self a = rw (same_self a.x, same_self a.y, same_self a.z)

-- a key compared as a program does it, number after number
module _ (tolerance : Float) (xs ys zs : List Float) (i : ℕ) (k : Key) where
  module _ (x : ℤ) (is : x ≡ nearest_capped (at xs i ⊘ tolerance)) (p : SFits w64 x) (q : SFits w64 k.x) where
    same_x : spec.same (nearest_capped (at xs i ⊘ tolerance)) k.x ≡ eqb (of_z w64 x) (of_z w64 k.x)
    same_x = sym (bits_same x k.x p q ∙ ap (λ (a : ℤ). spec.same a k.x) is)

    pub other_x : (of_z w64 x ≡ of_z w64 k.x → ⊥) → false ≡ spec.same_key (spec.key_at tolerance xs ys zs i) k
    unfolding spec.same_key spec.key_at
    other_x n = rw (same_x, ne_eqb _ _ n)

    module _ (e : of_z w64 x ≡ of_z w64 k.x) (y : ℤ) (is_y : y ≡ nearest_capped (at ys i ⊘ tolerance)) (p-y : SFits w64 y) (q-y : SFits w64 k.y) where
      same_y : spec.same (nearest_capped (at ys i ⊘ tolerance)) k.y ≡ eqb (of_z w64 y) (of_z w64 k.y)
      same_y = sym (bits_same y k.y p-y q-y ∙ ap (λ (a : ℤ). spec.same a k.y) is_y)

      pub other_y : (of_z w64 y ≡ of_z w64 k.y → ⊥) → false ≡ spec.same_key (spec.key_at tolerance xs ys zs i) k
      unfolding spec.same_key spec.key_at
      other_y n = rw (same_x, eq-eqb _ _ e, same_y, ne_eqb _ _ n)

      pub by_z : of_z w64 y ≡ of_z w64 k.y → (z : ℤ) → z ≡ nearest_capped (at zs i ⊘ tolerance) → SFits w64 z → SFits w64 k.z
          → eqb (of_z w64 z) (of_z w64 k.z) ≡ spec.same_key (spec.key_at tolerance xs ys zs i) k
      unfolding spec.same_key spec.key_at
      by_z f z is-z p-z q-z = rw (same_x, eq-eqb _ _ e, same_y, eq-eqb _ _ f) (bits_same z k.z p-z q-z ∙ ap (λ (a : ℤ). spec.same a k.z) is-z)

-- ---- the search for a key

-- node j has key k
abbrev pub has_key : Float → List Float → List Float → List Float → Key → ℕ → Bool
has_key tolerance xs ys zs k j = spec.same_key (spec.key_at tolerance xs ys zs j) k

-- a place that passes is the one found exactly where no place before it passes
pub found_first : (test : ℕ → Bool) (n i : ℕ) → i < n → test i ≡ true → eqb (spec.found_or n (first test n 0)) i ≡ not (any_below i test)
found_first test n i l t = step (first test n 0) refl
  where
    differ : test i ≡ false → ⊥
    differ f = let e : ◌≡◌ {A = ℕ} 1 0 = ap (λ (b : Bool). cond b 1 0) (sym t ∙ f) in omega arith

    at : (j : ℕ) → First test n 0 j → (j ≡ i) ⊎ (j < i) → eqb j i ≡ not (any_below i test)
    at j f (inl is) = rw (any_nowhere test i (λ k h. f.earlier k (omega arith) (omega arith))) (eq-eqb j i is)
    at j f (inr h) = rw (any_holds test i j h f.holds) (ne_eqb j i (λ is. omega arith))

    up_to : (j : ℕ) → First test n 0 j → (b : Bool) → ltb i j ≡ b → j ≤ i
    up_to j f true e = absurd (differ (f.earlier i (omega arith) (ltb-true i j e)))
    up_to j f false e = ltb-false i j e

    step : (o : Option ℕ) → first test n 0 ≡ o → eqb (spec.found_or n o) i ≡ not (any_below i test)
    step None e = absurd (differ (first_none test n 0 e i (omega arith) (omega arith)))
    step (Some j) e = let f = first_is test n 0 j e in at j f (eq-or-lt_of_le (up_to j f (ltb i j) refl))

-- whether place i is the one found
found_is : (i n : ℕ) → i < n → (f : Option ℕ) → option_eq eqb f (Some i) ≡ eqb (spec.found_or n f) i
found_is i n h None = sym (ne_eqb n i (λ is. omega arith))
found_is i n h (Some j) = refl

-- ---- the nodes that are kept

module _ (tolerance : Float) (xs ys zs : List Float) where
  -- of the first i
  abbrev pub kept_of : ℕ → List ℕ
  kept_of i = passing (spec.is_first tolerance xs ys zs) (elems i (λ i. i))

  pub is_first_lem : (i : ℕ) {f : ℕ} {k : Key} → i < length xs → k ≡ spec.key_at tolerance xs ys zs i → f ≡ spec.found_or (length xs) (first (has_key tolerance xs ys zs k) (length xs) 0)
      → eqb f i ≡ spec.is_first tolerance xs ys zs i
  unfolding spec.is_first
  is_first_lem i {f} {k} h e is = rw (is, e) (found_first (has_key tolerance xs ys zs (spec.key_at tolerance xs ys zs i)) (length xs) i h (key_self (spec.key_at tolerance xs ys zs i)))

  -- b says whether the search found node i
  pub first_found : (i : ℕ) {k : Key} {f : Option ℕ} {b : Bool} → b ≡ option_eq eqb f (Some i) → i < length xs → k ≡ spec.key_at tolerance xs ys zs i → f ≡ first (has_key tolerance xs ys zs k) (length xs) 0
      → b ≡ spec.is_first tolerance xs ys zs i
  first_found i {f = f} same h e is = same ∙ found_is i (length xs) h f ∙ is_first_lem i h e (ap (spec.found_or (length xs)) is)

  pub kept_start : kept_of 0 ≡ []
  unfolding runs elems
  kept_start = refl

  pub kept_more : (i : ℕ) → spec.is_first tolerance xs ys zs i ≡ true → kept_of (i + 1) ≡ kept_of i ++ (i ∷ [])
  kept_more i h = passing_more (spec.is_first tolerance xs ys zs) (λ i. i) i h

  pub kept_skips : (i : ℕ) → spec.is_first tolerance xs ys zs i ≡ false → kept_of (i + 1) ≡ kept_of i
  kept_skips i h = passing_skips (spec.is_first tolerance xs ys zs) (λ i. i) i h

  pub kept_most : (i : ℕ) → length (kept_of i) ≤ i
  kept_most i = omega (arith, passing_most (spec.is_first tolerance xs ys zs) (elems i (λ i. i)), elems_length (λ i. i) i)

  -- their number
  count_more : (i : ℕ) {count : ℕ} → count ≡ length (kept_of i) → spec.is_first tolerance xs ys zs i ≡ true → count + 1 ≡ length (kept_of (i + 1))
  count_more i e h = omega (arith, e, ap length (kept_more i h), length-append (kept_of i) (i ∷ []))

  count_skips : (i : ℕ) {count : ℕ} → count ≡ length (kept_of i) → spec.is_first tolerance xs ys zs i ≡ false → count ≡ length (kept_of (i + 1))
  count_skips i e h = e ∙ ap length (sym (kept_skips i h))

  -- one more has room where all of them have
  kept_room : (i n : ℕ) {count : ℕ} → count ≡ length (kept_of i) → spec.is_first tolerance xs ys zs i ≡ true → i < n → count < length (kept_of n)
  kept_room i n e h l = omega (arith, count_more i e h, passing_grows (spec.is_first tolerance xs ys zs) (λ i. i) (i + 1) n (omega arith))

  -- ---- new numbers

  -- the keys of the nodes kept, gathered into lists of their own
  pub gathered_key : (ks : List ℕ) (j : ℕ) → j < length ks → spec.key_at tolerance (gather nan xs ks) (gather nan ys ks) (gather nan zs ks) j ≡ spec.key_at tolerance xs ys zs (get_or ks j 0)
  unfolding spec.key_at
  gathered_key ks j h = rw (map_at (λ k. get_or xs k nan) ks j 0 nan h, map_at (λ k. get_or ys k nan) ks j 0 nan h, map_at (λ k. get_or zs k nan) ks j 0 nan h)

  abbrev ks : List ℕ
  ks = spec.kept tolerance xs ys zs

  -- some node of l has the key of node p
  record Held (l : List ℕ) (p : ℕ) : Type 0 where
    place : ℕ
    inside : place < length l
    same : spec.key_at tolerance xs ys zs (get_or l place 0) ≡ spec.key_at tolerance xs ys zs p

  held_more : (l : List ℕ) (p i : ℕ) → Held l p → Held (l ++ (i ∷ [])) p
  held_more l p i h =
      record {
        place = h.place;
        inside = omega (arith, h.inside, length-append l (i ∷ []));
        same = ap (spec.key_at tolerance xs ys zs) (get_or-append l (i ∷ []) 0 h.place h.inside) ∙ h.same;
      }

  held_last : (l : List ℕ) (i : ℕ) → Held (l ++ (i ∷ [])) i
  held_last l i = record { place = length l; inside = omega (arith, length-append l (i ∷ [])); same = ap (spec.key_at tolerance xs ys zs) (get_or_at l i [] 0 (length l) refl) }

  -- a node that is not the first has one before it
  not_first : (i : ℕ) → spec.is_first tolerance xs ys zs i ≡ false → (j : ℕ) × (j < i) × (spec.key_at tolerance xs ys zs j ≡ spec.key_at tolerance xs ys zs i)
  unfolding spec.is_first
  not_first i e =
      let s = any_some (λ j. spec.same_key (spec.key_at tolerance xs ys zs j) (spec.key_at tolerance xs ys zs i)) i (not-false _ e) in
      (s.0, s.1, key_same (spec.key_at tolerance xs ys zs s.0) (spec.key_at tolerance xs ys zs i) s.2)

  -- the nodes kept of the first n hold the keys of all of them
  held : (n p : ℕ) → p < n → Held (kept_of n) p
  held zero p h = absurd (omega arith)
  held (suc n) p h = step (spec.is_first tolerance xs ys zs n) refl (held n)
    where
      l : p ≤ n
      l = omega arith

      step : (b : Bool) → spec.is_first tolerance xs ys zs n ≡ b → ((q : ℕ) → q < n → Held (kept_of n) q) → Held (kept_of (suc n)) p
      step true t before =
          subst (λ (k : List ℕ). Held k p) (sym (passing_suc (spec.is_first tolerance xs ys zs) (λ i. i) n t))
          (⊎_elim
          (λ (e : p ≡ n). subst (Held (kept_of n ++ (n ∷ []))) (sym e) (held_last (kept_of n) n))
          (λ k. held_more (kept_of n) p n (before p k))
          (eq-or-lt_of_le l))
      step false t before =
          subst (λ (k : List ℕ). Held k p) (sym (skipping_suc (spec.is_first tolerance xs ys zs) (λ i. i) n t))
          (⊎_elim
          (λ (e : p ≡ n).
          let s = not_first n t in
          let b = before s.0 s.1 in
          record { place = b.place; inside = b.inside; same = b.same ∙ s.2 ∙ ap (spec.key_at tolerance xs ys zs) (sym e) })
          (λ k. before p k)
          (eq-or-lt_of_le l))

  number_in : (p : ℕ) (k : Key) → k ≡ spec.key_at tolerance xs ys zs p
      → spec.found_or (length (gather nan xs ks)) (first (has_key tolerance (gather nan xs ks) (gather nan ys ks) (gather nan zs ks) k) (length (gather nan xs ks)) 0)
      ≡ spec.new_number tolerance xs ys zs p
  unfolding spec.new_number
  number_in p k e =
      rw (gather_length nan xs ks, e)
      (ap (spec.found_or (length ks)) (first_same _ _ (length ks) 0 (λ l h g. ap (λ (a : Key). spec.same_key a (spec.key_at tolerance xs ys zs p)) (gathered_key ks l (omega arith)))))

  pub new_number_lem : {kx ky kz : List Float} (p : ℕ) {k : Key} {r : ℕ} → spec.KeptNodes tolerance xs ys zs kx ky kz → p < length xs → k ≡ spec.key_at tolerance xs ys zs p
      → r ≡ spec.found_or (length kx) (first (has_key tolerance kx ky kz k) (length kx) 0) → r ≡ spec.renumbered tolerance xs ys zs p
  unfolding spec.renumbered
  new_number_lem p {k} h l e is = is ∙ rw (h.x, h.y, h.z, lt-ltb p (length xs) l) (number_in p k e)

  -- the lookup among the nodes kept finds one
  pub look_up_finds : {kx ky kz : List Float} (p : ℕ) {k : Key} {f : Option ℕ} → spec.KeptNodes tolerance xs ys zs kx ky kz → p < length xs → k ≡ spec.key_at tolerance xs ys zs p
      → f ≡ first (has_key tolerance kx ky kz k) (length kx) 0 → f ≡ None → ⊥
  look_up_finds p h l e is none =
      let test = has_key tolerance (gather nan xs ks) (gather nan ys ks) (gather nan zs ks) (spec.key_at tolerance xs ys zs p) in
      let g = held (length xs) p l in
      let holds : test g.place ≡ true = ap (λ (a : Key). spec.same_key a (spec.key_at tolerance xs ys zs p)) (gathered_key ks g.place g.inside ∙ g.same) ∙ key_self (spec.key_at tolerance xs ys zs p) in
      let f = first_some test (length (gather nan xs ks)) g.place (omega (arith, g.inside, gather_length nan xs ks)) holds in
      no_some {n = f.0} (sym none ∙ is ∙ rw (h.x, h.y, h.z, e) f.1)
    where
      no_some : {n : ℕ} → None ≡ Some n → ⊥
      no_some z = let y : ◌≡◌ {A = ℕ} 0 1 = cc in omega arith

  pub no_node : (p : ℕ) → length xs ≤ p → p ≡ spec.renumbered tolerance xs ys zs p
  unfolding spec.renumbered
  no_node p h = rw (le-ltb p (length xs) h)

-- ---- what an iterator over the nodes that passes some on gives

filter_passing : (test : ℕ → Bool) (l : List ℕ) → filter test l ≡ passing test l
filter_passing test [] = refl
filter_passing test (a ∷ l) = ap (λ (rest : List ℕ). cond (test a) (a ∷ rest) rest) (filter_passing test l)

no_elems : (f : ℕ → ℕ) → [] ≡ elems 0 f
unfolding runs elems
no_elems f = refl

range_elems : (a n : ℕ) → range_with_len a n ≡ elems n (λ i. a + i)
range_elems a zero = no_elems (λ i. a + i)
range_elems a (suc n) =
    let head : a ≡ a + 0 = omega arith in
    ap (λ (l : List ℕ). a ∷ l) (range_elems (a + 1) n ∙ elems_same (λ i. a + 1 + i) (λ i. a + suc i) n (λ i h. omega arith))
    ∙ ap (λ (x : ℕ). x ∷ elems n (λ i. a + suc i)) head
    ∙ sym (elems_front (λ i. a + i) n)

pub filter_range : (test : ℕ → Bool) (n : ℕ) → filter test (range_with_len 0 n) ≡ passing test (elems n (λ i. i))
filter_range test n = filter_passing test (range_with_len 0 n) ∙ ap (passing test) (range_elems 0 n ∙ elems_same (λ i. 0 + i) (λ i. i) n (λ i h. omega arith))

-- ---- the loop that writes the nodes kept

pub record Writing (tolerance : Float) (xs ys zs ox₀ oy₀ oz₀ : List Float) (i count : ℕ) (ox oy oz : List Float) : Type 0 where
  pub many : count ≡ length (kept_of tolerance xs ys zs i)
  pub x : Gathered nan xs ox₀ (kept_of tolerance xs ys zs i) ox
  pub y : Gathered nan ys oy₀ (kept_of tolerance xs ys zs i) oy
  pub z : Gathered nan zs oz₀ (kept_of tolerance xs ys zs i) oz

module _ (tolerance : Float) (xs ys zs ox₀ oy₀ oz₀ : List Float) where
  pub write_start : Writing tolerance xs ys zs ox₀ oy₀ oz₀ 0 0 ox₀ oy₀ oz₀
  write_start =
      let none = kept_start tolerance xs ys zs in
      record { many = ap length (sym none); x = gather_start nan xs ox₀ _ none; y = gather_start nan ys oy₀ _ none; z = gather_start nan zs oz₀ _ none }

  module _ {i count : ℕ} {ox oy oz : List Float} (w : Writing tolerance xs ys zs ox₀ oy₀ oz₀ i count ox oy oz) where
    -- b says whether node i is kept; it has room where all of them have
    pub write_room : length (spec.kept tolerance xs ys zs) ≤ length ox₀ → i < length xs → {b : Bool} → b ≡ spec.is_first tolerance xs ys zs i → b ≡ true → count < length ox₀
    write_room room h is t = omega (arith, kept_room tolerance xs ys zs i (length xs) w.many (sym is ∙ t) h)

    pub write_more : {ox' oy' oz' : List Float} {count' : ℕ} {b : Bool} → b ≡ spec.is_first tolerance xs ys zs i → b ≡ true → count < length ox₀ → length oy₀ ≡ length ox₀ → length oz₀ ≡ length ox₀
        → ox' ≡ set ox count (get_or xs i nan) → oy' ≡ set oy count (get_or ys i nan) → oz' ≡ set oz count (get_or zs i nan) → count' ≡ count + 1
        → Writing tolerance xs ys zs ox₀ oy₀ oz₀ (i + 1) count' ox' oy' oz'
    write_more is t room ey ez ex' ey' ez' ec =
        let more = kept_more tolerance xs ys zs i (sym is ∙ t) in
        rw (ex', ey', ez', ec) record {
          many = count_more tolerance xs ys zs i w.many (sym is ∙ t);
          x = gather_more nan xs ox₀ i count w.x more w.many room;
          y = gather_more nan ys oy₀ i count w.y more w.many (omega arith);
          z = gather_more nan zs oz₀ i count w.z more w.many (omega arith);
        }

    pub write_skips : {ox' oy' oz' : List Float} {count' : ℕ} {b : Bool} → b ≡ spec.is_first tolerance xs ys zs i → b ≡ false → ox' ≡ ox → oy' ≡ oy → oz' ≡ oz → count' ≡ count
        → Writing tolerance xs ys zs ox₀ oy₀ oz₀ (i + 1) count' ox' oy' oz'
    write_skips is t ex' ey' ez' ec =
        let as-was = kept_skips tolerance xs ys zs i (sym is ∙ t) in
        rw (ex', ey', ez', ec) record {
          many = count_skips tolerance xs ys zs i w.many (sym is ∙ t);
          x = gather_stays nan xs ox₀ w.x as-was;
          y = gather_stays nan ys oy₀ w.y as-was;
          z = gather_stays nan zs oz₀ w.z as-was;
        }

-- ---- the lookup among the nodes kept

module _ (tolerance : Float) (xs ys zs : List Float) {kx ky kz : List Float} (h : spec.KeptNodes tolerance xs ys zs kx ky kz) where
  pub number_most : length xs ≤ 1048576 → (k : Key) {r : ℕ} → Some r ≡ first (has_key tolerance kx ky kz k) (length kx) 0 → r < 1048576
  number_most few k {r} is =
      omega (arith, first_below (has_key tolerance kx ky kz k) (length kx) 0 r (sym is), ap length h.x, gather_length nan xs (spec.kept tolerance xs ys zs), kept_most tolerance xs ys zs (length xs))

-- ---- the call

-- a refusal leaves the lent lists as they were
pub weld_refused : (lent : Mesh) (why : Refusal) (a : Answer Mesh) → a ≡ refused (refusal_number why) → spec.WeldedAs a lent (Err why) lent
weld_refused lent why a e = rw e record { answer = refl; lists = refl }

module _ (tolerance : Float) (xs ys zs : List Float) (kinds places regions : List ℕ) (lent : Mesh) where
  abbrev m : Mesh
  m = the_mesh xs ys zs kinds places regions

  -- no room for the elements, none for the nodes
  pub few_kinds : length lent.kinds < length kinds → spec.fit_welded lent (spec.welded tolerance m) ≡ refused 12
  unfolding spec.fit_welded spec.welded
  few_kinds h = rw (lt-leb (length kinds) (length lent.kinds) h, and_false)

  module _ (count : ℕ) (many : count ≡ length (spec.kept tolerance xs ys zs)) where
    as_many : length (gather nan xs (spec.kept tolerance xs ys zs)) ≡ count
    as_many = gather_length nan xs (spec.kept tolerance xs ys zs) ∙ sym many

    pub few_nodes_lem : length lent.xs < count → spec.fit_welded lent (spec.welded tolerance m) ≡ refused 12
    unfolding spec.fit_welded spec.welded
    few_nodes_lem h = rw (as_many, lt-leb count (length lent.xs) h)

    pub weld_done : (xs' ys' zs' : List Float) (kinds' places' regions' : List ℕ) → count ≤ length lent.xs → length kinds ≤ length lent.kinds
        → xs' ≡ put lent.xs 0 (gather nan xs (spec.kept tolerance xs ys zs)) → ys' ≡ put lent.ys 0 (gather nan ys (spec.kept tolerance xs ys zs)) → zs' ≡ put lent.zs 0 (gather nan zs (spec.kept tolerance xs ys zs))
        → kinds' ≡ put lent.kinds 0 kinds → places' ≡ put lent.places 0 (map (spec.renumbered tolerance xs ys zs) places) → regions' ≡ put lent.regions 0 regions
        → spec.WeldedAs (spec.fit_welded lent (spec.welded tolerance m)) lent (Ok (the_counts count (length kinds))) (the_mesh xs' ys' zs' kinds' places' regions')
    unfolding spec.fit_welded spec.welded
    weld_done xs' ys' zs' kinds' places' regions' h g ex ey ez ek ep er =
        rw (as_many, le-leb count (length lent.xs) h, le-leb (length kinds) (length lent.kinds) g) record {
          answer = rw as_many;
          lists = rw (ex, ey, ez, ek, ep, er);
        }

    -- the nodes, the places, the kinds and the regions are written, one after the other
    pub weld_written : {m₁ m₂ : Mesh} {kinds' regions' : List ℕ} → count ≤ length lent.xs → length kinds ≤ length lent.kinds
        → m₁ ≡ spec.with_kept (spec.kept tolerance xs ys zs) xs ys zs lent → m₂ ≡ spec.with_places (map (spec.renumbered tolerance xs ys zs) places) m₁
        → kinds' ≡ put m₂.kinds 0 kinds → regions' ≡ put m₂.regions 0 regions
        → spec.WeldedAs (spec.fit_welded lent (spec.welded tolerance m)) lent (Ok (the_counts count (length kinds))) (the_mesh m₂.xs m₂.ys m₂.zs kinds' m₂.places regions')
    weld_written h g e f ek er =
        weld_done _ _ _ _ _ _ h g
        (ap (λ (a : Mesh). a.xs) f ∙ ap (λ (a : Mesh). a.xs) e)
        (ap (λ (a : Mesh). a.ys) f ∙ ap (λ (a : Mesh). a.ys) e)
        (ap (λ (a : Mesh). a.zs) f ∙ ap (λ (a : Mesh). a.zs) e)
        (ek ∙ ap (λ (a : Mesh). put a.kinds 0 kinds) f ∙ ap (λ (a : Mesh). put a.kinds 0 kinds) e)
        (ap (λ (a : Mesh). a.places) f ∙ ap (λ (a : Mesh). put a.places 0 (map (spec.renumbered tolerance xs ys zs) places)) e)
        (er ∙ ap (λ (a : Mesh). put a.regions 0 regions) f ∙ ap (λ (a : Mesh). put a.regions 0 regions) e)

    -- where the nodes kept stand
    pub kept_written : {m₁ : Mesh} → m₁ ≡ spec.with_kept (spec.kept tolerance xs ys zs) xs ys zs lent → spec.KeptNodes tolerance xs ys zs (take count m₁.xs) (take count m₁.ys) (take count m₁.zs)
    kept_written e =
        let ks = spec.kept tolerance xs ys zs in
        record {
          x = gather_front nan xs lent.xs ks (ap (λ (a : Mesh). a.xs) e) many;
          y = gather_front nan ys lent.ys ks (ap (λ (a : Mesh). a.ys) e) many;
          z = gather_front nan zs lent.zs ks (ap (λ (a : Mesh). a.zs) e) many;
        }

    pub kept_within : {m₁ : Mesh} → m₁ ≡ spec.with_kept (spec.kept tolerance xs ys zs) xs ys zs lent → parallel lent ≡ true → count ≤ length lent.xs
        → (count ≤ length m₁.xs) × (count ≤ length m₁.ys) × (count ≤ length m₁.zs)
    kept_within {m₁} e even h =
        let l = equal_lengths _ _ _ _ _ _ even in
        let ks = spec.kept tolerance xs ys zs in
        let x : length m₁.xs ≡ length lent.xs = ap (λ (a : Mesh). length a.xs) e ∙ put_length lent.xs 0 (gather nan xs ks) (omega (arith, as_many)) in
        let y : length m₁.ys ≡ length lent.ys = ap (λ (a : Mesh). length a.ys) e ∙ put_length lent.ys 0 (gather nan ys ks) (omega (arith, l.same_ys, gather_length nan ys ks, many)) in
        let z : length m₁.zs ≡ length lent.zs = ap (λ (a : Mesh). length a.zs) e ∙ put_length lent.zs 0 (gather nan zs ks) (omega (arith, l.same_zs, gather_length nan zs ks, many)) in
        (omega (arith, x), omega (arith, y, l.same_ys), omega (arith, z, l.same_zs))

-- what a mesh that nothing is against tells
pub record Weldable (m : Mesh) : Type 0 where
  pub even : parallel m ≡ true
  pub few : length m.xs ≤ 1048576
  pub elements : elements_fault (length m.xs) m.kinds m.places ≡ given tt

pub fine_weldable : (ok : Bool) (m : Mesh) → mesh_fault ok m ≡ given tt → Weldable m
unfolding mesh_fault
fine_weldable ok m e =
    let even = passed (parallel m) 16 _ e in
    let few = passed (leb (length m.xs) 1048576 && leb (length m.kinds) 1048576) 2 _ even.1 in
    let range = passed (nodes_in m.xs m.ys m.zs && ok) 1 _ few.1 in
    record { even = even.0; few = leb-true _ _ (both (leb (length m.xs) 1048576) (leb (length m.kinds) 1048576) few.0).0; elements = range.1 }

module _ (m : Mesh) (tolerance : Float) (lent : Mesh) where
  pub weld_uneven : parallel lent ≡ false → spec.WeldedAs (spec.weld_nodes m tolerance lent) lent (Err refusal.UnequalLists) lent
  unfolding spec.weld_nodes
  weld_uneven e = weld_refused lent refusal.UnequalLists _ (rw e)

  module _ (even : parallel lent ≡ true) where
    pub weld_faulty : {n : ℕ} {r : Result Counts Refusal} → mesh_fault (at_most 20 tolerance) m ≡ refused n → answer r ≡ refused n → spec.WeldedAs (spec.weld_nodes m tolerance lent) lent r lent
    unfolding spec.weld_nodes
    weld_faulty e f = rw (even, e) (record { answer = f; lists = refl })

    pub weld_goes_on : mesh_fault (at_most 20 tolerance) m ≡ given tt → spec.weld_nodes m tolerance lent ≡ spec.fit_welded lent (spec.welded tolerance m)
    unfolding spec.weld_nodes
    weld_goes_on e = rw (even, e)

    -- an accepted mesh, as it is handed on
    pub weld_follows : {m₁ m₂ lent' : Mesh} {r : Result Counts Refusal} → given tt ≡ mesh_size m → at_most 20 tolerance ≡ true → m₁ ≡ m → given tt ≡ contents_fault m₁ → m₂ ≡ m₁
        → spec.WeldedAs (spec.fit_welded lent (spec.welded tolerance m₂)) lent r lent' → spec.WeldedAs (spec.weld_nodes m tolerance lent) lent r lent'
    weld_follows {lent' = lent'} {r = r} size in_range e contents f w =
        let fine : mesh_fault (at_most 20 tolerance) m ≡ given tt = fault_by_contents m size in_range ∙ ap contents_fault (sym e) ∙ sym contents in
        rw (weld_goes_on fine) (subst (λ (a : Mesh). spec.WeldedAs (spec.fit_welded lent (spec.welded tolerance a)) lent r lent') (f ∙ e) w)
