-- The edges that span a height, taken on from band to band, and their sort by where they cross it. Assumes nothing.
use mathlib.Core.Path.{◌≡◌, refl, sym, ap, ◌∙◌, subst}
use mathlib.Core.Bool.{Bool, true, false, not, ◌&&◌, xor}
use mathlib.Core.List.{List, [], ◌++◌, map}
use Prim.Native.Nat.{ℕ, ◌+◌, ◌-◌, ◌<◌, ◌≤◌}
use native.Mathlib.Omega.{arith}
use lib.ListN.{length, get_or, take, drop, length-append}
use lib.Seq.{length-take-le, take-length, take-append-add, drop_at, get_or-take}
use lib.Ieee.{Float, nan, inf, le}
use Rattle.lists.specs.Answer.{given}
use Rattle.lists.specs.Lists.{elems, passing, all_of, Below, next_of}
use Rattle.lists.specs.Counts.{SameEntries}
use Rattle.lists.specs.Sorts.{slot, insert_at, sort_by, sort_onto, or_number}
use Rattle.lists.proofs.Fills.{elems_length}
use Rattle.lists.proofs.Parts.{rest_at, rest_more, rest_back_is, rest_back_long}
use Rattle.lists.proofs.Passing.{all_of_more, all_of_fails, all_of_same, below_same, below_passing_elems, passing_most, passing_next, passing_none, same_long, all_of_at}
use Rattle.lists.proofs.Places.{next_inside, next_last, next_below}
use Rattle.lists.proofs.Sorts.{slot_same, key_at_lem, keys_more, sort_turn, sort_end, sort_tally, rising_passing}
use Rattle.binary64.specs.Numbers.{at, at_most}
use Rattle.binary64.proofs.KeySorts.{sort_by_key}
use Rattle.binary64.proofs.Order.{never, at_most_above}
use Rattle.openrdson_core.specs.Points.{ring_fault}
use Rattle.openrdson_core.proofs.Rings.{fine_heights}
use Rattle.meshing.specs.Crossings.{spans, spanning, edge_at, left_of, crossings, crosses_in, new_at, goes_before, SortedAs}

-- ---- the sort

-- the first i edges stand sorted, with the x of each beside it; all of them cross in range, and the others are as they were
pub record Sorting (xs ys : List Float) (y : Float) (edges₀ : List ℕ) (i : ℕ) (edges : List ℕ) (xs-at : List Float) : Type 0 where
  pub keys : take i xs-at ≡ map (edge_at xs ys y) (take i edges)
  pub rest : drop i edges ≡ drop i edges₀
  pub sorted : sort_by (or_number (left_of xs ys y)) edges₀ ≡ sort_onto (or_number (left_of xs ys y)) (take i edges) (drop i edges)
  pub fine : all_of (crosses_in xs ys y) (take i edges₀) ≡ true
  pub long : length edges ≡ length edges₀

module _ (xs ys : List Float) (y : Float) (edges₀ : List ℕ) where
  pub sorting_start : (xs-at : List Float) → Sorting xs ys y edges₀ 0 edges₀ xs-at
  sorting_start xs-at = record { keys = refl; rest = refl; sorted = refl; fine = refl; long = refl }

  module _ {i : ℕ} {edges : List ℕ} {xs-at : List Float} (s : Sorting xs ys y edges₀ i edges xs-at) where
    -- the edge to put in is as it was
    pub sorting_at : get_or edges i 0 ≡ get_or edges₀ i 0
    sorting_at = rest_at edges₀ edges i s.rest 0

    -- edge i is put in, with x beside it
    module _ (x : Float) (h : i < length edges₀) (is : x ≡ edge_at xs ys y (get_or edges i 0)) where
      place_is : slot (λ k. goes_before x (get_or edges i 0) (at xs-at k) (get_or edges k 0)) i ≡ slot (λ k. or_number (left_of xs ys y) (get_or edges i 0) (get_or (take i edges) k 0)) i
      place_is =
          slot_same (λ k. goes_before x (get_or edges i 0) (at xs-at k) (get_or edges k 0)) (λ k. or_number (left_of xs ys y) (get_or edges i 0) (get_or (take i edges) k 0)) i
          (λ k g. rw (get_or-take i edges k 0 g, is, key_at_lem (edge_at xs ys y) edges xs-at i k 0 nan s.keys g (omega (arith, s.long))))

      pub sorting_turn : (edges' : List ℕ) (xs-at' : List Float) → at_most 20 x ≡ true
          → take (i + 1) edges' ≡ insert_at (slot (λ k. goes_before x (get_or edges i 0) (at xs-at k) (get_or edges k 0)) i) (get_or edges i 0) (take i edges)
          → take (i + 1) xs-at' ≡ insert_at (slot (λ k. goes_before x (get_or edges i 0) (at xs-at k) (get_or edges k 0)) i) x (take i xs-at)
          → drop (i + 1) edges' ≡ drop (i + 1) edges → length edges' ≡ length edges → Sorting xs ys y edges₀ (i + 1) edges' xs-at'
      sorting_turn edges' xs-at' fits new new-at kept same =
          let k = slot (λ k. goes_before x (get_or edges i 0) (at xs-at k) (get_or edges k 0)) i in
          record {
            keys = keys_more (edge_at xs ys y) (take i edges) (take (i + 1) edges') (get_or edges i 0) (take i xs-at) (take (i + 1) xs-at') k s.keys new (new-at ∙ ap (λ (z : Float). insert_at k z (take i xs-at)) is);
            rest = kept ∙ rest_more edges₀ edges i s.rest;
            sorted = sort_turn (or_number (left_of xs ys y)) (sort_by (or_number (left_of xs ys y)) edges₀) edges edges' i k 0 (omega (arith, s.long)) s.sorted place_is new kept;
            fine = all_of_more (crosses_in xs ys y) edges₀ i 0 h s.fine (ap (λ (e : ℕ). at_most 20 (edge_at xs ys y e)) (sym sorting_at) ∙ ap (at_most 20) (sym is) ∙ fits);
            long = same ∙ s.long;
          }

      -- or it crosses out of range
      pub sorting_out : at_most 20 x ≡ false → SortedAs xs ys y edges₀ false edges
      sorting_out out =
          record {
            in_range = sym (all_of_fails (crosses_in xs ys y) edges₀ i 0 h (ap (λ (e : ℕ). at_most 20 (edge_at xs ys y e)) (sym sorting_at) ∙ ap (at_most 20) (sym is) ∙ out));
            sorted = λ e. never e;
          }

    pub sorting_end : i ≡ length edges₀ → SortedAs xs ys y edges₀ true edges
    sorting_end e =
        record {
          in_range = sym (sym (ap (all_of (crosses_in xs ys y)) (ap (λ (n : ℕ). take n edges₀) e ∙ take-length edges₀)) ∙ s.fine);
          sorted = λ _. sort_end (or_number (left_of xs ys y)) (sort_by (or_number (left_of xs ys y)) edges₀) edges i s.sorted (omega (arith, s.long));
        }

-- ---- the edges that span a height

pub spanning_most : (ys : List Float) (y : Float) → length (spanning ys y) ≤ length ys
spanning_most ys y = omega (arith, passing_most (spans ys y) (elems (length ys) (λ e. e)), elems_length (λ e. e) (length ys))

module _ (xs ys : List Float) (y : Float) where
  -- the crossings are those edges
  pub crossings_entries : SameEntries (crossings xs ys y) (spanning ys y)
  unfolding crossings
  crossings_entries test = sort_tally (left_of xs ys y) test (spanning ys y)

  module _ (edges : List ℕ) (same : SameEntries edges (spanning ys y)) where
    pub spanning_below : (n : ℕ) → length ys ≡ n → Below n edges
    spanning_below n e = below_same n (spanning ys y) edges (λ test. sym (same test)) (subst (λ (k : ℕ). Below k (spanning ys y)) e (below_passing_elems (spans ys y) (length ys)))

    -- sorted, they are the crossings, and all cross in range if those do
    module _ {fine : Bool} {edges' : List ℕ} (s : SortedAs xs ys y edges fine edges') where
      pub in_range_is : fine ≡ all_of (crosses_in xs ys y) (crossings xs ys y)
      in_range_is = s.in_range ∙ all_of_same (crosses_in xs ys y) edges (crossings xs ys y) (λ test. same test ∙ sym (crossings_entries test))

      pub sorted_is : fine ≡ true → edges' ≡ crossings xs ys y
      unfolding crossings
      sorted_is e =
          s.sorted e
          ∙ sort_by_key (edge_at xs ys y) edges (spanning ys y) (rising_passing (spans ys y) (length ys)) same (sym (all_of_same (crosses_in xs ys y) edges (spanning ys y) same) ∙ sym s.in_range ∙ e)

-- ---- a loop over the edges that carries on, from an edge to the next, whether it starts at the height or below it

module _ (ys : List Float) (y : Float) (e : ℕ) where
  pub ends_inside : e + 1 < length ys → le (at ys (next_of (length ys) e)) y ≡ le (at ys (e + 1)) y
  ends_inside h = ap (λ (k : ℕ). le (at ys k) y) (next_inside (length ys) e h)

  pub ends_last : e < length ys → length ys ≤ e + 1 → le (at ys (next_of (length ys) e)) y ≡ le (at ys 0) y
  ends_last h g = ap (λ (k : ℕ). le (at ys k) y) (next_last (length ys) e (omega arith))

  pub new_is : (below : Float) {low end : Bool} → low ≡ le (at ys e) y → end ≡ le (at ys (next_of (length ys) e)) y → new_at ys below y e ≡ (xor low end && not (spans ys below e))
  unfolding spans
  new_is below starts ends = rw (starts, ends)

-- ---- from band to band

-- of edges that span the height `below`, those that span the height y, and the new ones
module _ (ys : List Float) (below y : Float) (l : List ℕ) (same : SameEntries l (spanning ys below)) (kept : ℕ) (edges : List ℕ) (fits : kept ≤ length edges) (are : take kept edges ≡ passing (spans ys y) l) where
  together : SameEntries (take kept edges ++ passing (new_at ys below y) (elems (length ys) (λ e. e))) (spanning ys y)
  together = rw are (passing_next (spans ys below) (spans ys y) l (elems (length ys) (λ e. e)) same)

  pub next_most : kept + length (passing (new_at ys below y) (elems (length ys) (λ e. e))) ≤ length ys
  next_most =
      omega (
        arith,
        length-append (take kept edges) (passing (new_at ys below y) (elems (length ys) (λ e. e))),
        length-take-le kept edges fits,
        same_long (take kept edges ++ passing (new_at ys below y) (elems (length ys) (λ e. e))) (spanning ys y) together,
        spanning_most ys y,
      )

  pub next_spanning : (all : List ℕ) → all ≡ take kept edges ++ passing (new_at ys below y) (elems (length ys) (λ e. e)) → SameEntries all (spanning ys y)
  next_spanning all e test = rw e (together test)

-- l with new edges in l[kept..]: those kept, then the new ones
module _ (l new : List ℕ) (kept : ℕ) (h : kept ≤ length l) (e : length new ≡ length (drop kept l)) where
  abbrev pub with_new : List ℕ
  with_new = take kept l ++ (new ++ drop (length l - kept) (drop kept l))

  pub new_long : length with_new ≡ length l
  new_long = rest_back_long l kept new h e

  pub new_front : (added : ℕ) → take (kept + added) with_new ≡ take kept l ++ take added new
  new_front added =
      ap (take (kept + added)) (rest_back_is l kept new h e) ∙ ap (λ (k : ℕ). take (k + added) (take kept l ++ new)) (sym (length-take-le kept l h)) ∙ take-append-add (take kept l) new added

  pub new_lent : (added : ℕ) → take (kept + added - kept) (drop kept with_new) ≡ take added new
  new_lent added =
      let n : kept + added - kept ≡ added = omega arith in
      ap (λ (k : ℕ). take k (drop kept with_new)) n ∙ ap (λ (x : List ℕ). take added (drop kept x)) (rest_back_is l kept new h e) ∙ ap (take added) (drop_at (take kept l) new kept (length-take-le kept l h))

-- below the first band: no edge of a checked ring spans minus infinity
module _ (xs ys : List Float) (checked : ring_fault xs ys ≡ given tt) where
  above : (i : ℕ) → i < length ys → le (at ys i) (inf true) ≡ false
  above i h = at_most_above 20 (at ys i) (all_of_at (at_most 20) ys i nan (fine_heights xs ys checked) h)

  pub spanning_none : spanning ys (inf true) ≡ []
  unfolding spans xor
  spanning_none =
      passing_none (spans ys (inf true)) (λ e. e) (length ys) (λ i h. rw (above i h, above (next_of (length ys) i) (next_below (length ys) i h)))
