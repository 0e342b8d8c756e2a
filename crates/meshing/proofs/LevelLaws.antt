-- The levels, turn by turn: close heights are dropped; a height that equals one that is there changes no level. Assumes nothing.
use mathlib.Core.Path.{◌≡◌, refl, sym, ap, ◌∙◌}
use mathlib.Core.Bool.{Bool, true, false, cond}
use mathlib.Core.List.{List, [], ◌∷◌, ◌++◌, append-nil, append_assoc}
use Prim.Native.Nat.{ℕ, zero, suc, ◌+◌, ◌-◌, ◌≤◌, ◌<◌}
use native.Mathlib.Nat.{not-suc-le-zero}
use native.Mathlib.Numerals.{add-one}
use native.Mathlib.Omega.{arith}
use lib.ListN.{length, take, drop, set, length-set, drop_of_length-le}
use lib.Seq.{length-take-le, drop-cons, get_or-take, take-set-lt, drop-set-lt, take-suc-set}
use lib.Dec.{ltb}
use borrow.Author.Tests.{ltb-true, ltb-false}
use Rattle.std.specs.Prelude.{Option, Some, None}
use lib.Ieee.{Float, nan, lt, eq}
use Rattle.lists.specs.Lists.{all_of}
use Rattle.lists.specs.Sorts.{slot, insert_at, insert_by, sort_onto}
use Rattle.lists.proofs.Scans.{both}
use Rattle.lists.proofs.Passing.{all_of_at, all_of_drop}
use Rattle.std.specs.List.{copy_within}
use Rattle.std.proofs.lemmas.List.{drop-take, take_all}
use Rattle.lists.proofs.Sorts.{shifted, shift_end, shifted_length, Doubled, here, there, doubled_at, onto_doubled, onto_all, insert_all, insert_is}
use Rattle.binary64.specs.Numbers.{◌⊖◌, at, abs, at_most}
use Rattle.binary64.specs.Constants.{tiny15}
use Rattle.binary64.proofs.Order.{eq_le, eq_ge, le_not_lt}
use Rattle.binary64.proofs.KeySorts.{tied_above, tied_apart, tied_near}
use Rattle.meshing.specs.Levels.{apart_from, apart, levels, LevelsAlike}

-- ---- close heights dropped, in place: the first `count` are kept so far, `last` is the last of them

pub apart_start : (l : List Float) (m : ℕ) → 0 < m → m ≤ length l → apart (take m l) ≡ take 1 l ++ apart_from (at l 0) (drop 1 (take m l))
unfolding apart
apart_start l zero h g = absurd (not-suc-le-zero h)
apart_start [] (suc m) h g = absurd (not-suc-le-zero g)
apart_start (y ∷ l) (suc m) h g = refl

pub apart_none : (l : List Float) (m : ℕ) → m ≡ 0 → take 0 l ≡ apart (take m l)
unfolding apart
apart_none l m e = rw e

module _ (all l : List Float) (m count i : ℕ) (last : Float) (sofar : all ≡ take count l ++ apart_from last (drop i (take m l))) where
  module _ (more : i < m) (room : m ≤ length l) where
    next : (b : Bool) → lt (abs (at l i ⊖ last)) tiny15 ≡ b → apart_from last (drop i (take m l)) ≡ cond b (apart_from last (drop (i + 1) (take m l))) (at l i ∷ apart_from (at l i) (drop (i + 1) (take m l)))
    unfolding apart_from
    next b e = rw (add-one i, drop-cons (take m l) i nan (omega (arith, length-take-le m l room)), get_or-take m l i nan more, e)

    -- height i is dropped
    pub apart_near : (s : Float) → s ≡ abs (at l i ⊖ last) → lt s tiny15 ≡ true → all ≡ take count l ++ apart_from last (drop (i + 1) (take m l))
    apart_near s is e = sofar ∙ ap (λ (r : List Float). take count l ++ r) (next true (rw is at e))

    -- height i is kept
    pub apart_far : count ≤ i → (s : Float) → s ≡ abs (at l i ⊖ last) → lt s tiny15 ≡ false → all ≡ take (count + 1) (set l count (at l i)) ++ apart_from (at l i) (drop (i + 1) (take m (set l count (at l i))))
    apart_far h s is e =
        sofar ∙ ap (λ (r : List Float). take count l ++ r) (next false (rw is at e))
        ∙ rw (take-set-lt m l count (at l i) (omega arith), drop-set-lt (i + 1) (take m l) count (at l i) (omega arith), add-one count, take-suc-set l count (at l i) (omega arith), append_assoc)

  -- the same of equal values
  pub apart_as : {l' : List Float} {last' : Float} {count' : ℕ} → l' ≡ l → last' ≡ last → count' ≡ count → all ≡ take count' l' ++ apart_from last' (drop i (take m l'))
  apart_as a b c = rw (a, b, c) sofar

  pub apart_end : m ≤ i → m ≤ length l → take count l ≡ all
  unfolding apart_from
  apart_end h g =
      let none : length (take m l) ≤ i = omega (arith, length-take-le m l g) in
      sym (sofar ∙ rw (drop_of_length-le (take m l) none, append-nil))

-- ---- heights of which neither is less

abbrev Tied : Float → Float → Type 0
Tied z y = (at_most 20 z ≡ true) × (at_most 20 y ≡ true) × (lt z y ≡ false) × (lt y z ≡ false)

apart_tied : {a b : List Float} → Doubled Tied a b → (last : Float) → at_most 20 last ≡ true → all_of (at_most 20) a ≡ true → apart_from last a ≡ apart_from last b
unfolding apart_from
apart_tied (here z y l e) last r h =
    rw (tied_near 20 y z e.1 e.0 e.3 e.2, tied_apart 20 z y e.0 e.1 e.2 e.3 last r tiny15) (go (lt (abs (y ⊖ last)) tiny15))
  where
    go : (b : Bool) → cond b (apart_from last l) (z ∷ apart_from z l) ≡ cond b (cond b (apart_from last l) (y ∷ apart_from y l)) (z ∷ apart_from z l)
    go true = refl
    go false = refl
apart_tied (there x a b d) last r h =
    let parts = both (at_most 20 x) (all_of (at_most 20) a) h in
    rw (apart_tied d last r parts.1, apart_tied d x parts.0 parts.1)

apart_alike : {a b : List Float} → Doubled Tied a b → all_of (at_most 20) a ≡ true → apart a ≡ apart b
unfolding apart apart_from
apart_alike (here z y l e) h = rw (tied_near 20 y z e.1 e.0 e.3 e.2)
apart_alike (there x a b d) h =
    let parts = both (at_most 20 x) (all_of (at_most 20) a) h in
    ap (λ (l : List Float). x ∷ l) (apart_tied d x parts.0 parts.1)

alike : {a b : List Float} → Doubled Tied a b → all_of (at_most 20) a ≡ true → LevelsAlike a b
alike {a} d h rest g =
    apart_alike (onto_doubled lt Tied (λ z y w e. tied_above 20 z y e.0 e.1 e.2 e.3 w) rest d) (onto_all lt (at_most 20) a rest h g)

-- ---- the place of a height, by the last place at which the test fails

module _ (test : ℕ → Bool) where
  slot_none : (n : ℕ) → ((i : ℕ) → i < n → test i ≡ true) → slot test n ≡ 0
  unfolding slot
  slot_none zero f = refl
  slot_none (suc n) f = rw (f n (omega arith)) (slot_none n (λ i h. f i (omega arith)))

  slot_some : (n j : ℕ) → j < n → test j ≡ false → ((i : ℕ) → j < i → i < n → test i ≡ true) → slot test n ≡ suc j
  unfolding slot
  slot_some zero j h t f = absurd (not-suc-le-zero h)
  slot_some (suc n) j h t f = at (λ g. slot_some n j g t (λ i l k. f i l (omega arith))) (ltb j n) refl
    where
      at : (j < n → slot test n ≡ suc j) → (b : Bool) → ltb j n ≡ b → cond (test n) (slot test n) (suc n) ≡ suc j
      at left true e = rw (f n (ltb-true j n e) (omega arith)) (left (ltb-true j n e))
      at left false e = let q : n ≡ j = omega (arith, ltb-false j n e) in rw (q, t) refl

  pub slot_last : (n : ℕ) (r : Option ℕ) (v : ℕ) → (r ≡ None → v ≡ 0) → ((j : ℕ) → r ≡ Some j → v ≡ j + 1) → (r ≡ None → (i : ℕ) → i < n → test i ≡ true)
      → ((j : ℕ) → r ≡ Some j → (j < n) × (test j ≡ false) × ((i : ℕ) → j < i → i < n → test i ≡ true)) → (v ≡ slot test n) × (v ≤ n)
  slot_last n None v a b p q = (a refl ∙ sym (slot_none n (p refl)), omega (arith, a refl))
  slot_last n (Some j) v a b p q = let f = q j refl in (b j refl ∙ add-one j ∙ sym (slot_some n j f.0 f.1 f.2), omega (arith, b j refl, f.0))

-- ---- a height is put in

-- at place k, where those from k on have moved one to the right
pub level_put : (l : List Float) (n k : ℕ) (y : Float) → n ≡ length l - 1 → k < length l → set (copy_within l k n (k + 1)) k y ≡ insert_at k y (take n l)
level_put l n k y e h =
    let long : length l ≡ n + 1 = omega arith in
    let back : k + (n - k) ≡ n = omega arith in
    let past : k + 1 + (n - k) ≡ suc n = omega arith in
    let mid : take (n - k) (drop k l) ≡ drop k (take n l) = sym (drop-take k (n - k) l) ∙ ap (λ (j : ℕ). drop k (take j l)) back in
    let is : copy_within l k n (k + 1) ≡ shifted l n k =
    ap (λ (m : List Float). take (k + 1) l ++ m ++ drop (k + 1 + (n - k)) l) mid ∙ ap (λ (j : ℕ). take (k + 1) l ++ drop k (take n l) ++ drop j l) past ∙ ap (λ (j : ℕ). take j l ++ drop k (take n l) ++ drop (suc n) l) (add-one k) ∙ append_assoc (take (suc k) l) (drop k (take n l)) (drop (suc n) l) in
    sym (take_all (n + 1) (set (copy_within l k n (k + 1)) k y) (omega (arith, length-set (copy_within l k n (k + 1)) k y, ap length is, shifted_length l n k (omega arith) (omega arith))))
    ∙ shift_end l n k k y (copy_within l k n (k + 1)) is refl (omega arith) (omega arith)

module _ (l : List Float) (y : Float) (k : ℕ) (is : k ≡ slot (λ j. lt y (at l j)) (length l)) (all : all_of (at_most 20) l ≡ true) (in_range : at_most 20 y ≡ true) where
  -- one equals it
  pub level_there : 0 < k → k ≤ length l → eq (at l (k - 1)) y ≡ true → LevelsAlike l (insert_by lt y l)
  level_there some most same =
      let q : suc (k - 1) ≡ k = omega arith in
      let z = at l (k - 1) in
      rw (insert_is lt y nan l, ← is, ← q)
      (alike
      (doubled_at Tied l (k - 1) y nan (omega arith) (all_of_at (at_most 20) l (k - 1) nan all (omega arith), in_range, le_not_lt y z (eq_ge z y same), le_not_lt z y (eq_le z y same)))
      all)

  module _ (now : List Float) (new : now ≡ insert_at k y l) where
    put_in : now ≡ insert_by lt y l
    put_in = new ∙ ap (λ (n : ℕ). insert_at n y l) is ∙ sym (insert_is lt y nan l)

    pub level_new : LevelsAlike now (insert_by lt y l)
    level_new rest g = ap (λ (t : List Float). apart (sort_onto lt t rest)) put_in

    pub level_new_all : all_of (at_most 20) now ≡ true
    level_new_all = ap (all_of (at_most 20)) put_in ∙ insert_all lt (at_most 20) y l ∙ rw (in_range, all)

-- ---- all heights

module _ (ys : List Float) where
  pub levels_start : (o : List Float) → levels ys ≡ apart (sort_onto lt (take 0 o) (drop 0 ys))
  unfolding levels
  levels_start o = refl

  module _ (l : List Float) (i : ℕ) (sofar : levels ys ≡ apart (sort_onto lt l (drop i ys))) where
    pub levels_more : (now : List Float) → i < length ys → all_of (at_most 20) ys ≡ true → LevelsAlike now (insert_by lt (at ys i) l) → levels ys ≡ apart (sort_onto lt now (drop (i + 1) ys))
    unfolding sort_onto
    levels_more now h all same =
        sofar ∙ ap (λ (r : List Float). apart (sort_onto lt l r)) (drop-cons ys i nan h)
        ∙ rw (add-one i) (sym (same (drop (suc i) ys) (all_of_drop (at_most 20) ys (suc i) all)))

    pub levels_end : length ys ≤ i → apart l ≡ levels ys
    unfolding sort_onto
    levels_end h = sym (sofar ∙ rw (drop_of_length-le ys h))
