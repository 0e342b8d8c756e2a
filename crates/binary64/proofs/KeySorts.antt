-- Numbers sorted by a binary64 key: the order of the keys is one way, and on keys in range ties are all that it leaves open. Assumes nothing.
use Rattle.std.proofs.Common.{◌≡◌, ℕ, Bool, true, false, List, pos, sym, refl, ap, ◌∙◌}
use lib.Ieee.{Float, fin, binary64, of_bits, neg, lt, le}
use Rattle.lists.specs.Counts.{tally}
use Rattle.lists.specs.Lists.{all_of}
use Rattle.lists.specs.Sorts.{sort_by, or_number}
use Rattle.lists.proofs.Sorts.{Rising, sort_by_number}
use Rattle.binary64.proofs.Order.{le_trans, le_not_lt, lt_le, lt_le_trans, le_lt_trans, le_refl_left, le_total, not_lt_le, at_most_high}
use Rattle.binary64.proofs.Differences.{farther_below, farther_above, abs_swap, within_both, difference_above, difference_below}
use Rattle.binary64.specs.Numbers.{◌⊖◌, at_most, abs}

pub lt_one_way : (x y : Float) → lt x y ≡ true → lt y x ≡ false
lt_one_way x y h = le_not_lt x y (lt_le x y h)

-- a number in range is at most itself
number : (k : ℕ) (x : Float) → at_most k x ≡ true → le x x ≡ true
number k x X = le_refl_left x (fin false 1 (pos k)) (at_most_high k x X)

-- not less, in two steps
pub back_in : (k : ℕ) (x y z : Float) → at_most k x ≡ true → at_most k y ≡ true → at_most k z ≡ true → lt y x ≡ false → lt z y ≡ false → lt z x ≡ false
back_in k x y z X Y Z h g = le_not_lt x z (le_trans x y z (not_lt_le y x (number k y Y) (number k x X) h) (not_lt_le z y (number k z Z) (number k y Y) g))

-- numbers in any order, sorted by key and then by number, are the numbers in rising order, sorted by key
pub sort_by_key : (key : ℕ → Float) (l s : List ℕ) → Rising s → ((test : ℕ → Bool) → tally test l ≡ tally test s) → all_of (λ e. at_most 20 (key e)) s ≡ true → sort_by (or_number (λ a b. lt (key a) (key b))) l ≡ sort_by (λ a b. lt (key a) (key b)) s
sort_by_key key l s r same all =
    sort_by_number (λ a b. lt (key a) (key b)) (λ e. at_most 20 (key e)) (λ a b. lt_one_way (key a) (key b)) (λ a b c. back_in 20 (key a) (key b) (key c)) l s r same all

-- ---- two numbers of which neither is less: no test tells them apart

same_test : (p q : Bool) → (p ≡ true → q ≡ true) → (q ≡ true → p ≡ true) → p ≡ q
same_test true q f g = sym (f refl)
same_test false true f g = g refl
same_test false false f g = refl

-- the one is no farther from z than the other
no_farther : (k : ℕ) (x y z : Float) → at_most k x ≡ true → at_most k y ≡ true → at_most k z ≡ true → le x y ≡ true → le y x ≡ true → le (abs (x ⊖ z)) (abs (y ⊖ z)) ≡ true
no_farther k x y z X Y Z u d =
    ap (λ (a : Float). le a (abs (y ⊖ z))) (abs_swap k x z X Z) ∙ ap (le (abs (z ⊖ x))) (abs_swap k y z Y Z) ∙ at (le x z) refl
  where
    at : (b : Bool) → le x z ≡ b → le (abs (z ⊖ x)) (abs (z ⊖ y)) ≡ true
    at true e = farther_below k y x z Y X Z d e
    at false e = farther_above k y x z Y X Z u (le_total x z (number k x X) (number k z Z) e)

module _ (k : ℕ) (x y : Float) (X : at_most k x ≡ true) (Y : at_most k y ≡ true) (h : lt x y ≡ false) (g : lt y x ≡ false) where
  -- each is at most the other
  pub tied_le : le x y ≡ true
  tied_le = not_lt_le y x (number k y Y) (number k x X) g

  pub tied_ge : le y x ≡ true
  tied_ge = not_lt_le x y (number k x X) (number k y Y) h

  -- each is above the same numbers, and below the same
  pub tied_above : (w : Float) → lt w x ≡ lt w y
  tied_above w = same_test (lt w x) (lt w y) (λ e. lt_le_trans w x y e tied_le) (λ e. lt_le_trans w y x e tied_ge)

  pub tied_below : (w : Float) → lt x w ≡ lt y w
  tied_below w = same_test (lt x w) (lt y w) (le_lt_trans y x w tied_ge) (le_lt_trans x y w tied_le)

  -- each is as far from z
  pub tied_apart : (z : Float) → at_most k z ≡ true → (t : Float) → lt (abs (x ⊖ z)) t ≡ lt (abs (y ⊖ z)) t
  tied_apart z Z t =
      same_test (lt (abs (x ⊖ z)) t) (lt (abs (y ⊖ z)) t)
      (le_lt_trans (abs (y ⊖ z)) (abs (x ⊖ z)) t (no_farther k y x z Y X Z tied_ge tied_le))
      (le_lt_trans (abs (x ⊖ z)) (abs (y ⊖ z)) t (no_farther k x y z X Y Z tied_le tied_ge))

  -- their difference is a zero
  pub tied_nought : le (abs (x ⊖ y)) (fin false 0 (pos 0)) ≡ true
  unfolding neg le
  tied_nought =
      within_both (x ⊖ y) (fin false 0 (pos 0))
      (le_trans (neg (fin false 0 (pos 0))) (fin false 0 (pos 0)) (x ⊖ y) refl (difference_above k x y X Y tied_ge))
      (difference_below k x y X Y tied_le)

  -- and so is below 1e-15
  pub tied_near : lt (abs (x ⊖ y)) (of_bits binary64 0x3cd2_03af_9ee7_5616) ≡ true
  tied_near = le_lt_trans (abs (x ⊖ y)) (fin false 0 (pos 0)) (of_bits binary64 0x3cd2_03af_9ee7_5616) tied_nought (unfold of_bits lt in refl)
