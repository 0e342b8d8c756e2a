-- Where a sum, a difference or a product is a number, so is what it was made of. A number is what is at most itself. Assumes nothing.
use Rattle.std.proofs.Common.{◌≡◌, true, false, sym, refl, ap, ◌∙◌}
use lib.Ieee.{Float, nan, inf, fin, neg, add, sub, mul, le, ne}
use Rattle.binary64.specs.Numbers.{◌⊕◌, ◌⊖◌, ◌⊗◌}
use Rattle.binary64.proofs.Order.{never, number_or_nan}

-- x is a number where a result that is none with x = nan is one
from_result : (x : Float) (op : Float → Float) → op nan ≡ nan → le (op x) (op x) ≡ true → le x x ≡ true
unfolding le
from_result x op e h = number_or_nan x (λ is. never (sym (ap (λ (z : Float). le z z) (ap op is ∙ e)) ∙ h))

nan_right_sum : (a : Float) → a ⊕ nan ≡ nan
unfolding add
nan_right_sum nan = refl
nan_right_sum (inf s) = refl
nan_right_sum (fin s m e) = refl

nan_right_product : (a : Float) → a ⊗ nan ≡ nan
unfolding mul
nan_right_product nan = refl
nan_right_product (inf s) = refl
nan_right_product (fin s m e) = refl

nan_left_sum : (b : Float) → nan ⊕ b ≡ nan
unfolding add
nan_left_sum b = refl

nan_left_product : (b : Float) → nan ⊗ b ≡ nan
unfolding mul
nan_left_product b = refl

nan_left_difference : (b : Float) → nan ⊖ b ≡ nan
unfolding sub add
nan_left_difference b = refl

nan_right_difference : (a : Float) → a ⊖ nan ≡ nan
unfolding sub neg
nan_right_difference a = nan_right_sum a

module _ (a b : Float) where
  pub sum_numbers : le (a ⊕ b) (a ⊕ b) ≡ true → (le a a ≡ true) × (le b b ≡ true)
  sum_numbers h = (from_result a (λ (z : Float). z ⊕ b) (nan_left_sum b) h, from_result b (λ (z : Float). a ⊕ z) (nan_right_sum a) h)

  pub difference_numbers : le (a ⊖ b) (a ⊖ b) ≡ true → (le a a ≡ true) × (le b b ≡ true)
  difference_numbers h = (from_result a (λ (z : Float). z ⊖ b) (nan_left_difference b) h, from_result b (λ (z : Float). a ⊖ z) (nan_right_difference a) h)

  pub product_numbers : le (a ⊗ b) (a ⊗ b) ≡ true → (le a a ≡ true) × (le b b ≡ true)
  product_numbers h = (from_result a (λ (z : Float). z ⊗ b) (nan_left_product b) h, from_result b (λ (z : Float). a ⊗ z) (nan_right_product a) h)

-- what does not differ from itself is a number
pub same_number : (x : Float) → ne x x ≡ false → le x x ≡ true
unfolding ne
same_number x h = number_or_nan x (λ is. never (sym (ap (λ (z : Float). ne z z) (sym is) ∙ h)))
