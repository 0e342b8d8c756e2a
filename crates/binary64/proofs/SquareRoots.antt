-- The rounded root of a number's rounded square is the number's size, for sizes from 2 ^ -500 to 2 ^ 500: the square's rounding moves its root by less
-- than half of the number's last place. Assumes nothing.
use Rattle.std.proofs.Common.{◌≡◌, ℕ, zero, suc, ◌+◌, ◌-◌, ◌*◌, ◌/◌, ◌%◌, ◌^◌, ◌<◌, ◌≤◌, Bool, true, false, not, ◌&&◌, T, eqb, ltb, leb, ℤ, pos, sym, refl, ap, ◌∙◌, subst, inl, inr, le_trans, le_of_eq, lt_of_lt_of_le, lt_of_le_of_lt, le_of_lt, mul-le-mul_right, mod-lt, mul_assoc, mul_comm, div-lt_iff_lt-mul, mul-le-mul, le_antisymm, lt_of_mul-lt-mul_right, eq-or-lt_of_le, mul-lt-mul_of_pos_right, mul-pos, one-mul, lt_of_not-le, div-add-mod', le-div_iff_mul-le, zero-mul, mul-one, mul_right_comm, not-le_of_lt, arith, eqb→eq, ltb→lt, leb→le, pow_pos, pow_mono, pow-add}
use Prim.Native.Nat.{compare, Ordering}
use native.Mathlib.Nat.{eq_of_mul-eq-mul_right, mul-mul-mul_comm}
use native.Mathlib.Decide.{dec_le}
use lib.Dec.{is_le, compare_is_eq, nleb→lt}
use lib.Pow.{pow-lt}
use lib.Ieee.{Float, nan, inf, fin, binary64, up, down, size, nearest, units, round, unlike, add, mul, eq, le, fits, to_bits, of_bits}
use lib.Ieee.Fits.{core, round_is, round-fits, mul-fits, down_pos, and_r}
use lib.Ieee.Exact.{HasValue, units_val, round_exact}
use lib.Ieee.Nearest.{closest, closest_same}
use lib.Ieee.Scale.{round_same}
use lib.Ieee.Positive.{positive, den, den_pos, between, values_of_le, value→cross, positive_of_value, mul_at}
use Rattle.binary64.specs.Root.{sqrt_of}
use Rattle.binary64.specs.Constants.{zero64}
use Rattle.binary64.specs.Numbers.{◌⊕◌, ◌⊗◌, abs}
use Rattle.binary64.proofs.Order.{holds, never}
use Rattle.binary64.proofs.Sizes.{zero_digits}
use Rattle.binary64.proofs.Values.{value_unique, digits, place}
use Rattle.binary64.proofs.RoundedRoots.{size_is}
use Rattle.binary64.proofs.Patterns.{mantissa, pattern_of_lem, sqrt_fits}
use Rattle.binary64.proofs.NearestRoot.{nearest_root, units_of, next_above, next_below}

-- ---- a fraction's nearest whole number is within a half of it
record Within (a b q : ℕ) : Type 0 where
  low : a * 2 ≤ q * b * 2 + b
  high : q * b * 2 ≤ a * 2 + b

closest_within : (a b : ℕ) → 0 < b → Within a b (closest a b)
closest_within a b B = go (compare (a % b * 2) b) (leb→le (a % b * 2) b) (nleb→lt (a % b * 2) b) (eqb→eq (a % b * 2) b)
  where
    stay : (a b w r : ℕ) → w * b + r ≡ a → r * 2 ≤ b → Within a b w
    stay a b w r e h = record { low = omega arith; high = omega arith }

    move : (a b w r : ℕ) → w * b + r ≡ a → r < b → b ≤ r * 2 → Within a b (suc w)
    move a b w r e l h = record { low = omega arith; high = omega arith }

    tie : (a b w r t : ℕ) → w * b + r ≡ a → r < b → r * 2 ≡ b → t < 2 → Within a b (w + t)
    tie a b w r zero e l h k = let z : w ≡ w + 0 = omega arith in subst (Within a b) z (stay a b w r e (le_of_eq h))
    tie a b w r (suc zero) e l h k = let z : suc w ≡ w + 1 = omega arith in subst (Within a b) z (move a b w r e l (le_of_eq (sym h)))
    tie a b w r (suc (suc t)) e l h k = omega arith

    go : (o : Ordering) → (T (is_le o) → a % b * 2 ≤ b) → (T (not (is_le o)) → b < a % b * 2) → (T (compare_is_eq o) → a % b * 2 ≡ b) → Within a b (nearest (a / b) o)
    go Ordering.lt f g e = stay a b (a / b) (a % b) (div-add-mod' a b) (f tt)
    go Ordering.eq f g e = tie a b (a / b) (a % b) (a / b % 2) (div-add-mod' a b) (mod-lt a B) (e tt) (mod-lt (a / b) (pow_pos 1))
    go Ordering.gt f g e = move a b (a / b) (a % b) (div-add-mod' a b) (mod-lt a B) (le_of_lt (g tt))

-- ---- the square of M * 2 ^ k units 2 ^ -1074, where M * M has 53 + c digits: it is rounded to the closest multiple of 2 ^ d units,
-- and c digits of M * M are dropped
module _ (M k c d : ℕ) (at : d + 1074 ≡ k + k + c) (lo : 2 ^ (52 + c) ≤ M * M) (hi : M * M < 2 ^ (53 + c)) where
  in_parts : M * 2 ^ k * (M * 2 ^ k) * 2 ^ 1074 ≡ M * M * 2 ^ (k + k + 1074)
  in_parts =
      ap (λ (z : ℕ). z * 2 ^ 1074) (mul-mul-mul_comm M (2 ^ k) M (2 ^ k) ∙ ap (λ (z : ℕ). M * M * z) (sym (pow-add 2 k k)))
      ∙ mul_assoc (M * M) (2 ^ (k + k)) (2 ^ 1074)
      ∙ ap (λ (z : ℕ). M * M * z) (sym (pow-add 2 (k + k) 1074))

  parts : (x : ℕ) → 2 ^ x * (2 ^ 1074 * 2 ^ 1074) ≡ 2 ^ (x + 2148)
  parts x = ap (λ (z : ℕ). 2 ^ x * z) (sym (pow-add 2 1074 1074)) ∙ sym (pow-add 2 x 2148)

  one_part : 0 < 2 ^ 1074 * 2 ^ 1074
  one_part = mul-pos (pow_pos 1074) (pow_pos 1074)

  digits_are : size (M * 2 ^ k * (M * 2 ^ k) * 2 ^ 1074 / (2 ^ 1074 * 2 ^ 1074)) ≡ 52 + d + 1
  digits_are = size_is (M * 2 ^ k * (M * 2 ^ k) * 2 ^ 1074 / (2 ^ 1074 * 2 ^ 1074)) (52 + d)
      ((le-div_iff_mul-le one_part).1 (le_trans (le_of_eq (parts (52 + d) ∙ ap (λ (z : ℕ). 2 ^ z) (e1 k c d at) ∙ pow-add 2 (52 + c) (k + k + 1074))) (le_trans (mul-le-mul_right (2 ^ (k + k + 1074)) lo) (le_of_eq (sym in_parts)))))
      ((div-lt_iff_lt-mul one_part).1 (lt_of_le_of_lt (le_of_eq in_parts) (lt_of_lt_of_le (mul-lt-mul_of_pos_right hi (pow_pos (k + k + 1074))) (le_of_eq (sym (parts (52 + d + 1) ∙ ap (λ (z : ℕ). 2 ^ z) (e2 k c d at) ∙ pow-add 2 (53 + c) (k + k + 1074)))))))
    where
      e1 : (k c d : ℕ) → d + 1074 ≡ k + k + c → 52 + d + 2148 ≡ 52 + c + (k + k + 1074)
      e1 k c d h = omega arith

      e2 : (k c d : ℕ) → d + 1074 ≡ k + k + c → 52 + d + 1 + 2148 ≡ 53 + c + (k + k + 1074)
      e2 k c d h = omega arith

  same_fraction : closest (M * 2 ^ k * (M * 2 ^ k) * 2 ^ 1074) (2 ^ 1074 * 2 ^ 1074 * 2 ^ d) ≡ closest (M * M) (2 ^ c)
  same_fraction =
      closest_same (M * 2 ^ k * (M * 2 ^ k) * 2 ^ 1074) (2 ^ 1074 * 2 ^ 1074 * 2 ^ d) (M * M) (2 ^ c) (mul-pos one_part (pow_pos d)) (pow_pos c)
      (ap (λ (z : ℕ). z * 2 ^ c) in_parts
      ∙ mul_assoc (M * M) (2 ^ (k + k + 1074)) (2 ^ c)
      ∙ ap (λ (z : ℕ). M * M * z) (sym (pow-add 2 (k + k + 1074) c) ∙ ap (λ (z : ℕ). 2 ^ z) (e3 k c d at) ∙ sym (parts d) ∙ mul_comm (2 ^ d) (2 ^ 1074 * 2 ^ 1074)))
    where
      e3 : (k c d : ℕ) → d + 1074 ≡ k + k + c → k + k + 1074 + c ≡ d + 2148
      e3 k c d h = omega arith

  rounds_to : round binary64 false (M * 2 ^ k * (M * 2 ^ k)) (2 ^ 1074 * 2 ^ 1074) ≡ units binary64 false (closest (M * M) (2 ^ c)) d
  rounds_to =
      round_is binary64 false (M * 2 ^ k * (M * 2 ^ k)) (2 ^ 1074 * 2 ^ 1074)
      ∙ ap (λ (z : ℕ). core binary64 false (M * 2 ^ k * (M * 2 ^ k) * 2 ^ 1074) (2 ^ 1074 * 2 ^ 1074) z) (ap (λ (z : ℕ). z - 53) digits_are ∙ left d)
      ∙ ap (λ (z : ℕ). units binary64 false z d) same_fraction
    where
      left : (d : ℕ) → 52 + d + 1 - 53 ≡ d
      left d = omega arith

  four_times : (q : ℕ) → q * 2 ^ d * 2 ^ 1074 * 4 ≡ q * 2 ^ c * 4 * (2 ^ k * 2 ^ k)
  four_times q =
      ap (λ (z : ℕ). z * 4) (mul_assoc q (2 ^ d) (2 ^ 1074) ∙ ap (λ (z : ℕ). q * z) (sym (pow-add 2 d 1074) ∙ ap (λ (z : ℕ). 2 ^ z) at ∙ pow-add 2 (k + k) c ∙ mul_comm (2 ^ (k + k)) (2 ^ c)) ∙ sym (mul_assoc q (2 ^ c) (2 ^ (k + k))))
      ∙ mul_right_comm (q * 2 ^ c) (2 ^ (k + k)) 4
      ∙ ap (λ (z : ℕ). q * 2 ^ c * 4 * z) (pow-add 2 k k)

-- ---- the rounded square y of M * 2 ^ k units: U units, and P in the place of M * M
record Square (y : Float) (M k : ℕ) : Type 0 where
  U : ℕ
  P : ℕ
  value : HasValue y false U (2 ^ 1074)
  above_zero : 0 < U
  four : U * 2 ^ 1074 * 4 ≡ P * 4 * (2 ^ k * 2 ^ k)
  least : M ≡ 2 ^ 52 → M * M ≤ P
  low : 2 ^ 52 < M → M * M < P + M
  high : P ≤ M * M + M

square_at : (M k c d : ℕ) → d + 1074 ≡ k + k + c → d ≤ 2040 → 2 ^ (52 + c) ≤ M * M → M * M < 2 ^ (53 + c)
    → (q : ℕ) → closest (M * M) (2 ^ c) ≡ q → 0 < q → q ≤ 2 ^ 53 → (M ≡ 2 ^ 52 → M * M ≤ q * 2 ^ c) → (2 ^ 52 < M → M * M < q * 2 ^ c + M) → q * 2 ^ c ≤ M * M + M
    → Square (round binary64 false (M * 2 ^ k * (M * 2 ^ k)) (2 ^ 1074 * 2 ^ 1074)) M k
square_at M k c d at D lo hi q is Q S least low high =
    record {
      U = q * 2 ^ d;
      P = q * 2 ^ c;
      value = subst (λ (y : Float). HasValue y false (q * 2 ^ d) (2 ^ 1074)) (sym (rounds_to M k c d at lo hi ∙ ap (λ (z : ℕ). units binary64 false z d) is)) (units_val binary64 false q d (lt_of_le_of_lt (mul-le-mul_right (2 ^ d) S) (lt_of_le_of_lt (le_of_eq (sym (pow-add 2 53 d))) (pow-lt (far d D)))));
      above_zero = mul-pos Q (pow_pos d);
      four = four_times M k c d at lo hi q;
      least = least;
      low = low;
      high = high;
    }
  where
    far : (d : ℕ) → d ≤ 2040 → 53 + d < 1074 + 1024
    far d h = omega arith

square_of : (M k : ℕ) → 2 ^ 52 ≤ M → M < 2 ^ 53 → 511 ≤ k → k ≤ 1530 → Square (round binary64 false (M * 2 ^ k * (M * 2 ^ k)) (2 ^ 1074 * 2 ^ 1074)) M k
square_of M k lo hi K L = elim (dec_le (2 ^ 105) (M * M)) [
  | yes h ↦
      let q = closest (M * M) (2 ^ 53) in
      let w = closest_within (M * M) (2 ^ 53) (pow_pos 53) in
      square_at M k 53 (k + k + 53 - 1074) (back k 53 (omega arith)) (most k 53 L (omega arith)) h (high_square M hi) q refl
      (long53 q (M * M) h w.low) (short53 q (M * M) (high_square M hi) w.high)
      (λ e. absurd (not_one M e h)) (low53 q M (M * M) w.low) (high53 q M (M * M) lo w.high)
  | no h ↦
      let q = closest (M * M) (2 ^ 52) in
      let w = closest_within (M * M) (2 ^ 52) (pow_pos 52) in
      square_at M k 52 (k + k + 52 - 1074) (back k 52 (omega arith)) (most k 52 L (omega arith)) (mul-le-mul lo lo) (lt_of_not-le h) q refl
      (long52 q (M * M) (mul-le-mul lo lo) w.low) (short52 q (M * M) (lt_of_not-le h) w.high)
      (λ e. least52 q (M * M) (mul-le-mul lo lo) (square_is M e) w.low) (low52 q M (M * M) w.low) (high52 q M (M * M) lo w.high)
]
  where
    back : (k c : ℕ) → 1074 ≤ k + k + c → k + k + c - 1074 + 1074 ≡ k + k + c
    back k c h = omega arith

    most : (k c : ℕ) → k ≤ 1530 → c ≤ 53 → k + k + c - 1074 ≤ 2040
    most k c h l = omega arith

    high_square : (M : ℕ) → M < 2 ^ 53 → M * M < 2 ^ 106
    high_square M h = lt_of_le_of_lt (mul-le-mul (below M h) (below M h)) (omega arith)
      where
        below : (M : ℕ) → M < 2 ^ 53 → M ≤ 2 ^ 53 - 1
        below M h = omega arith

    square_is : (M : ℕ) → M ≡ 2 ^ 52 → M * M ≡ 2 ^ 104
    square_is M e = ap (λ (z : ℕ). z * z) e

    not_one : (M : ℕ) → M ≡ 2 ^ 52 → 2 ^ 105 ≤ M * M → ⊥
    not_one M e h = not-le_of_lt (pow-lt {i = 104} {j = 105} (omega arith)) (subst (λ (z : ℕ). 2 ^ 105 ≤ z) (square_is M e) h)

    long53 : (q N : ℕ) → 2 ^ 105 ≤ N → N * 2 ≤ q * 2 ^ 53 * 2 + 2 ^ 53 → 0 < q
    long53 q N h l = omega arith

    short53 : (q N : ℕ) → N < 2 ^ 106 → q * 2 ^ 53 * 2 ≤ N * 2 + 2 ^ 53 → q ≤ 2 ^ 53
    short53 q N h l = omega arith

    low53 : (q M N : ℕ) → N * 2 ≤ q * 2 ^ 53 * 2 + 2 ^ 53 → 2 ^ 52 < M → N < q * 2 ^ 53 + M
    low53 q M N l h = omega arith

    high53 : (q M N : ℕ) → 2 ^ 52 ≤ M → q * 2 ^ 53 * 2 ≤ N * 2 + 2 ^ 53 → q * 2 ^ 53 ≤ N + M
    high53 q M N h l = omega arith

    long52 : (q N : ℕ) → 2 ^ 104 ≤ N → N * 2 ≤ q * 2 ^ 52 * 2 + 2 ^ 52 → 0 < q
    long52 q N h l = omega arith

    short52 : (q N : ℕ) → N < 2 ^ 105 → q * 2 ^ 52 * 2 ≤ N * 2 + 2 ^ 52 → q ≤ 2 ^ 53
    short52 q N h l = omega arith

    least52 : (q N : ℕ) → 2 ^ 104 ≤ N → N ≡ 2 ^ 104 → N * 2 ≤ q * 2 ^ 52 * 2 + 2 ^ 52 → N ≤ q * 2 ^ 52
    least52 q N h e l = omega arith

    low52 : (q M N : ℕ) → N * 2 ≤ q * 2 ^ 52 * 2 + 2 ^ 52 → 2 ^ 52 < M → N < q * 2 ^ 52 + M
    low52 q M N l h = omega arith

    high52 : (q M N : ℕ) → 2 ^ 52 ≤ M → q * 2 ^ 52 * 2 ≤ N * 2 + 2 ^ 52 → q * 2 ^ 52 ≤ N + M
    high52 q M N h l = omega arith

-- ---- a number other than M * 2 ^ k is past a middle, and the rounded square is not
module _ (K P W : ℕ) (four : W ≡ P * 4 * (K * K)) where
  past : (a b : ℕ) → W < b * b → b ≤ a * K → P * 4 < a * a
  past a b h l = lt_of_mul-lt-mul_right (K * K) (lt_of_le_of_lt (le_of_eq (sym four)) (lt_of_lt_of_le h (le_trans (mul-le-mul l l) (le_of_eq (mul-mul-mul_comm a K a K)))))

  short : (a b : ℕ) → b * b < W → a * K ≤ b → a * a < P * 4
  short a b h l = lt_of_mul-lt-mul_right (K * K) (lt_of_le_of_lt (le_of_eq (sym (mul-mul-mul_comm a K a K))) (lt_of_le_of_lt (mul-le-mul l l) (lt_of_lt_of_le h (le_of_eq four))))

  not_least : (M A : ℕ) → W < (A + M * K) * (A + M * K) → A < M * K → M * M ≤ P → ⊥
  not_least M A h l g = clash M (M * M) refl g (past (M * 2) (A + M * K) h (twice M K A l))
    where
      twice : (M K A : ℕ) → A < M * K → A + M * K ≤ M * 2 * K
      twice M K A l = omega arith

      clash : (M N : ℕ) → N ≡ M * M → N ≤ P → P * 4 < M * 2 * (M * 2) → ⊥
      clash M N e g h = omega arith

  not_below : (M A : ℕ) → W < (A + M * K) * (A + M * K) → A + K ≤ M * K → M * M < P + M → ⊥
  not_below zero A h l g = empty (0 * K) K A (zero-mul K) l h
    where
      empty : (z K A : ℕ) → z ≡ 0 → A + K ≤ z → W < (A + z) * (A + z) → ⊥
      empty z K A e l h = let a : A + z ≡ 0 = omega arith in let b : W < 0 * 0 = subst (λ (x : ℕ). W < x * x) a h in omega arith
  not_below (suc r) A h l g = clash r (r * r) refl (omega arith) (past (r * 2 + 1) (A + suc r * K) h (near r K A l))
    where
      near : (r K A : ℕ) → A + K ≤ suc r * K → A + suc r * K ≤ (r * 2 + 1) * K
      near r K A l = omega arith

      clash : (r N : ℕ) → N ≡ r * r → N + r < P → P * 4 < (r * 2 + 1) * (r * 2 + 1) → ⊥
      clash r N e g h = omega arith

  not_above : (M A : ℕ) → (A + M * K) * (A + M * K) < W → M * K + K ≤ A → P ≤ M * M + M → ⊥
  not_above M A h l g = clash M (M * M) refl g (short (M * 2 + 1) (A + M * K) h (far M K A l))
    where
      far : (M K A : ℕ) → M * K + K ≤ A → (M * 2 + 1) * K ≤ A + M * K
      far M K A l = omega arith

      clash : (M N : ℕ) → N ≡ M * M → P ≤ N + M → (M * 2 + 1) * (M * 2 + 1) < P * 4 → ⊥
      clash M N e g h = omega arith

-- ---- the root of the square
same_units : (x : Float) (U Y : ℕ) → HasValue x false U (2 ^ 1074) → HasValue x false Y (2 ^ 1074) → U ≡ Y
same_units x U Y h k = eq_of_mul-eq-mul_right (den x) (den_pos x) U Y (sym (value→cross x U (2 ^ 1074) h) ∙ value→cross x Y (2 ^ 1074) k)

square_is_positive : (x : Float) (M k : ℕ) → Square x M k → T (positive x)
square_is_positive x M k w = positive_of_value x w.U (2 ^ 1074) w.value w.above_zero

root_units : (x y : Float) (M k : ℕ) → T (fits binary64 x) → HasValue x false (M * 2 ^ k) (2 ^ 1074) → T (fits binary64 y) → Square y M k → 2 ^ 52 ≤ M → M < 2 ^ 53 → sqrt_of y ≡ x
root_units x y M k f v g w lo hi =
    let p = square_is_positive y M k w in
    let n = nearest_root y g p in
    let A = n.A in
    let K = 2 ^ k in
    let Z = M * K in
    let e : n.U ≡ w.U = same_units y n.U w.U n.number w.value in
    let four : n.U * 2 ^ 1074 * 4 ≡ w.P * 4 * (K * K) = ap (λ (z : ℕ). z * 2 ^ 1074 * 4) e ∙ w.four in
    let W = n.U * 2 ^ 1074 * 4 in
    let sf = sqrt_fits y p in
    let u = units_of (sqrt_of y) A sf n.rounded in
    let ge : Z ≤ A = le_of_not_lt Z A (λ (h : A < Z). elim (eq-or-lt_of_le lo) [
      | inl i ↦ not_least K w.P W four M A (n.above x Z f v h) h (w.least (sym i))
      | inr l ↦ not_below K w.P W four M A (n.above x Z f v h) (subst (λ (z : ℕ). z + K ≤ Z) (sym u.is) (next_below u.m u.j M k u.small l (subst (λ (z : ℕ). z < Z) u.is h))) (w.low l)
    ]) in
    let le : A ≤ Z = le_of_not_lt A Z (λ (h : Z < A). not_above K w.P W four M A (n.below x Z f v h) (subst (λ (z : ℕ). Z + K ≤ z) (sym u.is) (next_above u.m u.j M k u.small lo (subst (λ (z : ℕ). Z < z) u.is h))) w.high) in
    value_unique binary64 (sqrt_of y) x false Z (2 ^ 1074) (pow_pos 1074) sf f (subst (λ (z : ℕ). HasValue (sqrt_of y) false z (2 ^ 1074)) (le_antisymm le ge) n.rounded) v
  where
    le_of_not_lt : (a b : ℕ) → (b < a → ⊥) → a ≤ b
    le_of_not_lt a b h = elim (dec_le a b) [ yes l ↦ l | no l ↦ absurd (h (lt_of_not-le l)) ]

-- ---- a number from 2 ^ -500 to 2 ^ 500 in units
abbrev pub least_size : Float
least_size = of_bits binary64 0x20b0_0000_0000_0000

abbrev pub most_size : Float
most_size = of_bits binary64 0x5f30_0000_0000_0000

least_is : (T (positive least_size)) × HasValue least_size false 1 (2 ^ 500)
unfolding of_bits
least_is = (tt, (refl, refl))

most_is : (T (positive most_size)) × HasValue most_size false (2 ^ 500) 1
unfolding of_bits
most_is = (tt, (refl, refl))

record Spread (x : Float) : Type 0 where
  M : ℕ
  k : ℕ
  value : HasValue x false (M * 2 ^ k) (2 ^ 1074)
  M_low : 2 ^ 52 ≤ M
  M_high : M < 2 ^ 53
  k_low : 511 ≤ k
  k_high : k ≤ 1530

digits_of : (x : Float) → T (fits binary64 x) → T (positive x) → T (le least_size x) → T (le x most_size) → Spread x
digits_of x f p l h =
    let b = to_bits binary64 x in
    let w = pattern_of_lem x f p in
    go (b / 2 ^ 52) (b % 2 ^ 52) (mod-lt b (pow_pos 52)) w.value
    (values_of_le least_size x 1 (2 ^ 500) _ (2 ^ 1074) least_is.0 p least_is.1 w.value l)
    (values_of_le x most_size _ (2 ^ 1074) (2 ^ 500) 1 p most_is.0 w.value most_is.1 h)
  where
    tiny : (t : ℕ) → t < 2 ^ 52 → 1 * 2 ^ 1074 ≤ t * 1 * 2 ^ 500 → ⊥
    tiny t h l = not-le_of_lt (lt_of_lt_of_le (mul-lt-mul_of_pos_right (lt_of_le_of_lt (le_of_eq (mul-one t)) h) (pow_pos 500)) (le_trans (le_of_eq (sym (pow-add 2 52 500))) (le_trans (pow_mono {i = 552} {j = 1074} (omega arith)) (le_of_eq (sym (one-mul (2 ^ 1074))))))) l

    low : (M k : ℕ) → M < 2 ^ 53 → 1 * 2 ^ 1074 ≤ M * 2 ^ k * 2 ^ 500 → 511 ≤ k
    low M k h l = lt_of_not-le (λ (g : k ≤ 510). not-le_of_lt (lt_of_lt_of_le (mul-lt-mul_of_pos_right (mul-lt-mul_of_pos_right h (pow_pos k)) (pow_pos 500)) (le_trans (le_of_eq (ap (λ (z : ℕ). z * 2 ^ 500) (sym (pow-add 2 53 k)) ∙ sym (pow-add 2 (53 + k) 500))) (le_trans (pow_mono (few k g)) (le_of_eq (sym (one-mul (2 ^ 1074))))))) l)
      where
        few : (k : ℕ) → k ≤ 510 → 53 + k + 500 ≤ 1074
        few k g = omega arith

    high : (M k : ℕ) → 2 ^ 52 ≤ M → M * 2 ^ k * 1 ≤ 2 ^ 500 * 2 ^ 1074 → k ≤ 1530
    high M k l h = elim (dec_le k 1530) [
      | yes g ↦ g
      | no g ↦ absurd (not-le_of_lt (pow-lt (more k (lt_of_not-le g))) (le_trans (le_of_eq (pow-add 2 52 k)) (le_trans (mul-le-mul_right (2 ^ k) l) (le_trans (le_of_eq (sym (mul-one (M * 2 ^ k)))) (le_trans h (le_of_eq (sym (pow-add 2 500 1074))))))))
    ]
      where
        more : (k : ℕ) → 1530 < k → 500 + 1074 < 52 + k
        more k g = omega arith

    go : (X t : ℕ) → t < 2 ^ 52 → HasValue x false (mantissa X t * 2 ^ (X - 1)) (2 ^ 1074) → 1 * 2 ^ 1074 ≤ mantissa X t * 2 ^ (X - 1) * 2 ^ 500 → mantissa X t * 2 ^ (X - 1) * 1 ≤ 2 ^ 500 * 2 ^ 1074 → Spread x
    go zero t b v l h = absurd (tiny t b l)
    go (suc X) t b v l h =
        let lo : 2 ^ 52 ≤ 2 ^ 52 + t = omega arith in
        let hi : 2 ^ 52 + t < 2 ^ 53 = omega arith in
        record { M = 2 ^ 52 + t; k = suc X - 1; value = v; M_low = lo; M_high = hi; k_low = low (2 ^ 52 + t) (suc X - 1) hi l; k_high = high (2 ^ 52 + t) (suc X - 1) lo h }

-- the square of a number in that range, and its root
positive_square : (x : Float) (w : Spread x) → T (positive x) → Square (x ⊗ x) w.M w.k
positive_square x w p =
    let Z = w.M * 2 ^ w.k in
    subst (λ (y : Float). Square y w.M w.k) (sym (mul_at binary64 x x Z (2 ^ 1074) Z (2 ^ 1074) p p (pow_pos 1074) (pow_pos 1074) w.value w.value))
    (square_of w.M w.k w.M_low w.M_high w.k_low w.k_high)

-- ---- the size of z
abs_fits : (z : Float) → T (fits binary64 z) → T (fits binary64 (abs z))
unfolding abs fits
abs_fits nan h = tt
abs_fits (inf s) h = tt
abs_fits (fin s zero e) h = h
abs_fits (fin s (suc m) e) h = h

-- a number times itself has no sign
abs_square : (z : Float) → abs z ⊗ abs z ≡ z ⊗ z
unfolding abs mul
abs_square nan = refl
abs_square (inf true) = refl
abs_square (inf false) = refl
abs_square (fin true m e) = refl
abs_square (fin false m e) = refl

abs_positive : (z : Float) → le least_size (abs z) ≡ true → le (abs z) most_size ≡ true → T (positive (abs z))
abs_positive z l h = between least_size (abs z) most_size least_is.0 most_is.0 (holds (le least_size (abs z)) l) (holds (le (abs z) most_size) h)

pub root_of_square : (z : Float) → T (fits binary64 z) → le least_size (abs z) ≡ true → le (abs z) most_size ≡ true → sqrt_of (z ⊗ z) ≡ abs z
root_of_square z f l h =
    let x = abs z in
    let p = abs_positive z l h in
    let w = digits_of x (abs_fits z f) p (holds (le least_size x) l) (holds (le x most_size) h) in
    ap sqrt_of (sym (abs_square z)) ∙ root_units x (x ⊗ x) w.M w.k (abs_fits z f) w.value (mul-fits binary64 x x) (positive_square x w p) w.M_low w.M_high

square_positive : (z : Float) → T (fits binary64 z) → le least_size (abs z) ≡ true → le (abs z) most_size ≡ true → T (positive (z ⊗ z))
square_positive z f l h =
    let x = abs z in
    let p = abs_positive z l h in
    let w = digits_of x (abs_fits z f) p (holds (le least_size x) l) (holds (le x most_size) h) in
    subst (λ (y : Float). T (positive y)) (abs_square z) (square_is_positive (x ⊗ x) w.M w.k (positive_square x w p))

-- ---- zeros before it
largest : (m : ℕ) (e : ℤ) → T (fits binary64 (fin false m e)) → T (ltb 0 m) → m * up e < 2 ^ 1024 * down e
unfolding fits
largest zero e f p = absurd p
largest (suc m) e f p = ltb→lt (suc m * up e) (2 ^ 1024 * down e) (and_r (eqb (suc m % 2) 1 && ltb (suc m) (2 ^ 53) && leb (down e) (2 ^ 1074)) (ltb (suc m * up e) (2 ^ 1024 * down e)) f)

-- zero plus a number above zero is that number
zero_plus : (y : Float) → T (fits binary64 y) → T (positive y) → fin false 0 (pos 0) ⊕ y ≡ y
unfolding add
zero_plus nan f p = absurd p
zero_plus (inf s) f p = absurd p
zero_plus (fin true m e) f p = absurd p
zero_plus (fin false m e) f p =
    let g = digits false m e f in
    let j = place 1074 e g.fine in
    let is : m * up e * 2 ^ 1074 ≡ m * 2 ^ j.0 * down e = mul_assoc m (up e) (2 ^ 1074) ∙ ap (λ (z : ℕ). m * z) j.1 ∙ sym (mul_assoc m (2 ^ j.0) (down e)) in
    round_same binary64 false (0 * 1 * down e + m * up e * 1) (1 * down e) (m * up e) (down e) (subst (λ (z : ℕ). 0 < z) (sym (one-mul (down e))) (down_pos e)) (down_pos e) (same (m * up e) (down e))
    ∙ value_unique binary64 (round binary64 false (m * up e) (down e)) (fin false m e) false (m * up e) (down e) (down_pos e) (round-fits binary64 false (m * up e) (down e)) f
    (round_exact binary64 false (m * up e) (down e) m j.0 (down_pos e) g.small (under m e j.0 f p is) is) (refl, refl)
  where
    same : (a d : ℕ) → (0 * 1 * d + a * 1) * d ≡ a * (1 * d)
    same a d = omega arith

    under : (m : ℕ) (e : ℤ) (j : ℕ) → T (fits binary64 (fin false m e)) → T (ltb 0 m) → m * up e * 2 ^ 1074 ≡ m * 2 ^ j * down e → m * 2 ^ j < 2 ^ (1074 + 1024)
    under m e j f p is =
        lt_of_mul-lt-mul_right (down e)
        (lt_of_le_of_lt (le_of_eq (sym is))
        (lt_of_lt_of_le (mul-lt-mul_of_pos_right (largest m e f p) (pow_pos 1074))
        (le_of_eq (mul_right_comm (2 ^ 1024) (down e) (2 ^ 1074) ∙ ap (λ (z : ℕ). z * down e) (sym (pow-add 2 1024 1074))))))

nought : (d : ℕ) → 0 < d → round binary64 false 0 d ≡ fin false 0 (pos 0)
unfolding round
nought d D = round_same binary64 false 0 d 0 1 D (pow_pos 0) (zero-mul 1 ∙ sym (zero-mul d))

nought_square : (x : Float) → eq x (fin false 0 (pos 0)) ≡ true → x ⊗ x ≡ fin false 0 (pos 0)
unfolding eq mul
nought_square nan h = never h
nought_square (inf s) h = never h
nought_square (fin s m e) h =
    ap (λ (z : ℕ). round binary64 (unlike s s) (z * up e * (z * up e)) (down e * down e)) (zero_digits s m e h)
    ∙ ap (λ (z : ℕ). round binary64 (unlike s s) z (down e * down e)) (none (up e))
    ∙ ap (λ (b : Bool). round binary64 b 0 (down e * down e)) (like s)
    ∙ nought (down e * down e) (mul-pos (down_pos e) (down_pos e))
  where
    like : (s : Bool) → unlike s s ≡ false
    like true = refl
    like false = refl

    none : (a : ℕ) → 0 * a * (0 * a) ≡ 0
    none a = omega arith

-- the square of a zero of either sign is +0
zero_square : (x : Float) → eq x zero64 ≡ true → x ⊗ x ≡ fin false 0 (pos 0)
unfolding of_bits
zero_square x h = nought_square x h

no_more : fin false 0 (pos 0) ⊕ fin false 0 (pos 0) ≡ fin false 0 (pos 0)
unfolding add
no_more = refl

pub norm_upright : (x y z : Float) → T (fits binary64 z) → le least_size (abs z) ≡ true → le (abs z) most_size ≡ true → eq x zero64 ≡ true → eq y zero64 ≡ true → sqrt_of (x ⊗ x ⊕ y ⊗ y ⊕ z ⊗ z) ≡ abs z
norm_upright x y z f l h X Y =
    ap (λ (a : Float). sqrt_of (a ⊕ y ⊗ y ⊕ z ⊗ z)) (zero_square x X)
    ∙ ap (λ (a : Float). sqrt_of (fin false 0 (pos 0) ⊕ a ⊕ z ⊗ z)) (zero_square y Y)
    ∙ ap (λ (a : Float). sqrt_of (a ⊕ z ⊗ z)) no_more
    ∙ ap sqrt_of (zero_plus (z ⊗ z) (mul-fits binary64 z z) (square_positive z f l h))
    ∙ root_of_square z f l h
