-- Whole roots: `root n` is the one r with r * r ≤ n < (r + 1) * (r + 1), and a root to fewer digits is that root cut. Assumes nothing.
use Rattle.std.proofs.Common.{◌≡◌, ℕ, zero, suc, ◌+◌, ◌-◌, ◌*◌, ◌/◌, ◌^◌, ◌<◌, ◌≤◌, Bool, true, false, cond, not, T, leb, sym, refl, subst, zero-le, le_trans, le_of_eq, lt_of_lt_of_le, lt_of_le_of_lt, le_of_lt, mul-le-mul_right, div-lt_iff_lt-mul, mul-le-mul, le_antisymm, mul-lt-mul_of_pos_right, mul-pos, pow-suc, lt_of_not-le, not-le_of_lt, arith, leb→le, pow_pos, ◌%◌, mod-lt, div-add-mod'}
use native.Mathlib.Nat.{mul-mul-mul_comm, pow-le-pow_left}
use lib.Dec.{nleb→lt}
use lib.Ieee.{size}
use lib.Ieee.Digits.{size-lt}
use Rattle.binary64.specs.Root.{next_digit, root_of, root}

-- r is the root of n, cut to a whole number
pub record IsRoot (n r : ℕ) : Type 0 where
  pub low : r * r ≤ n
  pub high : n < (r + 1) * (r + 1)

-- ---- the squares are in order
pub square_lt : (x y : ℕ) → x * x < y * y → x < y
square_lt x y h = lt_of_not-le (λ (g : y ≤ x). not-le_of_lt h (mul-le-mul g g))

pub lt_square : (x y : ℕ) → x < y → x * x < y * y
lt_square x y h = lt_of_le_of_lt (mul-le-mul (le_of_eq refl) (le_of_lt h)) (mul-lt-mul_of_pos_right h (lt_of_le_of_lt zero-le h))

-- an odd square is not an even number
pub odd_square : (k M : ℕ) → (k * 2 + 1) * (k * 2 + 1) ≡ M * 2 ^ 54 → ⊥
odd_square k M h = omega arith

pub less_one : (x y : ℕ) → x < y + 1 → x ≤ y
less_one x y h = omega arith

pub root_unique : (n a b : ℕ) → IsRoot n a → IsRoot n b → a ≡ b
root_unique n a b p q = le_antisymm (less_one a b (square_lt a (b + 1) (lt_of_le_of_lt p.low q.high))) (less_one b a (square_lt b (a + 1) (lt_of_le_of_lt q.low p.high)))

-- ---- the definition
next_root : (q n r : ℕ) → q ≡ n / 4 → IsRoot q r → IsRoot n (next_digit (r * 2) n)
unfolding next_digit
next_root q n r e w = go (leb ((r * 2 + 1) * (r * 2 + 1)) n) (leb→le ((r * 2 + 1) * (r * 2 + 1)) n) (nleb→lt ((r * 2 + 1) * (r * 2 + 1)) n)
  where
    high2 : (q n r : ℕ) → q ≡ n / 4 → q < (r + 1) * (r + 1) → n < (r * 2 + 1 + 1) * (r * 2 + 1 + 1)
    high2 q n r e h = omega arith

    low2 : (q n r : ℕ) → q ≡ n / 4 → r * r ≤ q → r * 2 * (r * 2) ≤ n
    low2 q n r e h = omega arith

    go : (b : Bool) → (T b → (r * 2 + 1) * (r * 2 + 1) ≤ n) → (T (not b) → n < (r * 2 + 1) * (r * 2 + 1)) → IsRoot n (cond b (r * 2 + 1) (r * 2))
    go true f g = record { low = f tt; high = high2 q n r e w.high }
    go false f g = record { low = low2 q n r e w.low; high = g tt }

root_of_is : (k n : ℕ) → n < 4 ^ k → IsRoot n (root_of k n)
unfolding root_of
root_of_is zero n h = record { low = omega arith; high = omega arith }
root_of_is (suc k) n h = next_root (n / 4) n (root_of k (n / 4)) refl (root_of_is k (n / 4) ((div-lt_iff_lt-mul {k = 4} {x = n} {y = 4 ^ k} (pow_pos 2)).1 (subst (λ (z : ℕ). n < z) (pow-suc 4 k) h)))

pub root_is : (n : ℕ) → IsRoot n (root n)
unfolding root
root_is n = root_of_is (size n) n (lt_of_lt_of_le (size-lt n) (pow-le-pow_left two_four (size n)))
  where
    two_four : 2 ≤ 4
    two_four = omega arith

-- ---- a root to t more binary digits
pub record Longer (R D r : ℕ) : Type 0 where
  pub rest : ℕ
  pub is : r ≡ R * D + rest
  pub rest_lt : rest < D

pub longer : (P D R r : ℕ) → 0 < D → IsRoot P R → IsRoot (P * (D * D)) r → Longer R D r
longer P D R r DP p q =
    let lo : R * D ≤ r = less_one (R * D) r (square_lt (R * D) (r + 1) (lt_of_le_of_lt (le_trans (le_of_eq (mul-mul-mul_comm R D R D)) (mul-le-mul_right (D * D) p.low)) q.high)) in
    let hi : r < (R + 1) * D = square_lt r ((R + 1) * D) (lt_of_le_of_lt q.low (lt_of_lt_of_le (mul-lt-mul_of_pos_right p.high (mul-pos DP DP)) (le_of_eq (sym (mul-mul-mul_comm (R + 1) D (R + 1) D))))) in
    record { rest = r - R * D; is = back r (R * D) lo; rest_lt = few r (R * D) ((R + 1) * D) D lo hi (one_more R D) }
  where
    back : (r a : ℕ) → a ≤ r → r ≡ a + (r - a)
    back r a h = omega arith

    few : (r a b d : ℕ) → a ≤ r → r < b → b ≡ a + d → r - a < d
    few r a b d h k e = omega arith

    one_more : (R D : ℕ) → (R + 1) * D ≡ R * D + D
    one_more R D = omega arith

-- ---- the root of m * 4 ^ 27 from the root s of m * 4 ^ 5 and its rest ρ: the 22 digits to come are the quotient q of ρ * 2 ^ 22 by s * 2, or one less
pub record Split (s ρ q u : ℕ) : Type 0 where
  pub s_low : 2 ^ 31 ≤ s
  pub s_high : s < 2 ^ 32
  pub q_high : q ≤ 2 ^ 22
  pub q_square : q * q ≤ 2 ^ 44
  pub u_high : u < s * 2
  pub same : q * (s * 2) + u ≡ ρ * 4194304

pub split : (m s ρ : ℕ) → 2 ^ 52 ≤ m → m < 2 ^ 54 → s * s + ρ ≡ m * 1024 → ρ ≤ s * 2 → Split s ρ (ρ * 4194304 / (s * 2)) (ρ * 4194304 % (s * 2))
split m s ρ lo hi e l =
    let s_low : 2 ^ 31 ≤ s = less_one (2 ^ 31) s (square_lt (2 ^ 31) (s + 1) (least m s ρ lo e l)) in
    let D : 0 < s * 2 = omega arith in
    let q_high : ρ * 4194304 / (s * 2) ≤ 2 ^ 22 = less_one (ρ * 4194304 / (s * 2)) (2 ^ 22) ((div-lt_iff_lt-mul {k = s * 2} {x = ρ * 4194304} {y = 2 ^ 22 + 1} D).1 (omega arith)) in
    record {
      s_low = s_low;
      s_high = square_lt s (2 ^ 32) (most (s * s) m ρ hi e);
      q_high = q_high;
      q_square = mul-le-mul q_high q_high;
      u_high = mod-lt (ρ * 4194304) D;
      same = div-add-mod' (ρ * 4194304) (s * 2);
    }
  where
    least : (m s ρ : ℕ) → 2 ^ 52 ≤ m → s * s + ρ ≡ m * 1024 → ρ ≤ s * 2 → 2 ^ 31 * 2 ^ 31 < (s + 1) * (s + 1)
    least m s ρ lo e l = omega arith

    most : (a m ρ : ℕ) → m < 2 ^ 54 → a + ρ ≡ m * 1024 → a < 2 ^ 32 * 2 ^ 32
    most a m ρ hi e = omega arith

module _ (m s ρ q u : ℕ) (e : s * s + ρ ≡ m * 1024) (w : Split s ρ q u) where
  squares : (s * 4194304 + q) * (s * 4194304 + q) + u * 4194304 ≡ m * 2 ^ 54 + q * q
  squares = go m s ρ q u e w.same
    where
      go : (m s ρ q u : ℕ) → s * s + ρ ≡ m * 1024 → q * (s * 2) + u ≡ ρ * 4194304 → (s * 4194304 + q) * (s * 4194304 + q) + u * 4194304 ≡ m * 2 ^ 54 + q * q
      go m s ρ q u e f = omega arith

  pub long_root : q * q ≤ u * 4194304 → IsRoot (m * 2 ^ 54) (s * 4194304 + q)
  long_root h = go (m * 2 ^ 54) (s * 4194304 + q) (q * q) u s squares h w.u_high (more s q)
    where
      more : (s q : ℕ) → s * 4194304 ≤ s * 4194304 + q
      more s q = omega arith

      go : (N r Q u s : ℕ) → r * r + u * 4194304 ≡ N + Q → Q ≤ u * 4194304 → u < s * 2 → s * 4194304 ≤ r → IsRoot N r
      go N r Q u s f h l k = record { low = omega arith; high = omega arith }

  pub long_root_less : u * 4194304 < q * q → IsRoot (m * 2 ^ 54) (s * 4194304 + q - 1)
  long_root_less h = go (m * 2 ^ 54) (s * 4194304 + q) (s * 4194304 + q - 1) (q * q) u (one_less s q w.s_low) squares h w.q_square (long s q w.s_low)
    where
      one_less : (s q : ℕ) → 2 ^ 31 ≤ s → s * 4194304 + q ≡ s * 4194304 + q - 1 + 1
      one_less s q h = omega arith

      long : (s q : ℕ) → 2 ^ 31 ≤ s → 2 ^ 52 ≤ s * 4194304 + q - 1
      long s q h = omega arith

      go : (N r R Q u : ℕ) → r ≡ R + 1 → r * r + u * 4194304 ≡ N + Q → u * 4194304 < Q → Q ≤ 2 ^ 44 → 2 ^ 52 ≤ R → IsRoot N R
      go N r R Q u d f h l k =
          let f' : (R + 1) * (R + 1) + u * 4194304 ≡ N + Q = subst (λ (z : ℕ). z * z + u * 4194304 ≡ N + Q) d f in
          record { low = omega arith; high = omega arith }
