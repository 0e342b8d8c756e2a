-- std's square root of a binary64 number is `sqrt_of`: both are rounded from one root, which they take to different places. Assumes nothing.
use Rattle.std.proofs.Common.{◌≡◌, ℕ, zero, suc, ◌-◌, ◌+◌, ◌*◌, ◌/◌, ◌%◌, ◌^◌, true, false, T, ℤ, sym, refl, ap, ◌∙◌, zero-lt-suc, lt→ltb, pow_pos}
use lib.Ieee.{Float, nan, inf, fin, binary64, to_bits, fits, sqrt}
use lib.Ieee.Fits.{sqrt-fits}
use lib.Ieee.Positive.{positive}
use Rattle.binary64.specs.Root.{root, sqrt_of}
use Rattle.binary64.proofs.Values.{value_unique, zero_exponent}
use Rattle.binary64.proofs.WholeRoots.{root_is}
use Rattle.binary64.proofs.Patterns.{mantissa, pattern_of_lem, scale_of, sqrt_fits, sqrt_value, library_sqrt_value}
use Rattle.binary64.proofs.NearestRoot.{even}

above_zero : (m : ℕ) (e : ℤ) → T (fits binary64 (fin false (suc m) e)) → sqrt binary64 (fin false (suc m) e) ≡ sqrt_of (fin false (suc m) e)
above_zero m e f =
    let x = fin false (suc m) e in
    let p : T (positive x) = lt→ltb 0 (suc m) (zero-lt-suc m) in
    let b = to_bits binary64 x in
    let w = scale_of x b (pattern_of_lem x f p) in
    let v = even (mantissa (b / 2 ^ 52) (b % 2 ^ 52)) (b / 2 ^ 52 - 1 + 126) w.small w.least w.far in
    let W : w.U * 2 ^ 126 ≡ v.M * 2 ^ 54 * 4 ^ v.t = sym w.same ∙ v.same in
    let R = root (v.M * 2 ^ 54) in
    value_unique binary64 (sqrt binary64 x) (sqrt_of x) false ((R / 2 + R % 2) * 2 ^ (v.t + 475)) (2 ^ 1074) (pow_pos 1074)
    (sqrt-fits binary64 x) (sqrt_fits x p)
    (library_sqrt_value x w.U v.M v.t R p w.value W v.lo v.hi v.far (root_is (v.M * 2 ^ 54)))
    (sqrt_value x w.U v.M v.t R p w.value W v.lo v.hi v.far (root_is (v.M * 2 ^ 54)))

pub sqrt_is : (x : Float) → T (fits binary64 x) → sqrt binary64 x ≡ sqrt_of x
unfolding sqrt sqrt_of
sqrt_is nan f = refl
sqrt_is (inf true) f = refl
sqrt_is (inf false) f = refl
sqrt_is (fin s zero e) f = ap (λ (g : ℤ). fin s 0 g) (sym (zero_exponent s e f))
sqrt_is (fin true (suc m) e) f = refl
sqrt_is (fin false (suc m) e) f = above_zero m e f
