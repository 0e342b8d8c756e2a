-- `root_above_zero` meets its contract: the pattern's digits and exponent scale x (`Scale`), and the root of the digits is written back (`Written`). Assumes nothing.
use Rattle.std.proofs.Common.{ℕ, ◌*◌, ◌≤◌, T, sym, subst, le_trans, le_of_lt, arith, lit≤, Fits-le, Fits-lit, w64, Fits}
use lib.Ieee.{binary64, to_bits}
use Rattle.binary64.proofs.Patterns.{PatternOf, pattern_of_lem, Scale, scale_normal, scale_subnormal, rescaled, even_digits_low, even_digits_high, Written, from_root, pattern_no_nan, positive_no_nan}
use Rattle.binary64.proofs.root.root_above_zero.Goals as goal
use Rattle.binary64.proofs.root.root_above_zero.Goals.{After-normalised-s, After-whole_root-r, Joined-field-gt0, Start, then-field-gt0, else-field-gt0}

-- ---- what the pattern holds

held : (c : Start) → PatternOf c.args.x (to_bits binary64 c.args.x)
held c = pattern_of_lem c.args.x (subst T (sym c.well_formed.0.1) tt) c.requires

scaled : (c : Joined-field-gt0) → Scale c.args.x c.if-field-gt0.m c.if-field-gt0.e
scaled c =
    let x = c.args.x in
    let h = held c.before in
    elim c.if-field-gt0.branch [ then-field-gt0 w ↦ scale_normal x _ _ _ h w.if-field-gt0.true w.m-is w.e-is | else-field-gt0 w ↦ scale_subnormal x _ _ _ h w.if-field-gt0.false w.m-is w.e-is ]

pub float_to_bits-bits : goal.float_to_bits-bits
float_to_bits-bits c = positive_no_nan c.args.x c.requires

pub overflow_add-e : goal.overflow_add-e
overflow_add-e c = omega (arith, (held c.before).under)

pub normalised-s-requires : goal.normalised-s-requires
normalised-s-requires c = ((scaled c).small, le_trans (lit≤ tt) (scaled c).least)

-- ---- after `normalised`

again : (c : After-normalised-s) → Scale c.args.x c.normalised-s.result.m c.normalised-s.result.e
again c = let g = c.normalised-s.ensures in rescaled c.args.x _ _ _ _ (scaled c.before) g.0 g.2 g.3

pub overflow_mul-s : goal.overflow_mul-s
overflow_mul-s c = Fits-le (le_of_lt (even_digits_high _ _ c.normalised-s.ensures.2)) (Fits-lit tt)

pub whole_root-r-requires : goal.whole_root-r-requires
whole_root-r-requires c = let g = c.normalised-s.ensures in (even_digits_low _ _ g.1, even_digits_high _ _ g.2)

-- ---- after `whole_root`

written : (c : After-whole_root-r) → Written c.args.x c.normalised-s.result.e c.whole_root-r.result
written c =
    let n = c in
    from_root n.args.x n.normalised-s.result.m _ _ n.requires (again n.before.before.before.before) n.normalised-s.ensures.1 record { low = c.whole_root-r.ensures.0; high = c.whole_root-r.ensures.1 }

pub overflow_mul-result : goal.overflow_mul-result
overflow_mul-result c = room (written c).exponent
  where
    room : {h : ℕ} → h ≤ 2000 → Fits w64 (h * 4503599627370496)
    room h = omega arith

pub overflow_add-result-3 : goal.overflow_add-result-3
overflow_add-result-3 c = omega (arith, (written c).exponent, (written c).digits)

pub float_from_bits-result : goal.float_from_bits-result
float_from_bits-result c = pattern_no_nan _ _ (omega (arith, (written c).digits)) (written c).exponent

pub returns : goal.returns
returns c = (written c).root
