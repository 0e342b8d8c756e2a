-- The constants that the definitions name, by their bits.
use Rattle.std.specs.Prelude.{from_bits, Float}
use Rattle.std.specs.Float.{binary64}

abbrev pub zero64 : Float
zero64 = from_bits binary64 0

abbrev pub half64 : Float
half64 = from_bits binary64 0x3fe0_0000_0000_0000

abbrev pub one64 : Float
one64 = from_bits binary64 0x3ff0_0000_0000_0000

abbrev pub two64 : Float
two64 = from_bits binary64 0x4000_0000_0000_0000

abbrev pub three64 : Float
three64 = from_bits binary64 0x4008_0000_0000_0000

-- 1e-9
abbrev pub tolerance9 : Float
tolerance9 = from_bits binary64 0x3e11_2e0b_e826_d695

-- 2^-52, the Rust's f64::EPSILON
abbrev pub tiny52 : Float
tiny52 = from_bits binary64 0x3cb0_0000_0000_0000

-- 1e-15
abbrev pub tiny15 : Float
tiny15 = from_bits binary64 0x3cd2_03af_9ee7_5616

-- 1e-30
abbrev pub tiny30 : Float
tiny30 = from_bits binary64 0x39b4_484b_feeb_c2a0

-- 1e-300
abbrev pub tiny300 : Float
tiny300 = from_bits binary64 0x01a5_6e1f_c2f8_f359
