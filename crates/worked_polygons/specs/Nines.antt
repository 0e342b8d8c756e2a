-- What stands in a list of coordinates before anything is written in it.
use Rattle.std.specs.Prelude.{Float}
use Rattle.std.specs.Float.{binary64}
use Rattle.std.specs.Float.Ieee.{of_bits}

-- 9.0
abbrev pub nine64 : Float
nine64 = of_bits binary64 0x4022_0000_0000_0000
