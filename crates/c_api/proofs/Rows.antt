-- The row of a region. Assumes nothing.
use Prim.Native.Nat.{ℕ}
use mathlib.Core.Path.{◌≡◌, ap}
use Rattle.c_api.specs.Regions as spec

pub row_of_lem : {m n p : ℕ} {s t : spec.SolidRow} → s ≡ t → spec.the_row s m n p ≡ spec.the_row t m n p
row_of_lem {m} {n} {p} e = ap (λ s. spec.the_row s m n p) e
