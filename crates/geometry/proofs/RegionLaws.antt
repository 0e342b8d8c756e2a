-- A region list: its twelve lengths.
use Rattle.std.proofs.Common.{ℕ, ◌<◌, ◌≡◌, List, [], ◌∷◌, true, eqb, length, get_or, arith, lit<, zero, suc, eqb-true}
use Rattle.lists.proofs.Scans.{both}
use Rattle.geometry.specs.Regions.{Regions, lengths_of, all_equal, even_regions, Even}

-- ---- the lengths

-- the length at a place
pub equal_at : (n : ℕ) (lengths : List ℕ) → all_equal n lengths ≡ true → (k : ℕ) → k < length lengths → get_or lengths k 0 ≡ n
equal_at n [] e k h = absurd (omega arith)
equal_at n (m ∷ ms) e zero h = eqb-true m n (both (eqb m n) (all_equal n ms) e).0
equal_at n (m ∷ ms) e (suc k) h = equal_at n ms (both (eqb m n) (all_equal n ms) e).1 k (omega arith)

pub even_of : (r : Regions) → even_regions r ≡ true → Even r
unfolding even_regions
even_of r e =
    let each : (k : ℕ) → k < 11 → get_or (lengths_of r) k 0 ≡ length r.kinds = equal_at (length r.kinds) (lengths_of r) e in
    record {
      min_x = each 0 (lit< tt);
      min_y = each 1 (lit< tt);
      max_x = each 2 (lit< tt);
      max_y = each 3 (lit< tt);
      z_bottom = each 4 (lit< tt);
      z_top = each 5 (lit< tt);
      starts = each 6 (lit< tt);
      counts = each 7 (lit< tt);
      materials = each 8 (lit< tt);
      nets = each 9 (lit< tt);
      polygons = each 10 (lit< tt);
    }
