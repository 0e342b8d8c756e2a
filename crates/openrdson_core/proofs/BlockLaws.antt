-- What a sound block tells, and the row that a name finds. Assumes nothing.
use mathlib.Core.Path.{◌≡◌, sym}
use mathlib.Core.Bool.{Bool, true, not, ◌&&◌, ◌||◌}
use mathlib.Core.List.{List}
use Rattle.std.specs.Prelude.{Some}
use Prim.Native.Nat.{ℕ, ◌+◌, ◌*◌, ◌≤◌, ◌<◌}
use native.Mathlib.Omega.{arith}
use lib.Dec.{eqb, leb}
use lib.ListN.{length}
use borrow.Author.Tests.{eqb-true, leb-true}
use Rattle.lists.specs.Lists.{all_below}
use Rattle.lists.proofs.Scans.{both}
use Rattle.lists.proofs.Searches.{first_below}
use Rattle.openrdson_core.specs.Bytes.{same, unpad}
use Rattle.openrdson_core.specs.Blocks.{width_of, cell_ok, count, key_at, value_at, distinct, block_ok, row_of}
use Rattle.openrdson_core.specs.Tech.{Sound}
use Rattle.openrdson_core.specs.SoundBlocks.{sound_bytes}
use Rattle.openrdson_core.specs.declared.tech.SoundBlocks.{SoundBlocks}
use Rattle.openrdson_core.specs.declared.blocks.Cell.{Cell}
use Rattle.openrdson_core.specs.declared.blocks.Cell.TheVariants.{Name}

-- a sound block counts at most 256 rows, and has exactly their length
pub record Counted (k v : Cell) (s : List ℕ) : Type 0 where
  pub few : count s ≤ 256
  pub long : length s ≡ 2 + count s * (width_of k + width_of v)

pub counted : (k v : Cell) (once : Bool) (s : List ℕ) → block_ok k v once s ≡ true → Counted k v s
unfolding block_ok
counted k v once s e =
    let a = leb (count s) 256 in
    let b = eqb (length s) (2 + count s * (width_of k + width_of v)) in
    let c = all_below (count s) (λ i. cell_ok k (key_at k s i)) in
    let d = all_below (count s) (λ i. cell_ok v (value_at k v s i)) in
    let four = both (a && b && c && d) (not once || distinct (count s) (key_at k s)) e in
    let two = both a b (both (a && b) c (both (a && b && c) d four.0).0).0 in
    record { few = leb-true (count s) 256 two.0; long = eqb-true (length s) (2 + count s * (width_of k + width_of v)) two.1 }

-- the same, said of the test
pub block_counts : (k v : Cell) (once : Bool) (s : List ℕ) → block_ok k v once s ≡ true
    → (block_ok k v once s ≡ true) × (count s ≤ 256) × (length s ≡ 2 + count s * (width_of k + width_of v))
block_counts k v once s e = let c = counted k v once s e in (e, c.few, c.long)

-- the row found is a row
pub row_below : (s name : List ℕ) (i : ℕ) → Some i ≡ row_of s name → i < count s
unfolding row_of
row_below s name i e = let h : i < 0 + count s = first_below (λ k. same (unpad (key_at Name s k)) name) (count s) 0 i (sym e) in omega arith

-- the same, said of the search
pub row_found : (s name : List ℕ) (i : ℕ) → row_of s name ≡ Some i → (row_of s name ≡ Some i) × (i < count s)
row_found s name i e = (e, row_below s name i (sym e))

-- none of six sound blocks is damaged
pub blocks_sound : (b : SoundBlocks) → Sound (sound_bytes b)
blocks_sound b =
    record {
      names = b.names.sound;
      conducting = b.conducting.sound;
      via = b.via.sound;
      conductors = b.conductors.sound;
      diffusions = b.diffusions.sound;
      vias = b.vias.sound;
    }
