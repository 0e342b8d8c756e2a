-- Lists of bytes: names, parts of names, and little-endian numbers. A byte is a ℕ below 256.
use Rattle.std.specs.Prelude.{ℕ, ◌+◌, ◌*◌, Bool, ◌&&◌, List, [], ◌∷◌, eqb, leb, ltb, length, get_or, take, drop, unwrap_or}
use Rattle.lists.specs.Lists.{all_below, any_below, first}

abbrev pub byte_at : List ℕ → ℕ → ℕ
byte_at s i = get_or s i 0

-- s and t are the same list
unfoldable pub same : List ℕ → List ℕ → Bool
same s t = eqb (length s) (length t) && all_below (length s) (λ i. eqb (byte_at s i) (byte_at t i))

-- every byte is zero
unfoldable pub zeros : List ℕ → Bool
zeros s = all_below (length s) (λ i. eqb (byte_at s i) 0)

-- how many bytes stand before the first zero
unfoldable pub name_length : List ℕ → ℕ
name_length s = unwrap_or (first (λ i. eqb (byte_at s i) 0) (length s) 0) (length s)

-- a name without its padding
abbrev pub unpad : List ℕ → List ℕ
unpad s = take (name_length s) s

-- a cell that holds a name: at least one nonzero byte, then zeros
unfoldable pub name_ok : List ℕ → Bool
name_ok s = ltb 0 (name_length s) && zeros (drop (name_length s) s)

-- the number that little-endian bytes stand for
unfoldable pub little : List ℕ → ℕ
little [] = 0
little (b ∷ s) = b + 256 * little s

-- s starts with p
unfoldable pub starts_with : List ℕ → List ℕ → Bool
starts_with s p = leb (length p) (length s) && all_below (length p) (λ i. eqb (byte_at s i) (byte_at p i))

-- p, which is not empty, stands somewhere in s
unfoldable pub contains : List ℕ → List ℕ → Bool
contains s p = any_below (length s) (λ i. starts_with (drop i s) p)
