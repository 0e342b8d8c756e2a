-- The words of a record, what they stand for, and the sum of two counts.
use Rattle.std.specs.Prelude.{ℕ, zero, suc, ◌+◌, ◌-◌, ◌*◌, ◌^◌, List, length, take, drop, cond, min, nat_le, nat_eq, Bool, ◌&&◌, slice_range, [], ℤ, pos, negsuc, int_lt, Float, is_nan, to_bits}
use Rattle.std.specs.List.{list_all, enumerate_from, range_with_len}
use Rattle.std.specs.Float.{binary64}
use Rattle.std.specs.Int.{w64, from_le_bytes, cast_signed}

-- The bytes from word i on.
abbrev pub after : List ℕ → ℕ → List ℕ
after s i = drop (i * 8) s

-- The little-endian word that a list begins with; 0 where it has fewer than eight bytes.
unfoldable pub first_word : List ℕ → ℕ
first_word s = cond (nat_le 8 (length s)) (from_le_bytes w64 (take 8 s)) 0

-- Word i.
abbrev pub word : List ℕ → ℕ → ℕ
word s i = first_word (after s i)

-- The sum of two counts, or the largest u64 where the sum is above it.
abbrev pub more : ℕ → ℕ → ℕ
more n k = min (n + k) (2 ^ 64 - 1)

-- The i16 that a word stands for by two's complement; 0 where it stands for none.
unfoldable pub short_of : ℕ → ℤ
short_of n = let z = cast_signed w64 n in cond (int_lt z (negsuc 32767)) (pos 0) (cond (int_lt z (pos 32768)) z (pos 0))

-- A float's bit pattern, the same for every NaN.
unfoldable pub bits_of : Float → ℕ
bits_of x = cond (is_nan x) 0x7ff8000000000000 (to_bits binary64 x)

-- The bytes from byte i up to byte j, without j; none where j is before i or past the end.
unfoldable pub part : List ℕ → ℕ → ℕ → List ℕ
part s i j = cond (nat_le i j && nat_le j (length s)) (slice_range s i j) []

-- The sum of n words from word i on, each counted as `most` where it is above.
abbrev pub sum_of : ℕ → List ℕ → ℕ → ℕ → ℕ
sum_of most s i zero = 0
sum_of most s i (suc n) = sum_of most s i n + min most (word s (i + n))

-- The byte where part i starts: the parts' lengths, at most 1,024, are the words from word 1 on, and the parts stand one after the other from byte `head` on.
abbrev pub part_start : List ℕ → ℕ → ℕ → ℕ
part_start s head i = head + sum_of 1024 s 1 (i - 1)

-- Whether the words from word i up to word j, without j, are at most `most`.
abbrev pub are_within : List ℕ → ℕ → ℕ → ℕ → Bool
are_within s i j most = list_all (λ k. nat_le (word s k) most) (range_with_len i (j - i))

-- Whether a record begins with the words of these entries.
abbrev pub begins : {X : Type 0} → (X → ℕ) → List ℕ → List X → Bool
begins to_word s xs = list_all (λ p. nat_eq (to_word p.1) (word s p.0)) (enumerate_from 0 xs)

-- Whether each entry has the word of `x`.
abbrev pub all_are : {X : Type 0} → (X → ℕ) → X → List X → Bool
all_are to_word x xs = list_all (λ y. nat_eq (to_word y) (to_word x)) xs

-- Whether the entries of a list from place i up to place j, without j, have the words that a record begins with, and the others the word of `before`.
abbrev pub is_left : {X : Type 0} → (X → ℕ) → X → List ℕ → List X → ℕ → ℕ → Bool
is_left to_word before s xs i j =
    let from = min i (length xs) in
    let rest = drop from xs in
    let n = min (j - i) (length rest) in
    all_are to_word before (take from xs) && all_are to_word before (drop n rest) && begins to_word s (take n rest)
