-- Names and little-endian numbers in lists of bytes: std's words for them are the definitions. Assumes nothing.
use Rattle.std.proofs.Common.{◌≡◌, refl, sym, ap, ◌∙◌, ℕ, zero, suc, ◌+◌, ◌*◌, ◌<◌, ◌≤◌, Bool, true, false, not, ◌&&◌, ◌||◌, List, [], ◌∷◌, eqb, leb, length, get_or, take, drop, arith, w16, w64, drop_of_length-le, get_or-drop, length-drop}
use Rattle.std.specs.Int.{from_le_bytes}
use Rattle.std.proofs.Math.Dec.{eqb-zero-suc, eqb-suc-zero, eqb-suc-suc, leb-suc-zero, leb-suc-suc}
use Rattle.std.proofs.Math.Seq.{drop-cons}
use Rattle.std.proofs.lemmas.Bool.{le-leb, eq-eqb}
use Rattle.std.proofs.lemmas.Bool.Decides.{nat_tests}
use Rattle.std.proofs.lemmas.Slice.Eq.{bytes_eq-Decides}
use Rattle.std.specs.List as std
use Rattle.std.specs.Cmp.Lexicographic.{pointwise}
use Rattle.lists.specs.Lists.{part, all_below}
use Rattle.openrdson_core.specs.Bytes.{byte_at, same, starts_with, little}
use Rattle.openrdson_core.specs.Blocks.{head}

and_assoc : (a b c : Bool) → ((a && b) && c) ≡ (a && (b && c))
and_assoc true b c = refl
and_assoc false b c = refl

and_turned : (a b c : Bool) → (a && (b && c)) ≡ (b && (a && c))
and_turned true b c = refl
and_turned false true c = refl
and_turned false false c = refl

-- the first place, then the others
all_front : (test : ℕ → Bool) (n : ℕ) → all_below (suc n) test ≡ (test 0 && all_below n (λ i. test (suc i)))
unfolding all_below
all_front test zero = and_true (test 0)
  where
    and_true : (b : Bool) → b ≡ (b && true)
    and_true true = refl
    and_true false = refl
all_front test (suc n) = ap (λ (b : Bool). b && test (suc n)) (all_front test n) ∙ and_assoc (test 0) (all_below n (λ i. test (suc i))) (test (suc n))

-- `a == b`
pub same_is : (s t : List ℕ) → pointwise eqb s t ≡ same s t
unfolding same all_below
same_is [] [] = refl
same_is [] (y ∷ t) = rw (eqb-zero-suc (length t))
same_is (x ∷ s) [] = rw (eqb-suc-zero (length s))
same_is (x ∷ s) (y ∷ t) =
    ap (λ (b : Bool). eqb x y && b) (same_is s t)
    ∙ and_turned (eqb x y) (eqb (length s) (length t)) (all_below (length s) (λ i. eqb (byte_at s i) (byte_at t i)))
    ∙ ap (λ (b : Bool). eqb (length s) (length t) && b) (sym (all_front (λ i. eqb (byte_at (x ∷ s) i) (byte_at (y ∷ t) i)) (length s)))
    ∙ ap (λ (b : Bool). b && all_below (suc (length s)) (λ i. eqb (byte_at (x ∷ s) i) (byte_at (y ∷ t) i))) (sym (eqb-suc-suc (length s) (length t)))

-- `s.starts_with(p)`
pub starts_is : (s p : List ℕ) → std.starts_with eqb s p ≡ starts_with s p
unfolding starts_with all_below
starts_is s [] = rw (le-leb 0 (length s) (omega arith))
starts_is [] (y ∷ p) = rw (leb-suc-zero (length p))
starts_is (x ∷ s) (y ∷ p) =
    ap (λ (b : Bool). eqb y x && b) (starts_is s p)
    ∙ ap (λ (b : Bool). b && starts_with s p) (eqb_turned y x)
    ∙ and_turned (eqb x y) (leb (length p) (length s)) (all_below (length p) (λ i. eqb (byte_at s i) (byte_at p i)))
    ∙ ap (λ (b : Bool). leb (length p) (length s) && b) (sym (all_front (λ i. eqb (byte_at (x ∷ s) i) (byte_at (y ∷ p) i)) (length p)))
    ∙ ap (λ (b : Bool). b && all_below (suc (length p)) (λ i. eqb (byte_at (x ∷ s) i) (byte_at (y ∷ p) i))) (sym (leb-suc-suc (length p) (length s)))
  where
    eqb_turned : (a b : ℕ) → eqb a b ≡ eqb b a
    eqb_turned a b = grind (arith, nat_tests)

-- ---- numbers

little_at : (c : List ℕ) (i : ℕ) → i < length c → little (drop i c) ≡ get_or c i 0 + 256 * little (drop (suc i) c)
unfolding little
little_at c i h = ap little (drop-cons c i 0 h)

pub two_bytes : (s : List ℕ) → 2 ≤ length s → from_le_bytes w16 (get_or s 0 0 ∷ get_or s 1 0 ∷ []) ≡ little (take 2 s)
unfolding little
two_bytes [] h = absurd (omega arith)
two_bytes (a ∷ []) h = absurd (omega arith)
two_bytes (a ∷ b ∷ s) h = omega arith

pub two_bytes_at : (s : List ℕ) (at : ℕ) → at + 2 ≤ length s → from_le_bytes w16 (get_or s at 0 ∷ get_or s (at + 1) 0 ∷ []) ≡ little (part at 2 s)
two_bytes_at s at h =
    let low : get_or (drop at s) 0 0 ≡ get_or s at 0 = get_or-drop at s 0 0 ∙ (let e : at + 0 ≡ at = omega arith in ap (λ (k : ℕ). get_or s k 0) e) in
    omega (arith, low, get_or-drop at s 1 0, two_bytes (drop at s) (omega (arith, length-drop at s)))

little_end : (c : List ℕ) → length c ≡ 8 → little (drop 8 c) ≡ 0
unfolding little
little_end c l = (let short : length c ≤ 8 = omega arith in ap little (drop_of_length-le c short))

pub eight_bytes : (c : List ℕ) → length c ≡ 8 → from_le_bytes w64 (get_or c 0 0 ∷ get_or c 1 0 ∷ get_or c 2 0 ∷ get_or c 3 0 ∷ get_or c 4 0 ∷ get_or c 5 0 ∷ get_or c 6 0 ∷ get_or c 7 0 ∷ []) ≡ little c
eight_bytes c l =
    let end : little (drop 8 c) ≡ 0 = little_end c l in
    omega (arith, little_at c 0 (omega arith), little_at c 1 (omega arith), little_at c 2 (omega arith), little_at c 3 (omega arith), little_at c 4 (omega arith), little_at c 5 (omega arith), little_at c 6 (omega arith), little_at c 7 (omega arith))

-- the first eight bytes
little_start : (c : List ℕ) (i k : ℕ) → i < length c → little (take (suc k) (drop i c)) ≡ get_or c i 0 + 256 * little (take k (drop (suc i) c))
unfolding little
little_start c i k h = ap (λ (l : List ℕ). little (take (suc k) l)) (drop-cons c i 0 h)

pub first_eight : (c : List ℕ) → 8 ≤ length c → from_le_bytes w64 (get_or c 0 0 ∷ get_or c 1 0 ∷ get_or c 2 0 ∷ get_or c 3 0 ∷ get_or c 4 0 ∷ get_or c 5 0 ∷ get_or c 6 0 ∷ get_or c 7 0 ∷ []) ≡ little (take 8 c)
unfolding little
first_eight c l = omega (arith, little_start c 0 7 (omega arith), little_start c 1 6 (omega arith), little_start c 2 5 (omega arith), little_start c 3 4 (omega arith), little_start c 4 3 (omega arith), little_start c 5 2 (omega arith), little_start c 6 1 (omega arith), little_start c 7 0 (omega arith))

-- where the heads differ, so do the lists: a test of the heads first changes nothing
pub heads_first : (s t : List ℕ) → (not (eqb (head s) (head t)) || not (same s t)) ≡ not (same s t)
heads_first s t = told (same s t) refl
  where
    told : (b : Bool) → same s t ≡ b → (not (eqb (head s) (head t)) || not b) ≡ not b
    told false _ = or_true (not (eqb (head s) (head t)))
      where
        or_true : (a : Bool) → (a || true) ≡ true
        or_true true = refl
        or_true false = refl
    told true h = ap (λ (e : Bool). not e || false) (eq-eqb (head s) (head t) (ap head ((bytes_eq-Decides s t).0 (same_is s t ∙ h))))
