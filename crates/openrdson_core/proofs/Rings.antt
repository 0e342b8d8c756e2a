-- What a ring, and the lengths of point lists with a part, tell once they have passed. Assumes nothing.
use mathlib.Core.Path.{◌≡◌}
use Prim.Native.Nat.{ℕ, ◌+◌, ◌≤◌}
use mathlib.Core.List.{List}
use native.Mathlib.Omega.{arith}
use lib.Dec.{eqb, leb}
use lib.ListN.{length}
use mathlib.Core.Bool.{true, ◌&&◌}
use lib.Ieee.{Float, nan, binary64, of_bits, le}
use borrow.Author.Tests.{eqb-true, leb-true}
use Rattle.lists.specs.Answer.{given, unless}
use Rattle.lists.proofs.Answers.{passed, passed_then}
use Rattle.lists.specs.Lists.{all_of}
use Rattle.lists.proofs.Passing.{all_of_from}
use Rattle.lists.proofs.Scans.{both, all_at, all_same}
use Rattle.binary64.specs.Numbers.{at, abs, at_most}
use Rattle.binary64.proofs.Sizes.{coordinate_is}
use Rattle.openrdson_core.specs.Apart.{points_within}
use Rattle.openrdson_core.specs.Points.{point_at, point_in, points_in, ring_size, ring_fault, of_ring}
use Rattle.openrdson_core.specs.Solids.{points_fault}

pub record Sized (m n : ℕ) : Type 0 where
  pub even : m ≡ n
  pub short : m ≤ 512

pub sized : (m n : ℕ) → ring_size m n ≡ given tt → Sized m n
sized m n e =
    let first = passed (eqb m n) 16 (unless (leb m 512) 2 (given tt)) e in
    let second = passed (leb m 512) 2 (given tt) first.1 in
    record { even = eqb-true m n first.0; short = leb-true m 512 second.0 }

-- a ring that nothing is against, and one whose call is not refused
pub fine_ring : (xs ys : List Float) → ring_fault xs ys ≡ given tt → Sized (length xs) (length ys)
unfolding ring_fault
fine_ring xs ys e = sized (length xs) (length ys) (passed_then (ring_size (length xs) (length ys)) (λ _. unless (points_in xs ys) 1 (given tt)) e).1

pub fine_points : (xs ys : List Float) → ring_fault xs ys ≡ given tt → points_in xs ys ≡ true
unfolding ring_fault
fine_points xs ys e =
    (passed (points_in xs ys) 1 (given tt) (passed_then (ring_size (length xs) (length ys)) (λ _. unless (points_in xs ys) 1 (given tt)) e).2).0

-- its heights
pub fine_heights : (xs ys : List Float) → ring_fault xs ys ≡ given tt → all_of (at_most 20) ys ≡ true
fine_heights xs ys e =
    all_of_from (at_most 20) ys nan
    (λ i h.
    (both
    (at_most 20 (at xs i))
    (at_most 20 (at ys i))
    (all_at (λ k. point_in (point_at xs ys k)) (length xs) (fine_points xs ys e) i (omega (arith, (fine_ring xs ys e).even)))
    ).1)

pub of_ring_lem : {A : Type 0} (xs ys : List Float) (a : A) {b : A} → of_ring xs ys a ≡ given b → Sized (length xs) (length ys)
of_ring_lem xs ys a e = fine_ring xs ys (passed_then (ring_fault xs ys) (λ _. given a) e).1

-- point lists of m and n entries, and a part of them
pub record Parted (m n start count : ℕ) : Type 0 where
  pub even : m ≡ n
  pub within : start + count ≤ m

pub parted : (m n start count : ℕ) → points_fault m n start count ≡ given tt → Parted m n start count
parted m n start count e =
    let first = passed (eqb m n) 16 (unless (leb (start + count) m) 15 (unless (leb m 2097152) 2 (given tt))) e in
    let second = passed (leb (start + count) m) 15 (unless (leb m 2097152) 2 (given tt)) first.1 in
    record { even = eqb-true m n first.0; within = leb-true (start + count) m second.0 }

-- the limit of a coordinate, as the code writes it
pub range_is : (xs ys : List Float) → points_within (of_bits binary64 0x4130_0000_0000_0000) xs ys ≡ points_in xs ys
range_is xs ys =
    all_same (λ i. le (abs (at xs i)) (of_bits binary64 0x4130_0000_0000_0000) && le (abs (at ys i)) (of_bits binary64 0x4130_0000_0000_0000)) (λ i. point_in (point_at xs ys i)) (length xs)
    (λ i _. rw (coordinate_is (at xs i), coordinate_is (at ys i)))
