-- Parts of a list: `part start count l`, the rest from a place on, and parts of what loops write. Assumes nothing.
use mathlib.Core.Path.{◌≡◌, refl, sym, ap, ◌∙◌, subst}
use mathlib.Core.List.{List, [], ◌∷◌, ◌++◌, append_assoc, append-nil}
use mathlib.Core.Logic.{inl, inr}
use Prim.Native.Nat.{ℕ, zero, suc, ◌+◌, ◌*◌, ◌-◌, ◌≤◌, ◌<◌}
use native.Mathlib.Nat.{eq-or-lt_of_le}
use native.Mathlib.Omega.{arith}
use lib.ListN.{length, get_or, take, drop, length-append, length-take, length-drop, drop_of_length-le, get_or-append}
use lib.Seq.{length-take-le, take_all, take_at, drop-cons, drop_at, drop-drop, take-take, take-append-le, drop-append-le, get_or-take, get_or-drop, take-add, take-length}
use Rattle.lists.specs.Lists.{part, put, runs, joined}
use Rattle.lists.proofs.Fills.{runs_length, run_room}
use Rattle.lists.proofs.Joined.{joined_runs}

drop_of_take : {A : Type 0} (start count w : ℕ) (l : List A) → start + count ≤ w → take count (drop start (take w l)) ≡ take count (drop start l)
drop_of_take zero count w l h = take-take count w l (omega arith)
drop_of_take (suc n) count zero l h = absurd (omega arith)
drop_of_take (suc n) count (suc w) [] h = refl
drop_of_take (suc n) count (suc w) (x ∷ l) h = drop_of_take n count w l (omega arith)

module _ {A : Type 0} (l : List A) where
  -- ---- what a program lends, as l[at..at + w], as l[0..n], as l[n..] and as l[at..to]

  pub part_lent : (at w : ℕ) → take (at + w - at) (drop at l) ≡ part at w l
  part_lent at w = let e : at + w - at ≡ w = omega arith in ap (λ (n : ℕ). take n (drop at l)) e

  pub head_lent : (n : ℕ) → take (n - 0) l ≡ take n l
  head_lent n = let e : n - 0 ≡ n = omega arith in ap (λ (k : ℕ). take k l) e

  pub rest_lent : (n : ℕ) → take (length l - n) (drop n l) ≡ drop n l
  rest_lent n = take_all (length l - n) (drop n l) (omega (arith, length-drop n l))

  -- l[at..to]: the end of l[0..to], after l[0..at]
  pub between_split : (at to : ℕ) → at ≤ to → take to l ≡ take at l ++ take (to - at) (drop at l)
  between_split at to h = let e : to ≡ at + (to - at) = omega arith in ap (λ (n : ℕ). take n l) e ∙ take-add at (to - at) l

  pub between_lent : (at to : ℕ) → at ≤ to → to ≤ length l → take (to - at) (drop at l) ≡ drop at (take to l)
  between_lent at to h g = sym (ap (drop at) (between_split at to h) ∙ drop_at (take at l) (take (to - at) (drop at l)) at (length-take-le at l (omega arith)))

  -- run i of those of w entries from place `from` on, lent as l[at..at + v]
  pub run_lent : (from i w : ℕ) {at v : ℕ} → at ≡ from + i * w → v ≡ w → take (at + v - at) (drop at l) ≡ part (from + i * w) w l
  run_lent from i w {at} {v} e f = part_lent at v ∙ ap (λ (k : ℕ). part k v l) e ∙ ap (λ (k : ℕ). part (from + i * w) k l) f

  -- ---- parts

  pub part_length : (at w : ℕ) → at + w ≤ length l → length (part at w l) ≡ w
  part_length at w h = omega (arith, length-take w (drop at l), length-drop at l)

  -- the same of what is lent
  pub lent_length : (at w : ℕ) → at + w ≤ length l → length (take (at + w - at) (drop at l)) ≡ w
  lent_length at w h = ap length (part_lent at w) ∙ part_length at w h

  -- an entry of a part
  pub part_at : (at w i : ℕ) (other : A) → i < w → get_or (part at w l) i other ≡ get_or l (at + i) other
  part_at at w i other h = get_or-take w (drop at l) i other h ∙ get_or-drop at l i other

  -- the first n entries of a part
  pub part_head : (at n w : ℕ) → n ≤ w → take n (part at w l) ≡ part at n l
  part_head at n w h = take-take n w (drop at l) h

  -- a part of a part
  pub part_of_part : (at start count w : ℕ) → start + count ≤ w → part start count (part at w l) ≡ part (at + start) count l
  part_of_part at start count w h = drop_of_take start count w (drop at l) h ∙ ap (take count) (drop-drop start at l)

  -- ---- the rest from place i on

  -- the entry before it, and it
  pub rest_back : (i : ℕ) (other : A) → 0 < i → i ≤ length l → drop (i - 1) l ≡ get_or l (i - 1) other ∷ drop i l
  rest_back i other p h =
      let e : suc (i - 1) ≡ i = omega arith in
      drop-cons l (i - 1) other (omega arith) ∙ ap (λ (k : ℕ). get_or l (i - 1) other ∷ drop k l) e

  -- it is no longer than the list
  pub rest_most : (i n : ℕ) → length l ≤ n → length (drop i l) ≤ n
  rest_most i n h = omega (arith, length-drop i l)

  -- what holds of every entry of the list holds of its own
  pub rest_each : (P : A → Type 0) (other : A) → ((k : ℕ) → P (get_or l k other)) → (i k : ℕ) → P (get_or (drop i l) k other)
  rest_each P other each i k = subst P (sym (get_or-drop i l k other)) (each (i + k))

-- ---- lists that agree from place i on

module _ {A : Type 0} (l now : List A) (i : ℕ) (rest : drop i now ≡ drop i l) where
  pub rest_at : (other : A) → get_or now i other ≡ get_or l i other
  rest_at other =
      let z : i + 0 ≡ i = omega arith in
      ap (λ (k : ℕ). get_or now k other) (sym z) ∙ sym (get_or-drop i now 0 other) ∙ ap (λ (t : List A). get_or t 0 other) rest ∙ get_or-drop i l 0 other ∙ ap (λ (k : ℕ). get_or l k other) z

  pub rest_more : drop (i + 1) now ≡ drop (i + 1) l
  rest_more = sym (drop-drop 1 i now) ∙ ap (drop 1) rest ∙ drop-drop 1 i l

-- ---- the rest from a place on, lent as l[at..], when it comes back as new

module _ {A : Type 0} (l : List A) (at : ℕ) (new : List A) (h : at ≤ length l) (e : length new ≡ length (drop at l)) where
  pub rest_back_is : take at l ++ (new ++ drop (length l - at) (drop at l)) ≡ take at l ++ new
  rest_back_is =
      let short : length (drop at l) ≤ length l - at = omega (arith, length-drop at l) in
      let none : drop (length l - at) (drop at l) ≡ [] = drop_of_length-le (drop at l) short in
      ap (λ (x : List A). take at l ++ (new ++ x)) none ∙ ap (λ (x : List A). take at l ++ x) (append-nil new)

  pub rest_back_long : length (take at l ++ (new ++ drop (length l - at) (drop at l))) ≡ length l
  rest_back_long = ap length rest_back_is ∙ omega (arith, length-append (take at l) new, length-take-le at l h, length-drop at l, e)

  pub rest_back_later : drop (at + 1) (take at l ++ (new ++ drop (length l - at) (drop at l))) ≡ drop 1 new
  rest_back_later =
      ap (drop (at + 1)) rest_back_is ∙ sym (drop-drop 1 at (take at l ++ new)) ∙ ap (drop 1) (drop_at (take at l) new at (length-take-le at l h))

-- ---- parts of what loops write

-- a part of the first of two lists
pub part_first : {A : Type 0} (a b : List A) (start count : ℕ) → start + count ≤ length a → part start count (a ++ b) ≡ part start count a
part_first a b start count h =
    ap (take count) (drop-append-le start a b (omega arith)) ∙ take-append-le count (drop start a) b (omega (arith, length-drop start a))

-- a list that the run new was put into from place at on
module _ {A : Type 0} (l : List A) (at : ℕ) (new : List A) (h : at ≤ length l) where
  apart : put l at new ≡ take at l ++ (new ++ drop (at + length new) l)
  unfolding put
  apart = append_assoc (take at l) new (drop (at + length new) l)

  start_kept : take at (put l at new) ≡ take at l
  start_kept = ap (take at) apart ∙ take_at (take at l) (new ++ drop (at + length new) l) at (length-take-le at l h)

  from_run : drop at (put l at new) ≡ new ++ drop (at + length new) l
  from_run = ap (drop at) apart ∙ drop_at (take at l) (new ++ drop (at + length new) l) at (length-take-le at l h)

  -- before the run it is as it was
  pub put_kept_at : (i : ℕ) (other : A) → i < at → get_or (put l at new) i other ≡ get_or l i other
  put_kept_at i other k = sym (get_or-take at (put l at new) i other k) ∙ ap (λ (r : List A). get_or r i other) start_kept ∙ get_or-take at l i other k

  pub put_kept : (start count : ℕ) → start + count ≤ at → part start count (put l at new) ≡ part start count l
  put_kept start count k = sym (drop_of_take start count at (put l at new) k) ∙ ap (part start count) start_kept ∙ drop_of_take start count at l k

  -- in the run it is what was written
  pub put_new_at : (i : ℕ) (other : A) → i < length new → get_or (put l at new) (at + i) other ≡ get_or new i other
  put_new_at i other k = sym (get_or-drop at (put l at new) i other) ∙ ap (λ (r : List A). get_or r i other) from_run ∙ get_or-append new (drop (at + length new) l) other i k

  pub put_new : (start count : ℕ) → start + count ≤ length new → part (at + start) count (put l at new) ≡ part start count new
  put_new start count k =
      ap (take count) (sym (drop-drop start at (put l at new)))
      ∙ ap (part start count) from_run
      ∙ part_first new (drop (at + length new) l) start count k

-- a part that a run was put right behind, and the run
pub part_put : {A : Type 0} (l new : List A) (at e : ℕ) → at ≤ e → e ≤ length l → part at (e + length new - at) (put l e new) ≡ part at (e - at) l ++ new
part_put {A} l new at e h g =
    let split : e + length new - at ≡ (e - at) + length new = omega arith in
    let place : at + (e - at) ≡ e + 0 = omega arith in
    ap (λ (k : ℕ). part at k (put l e new)) split
    ∙ take-add (e - at) (length new) (drop at (put l e new))
    ∙ ap (λ (t : List A). part at (e - at) (put l e new) ++ t) (ap (take (length new)) (drop-drop (e - at) at (put l e new) ∙ ap (λ (k : ℕ). drop k (put l e new)) place) ∙ put_new l e new g 0 (length new) (omega arith) ∙ take-length new)
    ∙ ap (λ (s : List A). s ++ new) (put_kept l e new g at (e - at) (omega arith))

-- runs that are all w long
module _ {A : Type 0} (w : ℕ) where
  pub part_runs : (f : ℕ → List A) → ((i : ℕ) → length (f i) ≡ w) → (n i : ℕ) → i < n → part (i * w) w (runs n f) ≡ f i
  unfolding runs
  part_runs f each zero i h = absurd (omega arith)
  part_runs f each (suc n) i h =
      let l : i ≤ n = omega arith in
      elim (eq-or-lt_of_le l) [
        | inl g ↦ ap (take w) (drop_at (runs n f) (f n) (i * w) (runs_length f w each n ∙ ap (λ (k : ℕ). k * w) (sym g))) ∙ take_all w (f n) (omega (arith, each n)) ∙ ap f (sym g)
        | inr g ↦ part_first (runs n f) (f n) (i * w) w (omega (arith, runs_length f w each n, run_room n w i g)) ∙ part_runs f each n i g
      ]

  pub part_joined : {B : Type 0} (f : B → List A) → ((x : B) → length (f x) ≡ w) → (other : B) (l : List B) (i : ℕ) → i < length l → part (i * w) w (joined f l) ≡ f (get_or l i other)
  part_joined f each other l i h = ap (part (i * w) w) (sym (joined_runs f other l)) ∙ part_runs (λ k. f (get_or l k other)) (λ k. each (get_or l k other)) (length l) i h

-- ---- a part, lent as l[at..to], when it comes back as new: the list up to its end

pub between_back : {A : Type 0} (l : List A) (at to : ℕ) (new : List A) → at ≤ to → to ≤ length l → length new ≡ length (take (to - at) (drop at l))
    → take to (take at l ++ (new ++ drop (to - at) (drop at l))) ≡ take at l ++ new
between_back l at to new h g e =
    let rest = drop (to - at) (drop at l) in
    ap (take to) (sym (append_assoc (take at l) new rest))
    ∙ take_at (take at l ++ new) rest to (omega (arith, length-append (take at l) new, length-take-le at l (omega arith), e, length-take-le (to - at) (drop at l) (omega (arith, length-drop at l))))

-- a part of a list's start
pub part_of_start : {A : Type 0} (l : List A) (start count w : ℕ) → start + count ≤ w → part start count (take w l) ≡ part start count l
part_of_start l start count w h =
    let e : 0 + start ≡ start = omega arith in
    part_of_part l 0 start count w h ∙ ap (λ (k : ℕ). part k count l) e
