-- The entries of a list that pass a test: which they are, how many, and whether all do. Assumes nothing.
use mathlib.Core.Path.{◌≡◌, refl, sym, ap, ◌∙◌, subst}
use mathlib.Core.Bool.{Bool, true, false, not, ◌&&◌, cond}
use mathlib.Core.List.{List, [], ◌∷◌, ◌++◌, append-nil, append_assoc}
use mathlib.Core.Logic.{⊎_elim}
use Prim.Native.Nat.{ℕ, zero, suc, ◌+◌, ◌-◌, ◌≤◌, ◌<◌}
use native.Mathlib.Nat.{not-suc-le-zero, le_of_suc-le-suc, eq-or-lt_of_le}
use native.Mathlib.Numerals.{add-one}
use native.Mathlib.Omega.{arith}
use lib.Dec.{eqb, ltb}
use lib.ListN.{length, get_or, take, drop, set, length-append, length-set, get_or-append}
use lib.Seq.{get_or_at, take-suc, take-suc-set, get_or-set_other, drop-set-lt}
use borrow.Author.Tests.{ltb-true, ltb-false, lt-ltb, ne_eqb}
use Rattle.lists.specs.Counts.{bit, tally, SameEntries}
use Rattle.lists.specs.Lists.{runs, elems, passing, all_of, Below}
use Rattle.lists.proofs.Counts.{total_append, total_sum}
use Rattle.lists.proofs.Scans.{both, and_false}
use Rattle.lists.proofs.Fills.{elems_suc, elems_length}
use Rattle.lists.proofs.Parts.{rest_at, rest_more, between_split, between_back}
use Rattle.lists.proofs.Places.{below_more, below_wider, below_at}

module _ {A : Type 0} where
  -- ---- counts

  pub tally_append : (test : A → Bool) (s t : List A) → tally test (s ++ t) ≡ tally test s + tally test t
  tally_append test s t = total_append (λ a. bit (test a)) s t

  -- every entry counted
  pub tally_all : (l : List A) → tally (λ a. true) l ≡ length l
  tally_all [] = refl
  tally_all (a ∷ l) = omega (arith, tally_all l)

  pub tally_most : (test : A → Bool) (l : List A) → tally test l ≤ length l
  tally_most test [] = omega arith
  tally_most test (a ∷ l) = at (test a) (tally_most test l)
    where
      at : (b : Bool) → tally test l ≤ length l → bit b + tally test l ≤ suc (length l)
      at true h = omega arith
      at false h = omega arith

  -- one entry replaced
  pub tally_set : (test : A → Bool) (l : List A) (i : ℕ) (v other : A) → i < length l → tally test (set l i v) + bit (test (get_or l i other)) ≡ tally test l + bit (test v)
  tally_set test [] i v other h = absurd (not-suc-le-zero h)
  tally_set test (a ∷ l) zero v other h = omega arith
  tally_set test (a ∷ l) (suc i) v other h = omega (arith, tally_set test l i v other (le_of_suc-le-suc h))

  -- two entries that change places
  pub tally_swap : (test : A → Bool) (l : List A) (i j : ℕ) (other : A) → i < j → j < length l → tally test (set (set l i (get_or l j other)) j (get_or l i other)) ≡ tally test l
  tally_swap test l i j other h g =
      let kept : get_or (set l i (get_or l j other)) j other ≡ get_or l j other = get_or-set_other l i j (get_or l j other) other (λ e. omega arith) in
      omega (arith, tally_set test l i (get_or l j other) other (omega arith), tally_set test (set l i (get_or l j other)) j (get_or l i other) other (omega (arith, length-set l i (get_or l j other))), ap (λ (a : A). bit (test a)) kept)

  -- lists of the same entries are as long
  pub same_long : (s t : List A) → SameEntries s t → length s ≡ length t
  same_long s t same = sym (tally_all s) ∙ same (λ a. true) ∙ tally_all t

  -- a part, lent as l[at..to], that comes back with the same entries: the list up to its end has them too
  pub same_between : (l : List A) (at to : ℕ) (new : List A) → at ≤ to → to ≤ length l → SameEntries new (take (to - at) (drop at l))
      → SameEntries (take to (take at l ++ (new ++ drop (to - at) (drop at l)))) (take to l)
  same_between l at to new h g same test =
      omega (
        arith,
        ap (tally test) (between_back l at to new h g (same_long new (take (to - at) (drop at l)) same)),
        tally_append test (take at l) new,
        same test,
        tally_append test (take at l) (take (to - at) (drop at l)),
        ap (tally test) (between_split l at to h),
      )

  -- ---- the entries that pass

  module _ (test : A → Bool) where
    pub passing_append : (s t : List A) → passing test (s ++ t) ≡ passing test s ++ passing test t
    passing_append [] t = refl
    passing_append (a ∷ s) t = at (test a) (passing_append s t)
      where
        at : (b : Bool) → passing test (s ++ t) ≡ passing test s ++ passing test t → cond b (a ∷ passing test (s ++ t)) (passing test (s ++ t)) ≡ cond b (a ∷ passing test s) (passing test s) ++ passing test t
        at true e = ap (λ (l : List A). a ∷ l) e
        at false e = e

    -- of those that pass, as many pass another test as pass both
    pub passing_tally : (p : A → Bool) (l : List A) → tally p (passing test l) ≡ tally (λ a. test a && p a) l
    passing_tally p [] = refl
    passing_tally p (a ∷ l) = at (test a) (passing_tally p l)
      where
        at : (b : Bool) → tally p (passing test l) ≡ tally (λ a. test a && p a) l → tally p (cond b (a ∷ passing test l) (passing test l)) ≡ bit (b && p a) + tally (λ a. test a && p a) l
        at true e = omega arith
        at false e = omega arith

    pub passing_length : (l : List A) → length (passing test l) ≡ tally test l
    passing_length [] = refl
    passing_length (a ∷ l) = at (test a) (passing_length l)
      where
        at : (b : Bool) → length (passing test l) ≡ tally test l → length (cond b (a ∷ passing test l) (passing test l)) ≡ bit b + tally test l
        at true e = omega arith
        at false e = omega arith

    pub passing_most : (l : List A) → length (passing test l) ≤ length l
    passing_most l = omega (arith, passing_length l, tally_most test l)

    -- one more entry
    passing_take : (l : List A) (i : ℕ) (other : A) → i < length l → passing test (take (i + 1) l) ≡ passing test (take i l) ++ cond (test (get_or l i other)) (get_or l i other ∷ []) []
    passing_take l i other h =
        ap (λ (n : ℕ). passing test (take n l)) (add-one i) ∙ ap (passing test) (take-suc l i other h) ∙ passing_append (take i l) (get_or l i other ∷ [])

    one_more : (a : A) (l : List A) → passing test (l ++ (a ∷ [])) ≡ passing test l ++ cond (test a) (a ∷ []) []
    one_more a l = passing_append l (a ∷ [])

    -- a turn of a loop over f 0, f 1 and so on: f n passes, and is the next, or does not
    pub passing_more : (f : ℕ → A) (n : ℕ) → test (f n) ≡ true → passing test (elems (n + 1) f) ≡ passing test (elems n f) ++ (f n ∷ [])
    passing_more f n h =
        ap (λ (k : ℕ). passing test (elems k f)) (add-one n) ∙ ap (passing test) (elems_suc f n) ∙ one_more (f n) (elems n f)
        ∙ ap (λ (b : Bool). passing test (elems n f) ++ cond b (f n ∷ []) []) h

    pub passing_skips : (f : ℕ → A) (n : ℕ) → test (f n) ≡ false → passing test (elems (n + 1) f) ≡ passing test (elems n f)
    passing_skips f n h =
        ap (λ (k : ℕ). passing test (elems k f)) (add-one n) ∙ ap (passing test) (elems_suc f n) ∙ one_more (f n) (elems n f)
        ∙ ap (λ (b : Bool). passing test (elems n f) ++ cond b (f n ∷ []) []) h ∙ append-nil (passing test (elems n f))

    -- more places, no fewer that pass
    pub passing_grows : (f : ℕ → A) (m n : ℕ) → m ≤ n → length (passing test (elems m f)) ≤ length (passing test (elems n f))
    unfolding runs elems
    passing_grows f m zero h = let e : m ≡ 0 = omega arith in rw e (omega arith)
    passing_grows f m (suc n) h = at (ltb m (suc n)) refl (passing_grows f m n)
      where
        at : (b : Bool) → ltb m (suc n) ≡ b → (m ≤ n → length (passing test (elems m f)) ≤ length (passing test (elems n f))) → length (passing test (elems m f)) ≤ length (passing test (elems n f ++ (f n ∷ [])))
        at true e less =
            omega (arith, less (omega (arith, ltb-true m (suc n) e)), ap length (passing_append (elems n f) (f n ∷ [])), length-append (passing test (elems n f)) (passing test (f n ∷ [])))
        at false e less = let is : m ≡ suc n = omega (arith, ltb-false m (suc n) e) in rw is (omega arith)

    -- none passes
    pub passing_none : (f : ℕ → A) (n : ℕ) → ((i : ℕ) → i < n → test (f i) ≡ false) → passing test (elems n f) ≡ []
    unfolding runs elems
    passing_none f zero each = refl
    passing_none f (suc n) each =
        ap (λ (k : ℕ). passing test (elems k f)) (sym (add-one n)) ∙ passing_skips f n (each n (omega arith)) ∙ passing_none f n (λ i h. each i (omega arith))

    -- ---- whether all pass

    pub all_of_append : (s t : List A) → all_of test (s ++ t) ≡ (all_of test s && all_of test t)
    all_of_append [] t = refl
    all_of_append (a ∷ s) t = at (test a) (all_of_append s t)
      where
        at : (b : Bool) → all_of test (s ++ t) ≡ (all_of test s && all_of test t) → (b && all_of test (s ++ t)) ≡ ((b && all_of test s) && all_of test t)
        at true e = e
        at false e = refl

    pub all_of_runs : (f : ℕ → List A) (n : ℕ) → ((i : ℕ) → i < n → all_of test (f i) ≡ true) → all_of test (runs n f) ≡ true
    unfolding runs
    all_of_runs f zero each = refl
    all_of_runs f (suc n) each = rw (all_of_append, all_of_runs f n (λ i h. each i (omega arith)), each n (omega arith))

    -- one more entry passes, or one fails
    pub all_of_more : (l : List A) (i : ℕ) (other : A) → i < length l → all_of test (take i l) ≡ true → test (get_or l i other) ≡ true → all_of test (take (i + 1) l) ≡ true
    all_of_more l i other h e t = rw (add-one i, take-suc l i other h, all_of_append (take i l) (get_or l i other ∷ []), e, t)

    pub all_of_fails : (l : List A) (i : ℕ) (other : A) → i < length l → test (get_or l i other) ≡ false → all_of test l ≡ false
    all_of_fails [] i other h t = absurd (not-suc-le-zero h)
    all_of_fails (a ∷ l) zero other h t = rw t
    all_of_fails (a ∷ l) (suc i) other h t = rw (all_of_fails l i other (le_of_suc-le-suc h) t) (and_false (test a))

    -- what holds of every entry holds at each place, and the other way round, and from each place on
    pub all_of_at : (l : List A) (i : ℕ) (other : A) → all_of test l ≡ true → i < length l → test (get_or l i other) ≡ true
    all_of_at [] i other h g = absurd (not-suc-le-zero g)
    all_of_at (a ∷ l) zero other h g = (both (test a) (all_of test l) h).0
    all_of_at (a ∷ l) (suc i) other h g = all_of_at l i other (both (test a) (all_of test l) h).1 (le_of_suc-le-suc g)

    pub all_of_from : (l : List A) (other : A) → ((i : ℕ) → i < length l → test (get_or l i other) ≡ true) → all_of test l ≡ true
    all_of_from [] other each = refl
    all_of_from (a ∷ l) other each = rw (each 0 (omega arith), all_of_from l other (λ i h. each (suc i) (omega arith)))

    pub all_of_drop : (l : List A) (i : ℕ) → all_of test l ≡ true → all_of test (drop i l) ≡ true
    all_of_drop l zero h = h
    all_of_drop [] (suc i) h = refl
    all_of_drop (a ∷ l) (suc i) h = all_of_drop l i (both (test a) (all_of test l) h).1

    -- none fails
    pub all_of_tally : (l : List A) → all_of test l ≡ eqb (tally (λ a. not (test a)) l) 0
    all_of_tally [] = refl
    all_of_tally (a ∷ l) = at (test a) (all_of_tally l)
      where
        at : (b : Bool) → all_of test l ≡ eqb (tally (λ a. not (test a)) l) 0 → (b && all_of test l) ≡ eqb (bit (not b) + tally (λ a. not (test a)) l) 0
        at true e = let z : 0 + tally (λ a. not (test a)) l ≡ tally (λ a. not (test a)) l = omega arith in e ∙ ap (λ (n : ℕ). eqb n 0) (sym z)
        at false e = sym (ne_eqb (1 + tally (λ a. not (test a)) l) 0 (omega arith))

    -- lists of the same entries, in any order
    pub all_of_same : (s t : List A) → ((p : A → Bool) → tally p s ≡ tally p t) → all_of test s ≡ all_of test t
    all_of_same s t same = all_of_tally s ∙ ap (λ (n : ℕ). eqb n 0) (same (λ a. not (test a))) ∙ sym (all_of_tally t)

    pub passing_all : (l : List A) → all_of test (passing test l) ≡ true
    passing_all [] = refl
    passing_all (a ∷ l) = at (test a) refl (passing_all l)
      where
        at : (b : Bool) → test a ≡ b → all_of test (passing test l) ≡ true → all_of test (cond b (a ∷ passing test l) (passing test l)) ≡ true
        at true e h = rw (e, h)
        at false e h = h

    -- what holds of every entry holds of those that pass another test
    pub all_of_passing : (p : A → Bool) (l : List A) → all_of test l ≡ true → all_of test (passing p l) ≡ true
    all_of_passing p [] h = refl
    all_of_passing p (a ∷ l) h =
        let parts = both (test a) (all_of test l) h in
        at (p a) parts.0 (all_of_passing p l parts.1)
      where
        at : (b : Bool) → test a ≡ true → all_of test (passing p l) ≡ true → all_of test (cond b (a ∷ passing p l) (passing p l)) ≡ true
        at true e h = rw (e, h)
        at false e h = h

-- ---- a loop that keeps, in the list itself, the entries that pass: of the first i, they are its first count entries

pub record Sifted {A : Type 0} (test : A → Bool) (l : List A) (i count : ℕ) (now : List A) : Type 0 where
  pub kept : take count now ≡ passing test (take i l)
  pub rest : drop i now ≡ drop i l
  pub most : count ≤ i
  pub long : length now ≡ length l

module _ {A : Type 0} (test : A → Bool) (l : List A) where
  pub sift_start : Sifted test l 0 0 l
  sift_start = record { kept = refl; rest = refl; most = omega arith; long = refl }

  module _ {i count : ℕ} {now : List A} (s : Sifted test l i count now) (other : A) (h : i < length l) where
    -- the entry to test is as it was
    pub sift_at : get_or now i other ≡ get_or l i other
    sift_at = rest_at l now i s.rest other

    pub sift_keeps : test (get_or now i other) ≡ true → Sifted test l (i + 1) (count + 1) (set now count (get_or now i other))
    sift_keeps t =
        let v = get_or now i other in
        let passes : test (get_or l i other) ≡ true = sym (ap test sift_at) ∙ t in
        record {
          kept =
              ap (λ (n : ℕ). take n (set now count v)) (add-one count) ∙ take-suc-set now count v (omega (arith, s.most, s.long))
              ∙ ap (λ (r : List A). r ++ (v ∷ [])) s.kept ∙ ap (λ (a : A). passing test (take i l) ++ (a ∷ [])) sift_at
              ∙ sym (passing_take test l i other h ∙ ap (λ (b : Bool). passing test (take i l) ++ cond b (get_or l i other ∷ []) []) passes);
          rest = drop-set-lt (i + 1) now count v (omega (arith, s.most)) ∙ rest_more l now i s.rest;
          most = omega (arith, s.most);
          long = length-set now count v ∙ s.long;
        }

    pub sift_drops : test (get_or now i other) ≡ false → Sifted test l (i + 1) count now
    sift_drops t =
        let fails : test (get_or l i other) ≡ false = sym (ap test sift_at) ∙ t in
        record {
          kept =
              s.kept
              ∙ sym (passing_take test l i other h ∙ ap (λ (b : Bool). passing test (take i l) ++ cond b (get_or l i other ∷ []) []) fails ∙ append-nil (passing test (take i l)));
          rest = rest_more l now i s.rest;
          most = omega (arith, s.most);
          long = s.long;
        }

-- ---- a loop that adds to the first m entries of a list those of f 0, f 1 and so on that pass: of the first i, all are there

pub record Added {A : Type 0} (test : A → Bool) (f : ℕ → A) (l : List A) (m i count : ℕ) (now : List A) : Type 0 where
  pub are : take count now ≡ take m l ++ passing test (elems i f)
  pub many : count ≡ m + length (passing test (elems i f))
  pub long : length now ≡ length l

module _ {A : Type 0} (test : A → Bool) (f : ℕ → A) (l : List A) (m : ℕ) where
  pub add_start : Added test f l m 0 m l
  unfolding runs elems
  add_start = record { are = sym (append-nil (take m l)); many = omega arith; long = refl }

  module _ {i count : ℕ} {now : List A} (a : Added test f l m i count now) where
    pub add_room : (n : ℕ) → i < n → m + length (passing test (elems n f)) ≤ length l → test (f i) ≡ true → count < length now
    add_room n h room t =
        omega (arith, a.many, a.long, passing_grows test f (i + 1) n (omega arith), ap length (passing_more test f i t), length-append (passing test (elems i f)) (f i ∷ []))

    pub add_keeps : test (f i) ≡ true → count < length now → Added test f l m (i + 1) (count + 1) (set now count (f i))
    add_keeps t room =
        record {
          are =
              ap (λ (n : ℕ). take n (set now count (f i))) (add-one count) ∙ take-suc-set now count (f i) room ∙ ap (λ (r : List A). r ++ (f i ∷ [])) a.are
              ∙ append_assoc (take m l) (passing test (elems i f)) (f i ∷ []) ∙ ap (λ (r : List A). take m l ++ r) (sym (passing_more test f i t));
          many = omega (arith, a.many, ap length (passing_more test f i t), length-append (passing test (elems i f)) (f i ∷ []));
          long = length-set now count (f i) ∙ a.long;
        }

    pub add_drops : test (f i) ≡ false → Added test f l m (i + 1) count now
    add_drops t =
        record {
          are = a.are ∙ ap (λ (r : List A). take m l ++ r) (sym (passing_skips test f i t));
          many = a.many ∙ ap (λ (r : List A). m + length r) (sym (passing_skips test f i t));
          long = a.long;
        }

-- from the entries that pass p, in any order, to those that pass q: the ones of them that pass q, and those that pass q and not p
module _ {A : Type 0} (p q : A → Bool) where
  on : (b s t : Bool) → bit (b && (s && t)) + bit ((s && not b) && t) ≡ bit (s && t)
  on true true true = refl
  on true true false = refl
  on true false t = refl
  on false true true = refl
  on false true false = refl
  on false false t = refl

  pub passing_next : (l all : List A) → SameEntries l (passing p all) → SameEntries (passing q l ++ passing (λ a. q a && not (p a)) all) (passing q all)
  passing_next l all same test =
      omega (
        arith,
        tally_append test (passing q l) (passing (λ a. q a && not (p a)) all),
        passing_tally q test l,
        same (λ a. q a && test a),
        passing_tally p (λ a. q a && test a) all,
        passing_tally (λ a. q a && not (p a)) test all,
        passing_tally q test all,
        total_sum (λ a. bit (p a && (q a && test a))) (λ a. bit ((q a && not (p a)) && test a)) (λ a. bit (q a && test a)) (λ a. on (p a) (q a) (test a)) all,
      )

-- ---- numbers below n

module _ (n : ℕ) where
  pub below_all : (l : List ℕ) → Below n l → all_of (λ k. ltb k n) l ≡ true
  below_all [] b = refl
  below_all (k ∷ l) b = rw (lt-ltb k n b.0, below_all l b.1)

  pub all_below_lem : (l : List ℕ) → all_of (λ k. ltb k n) l ≡ true → Below n l
  all_below_lem [] h = tt
  all_below_lem (k ∷ l) h = let parts = both (ltb k n) (all_of (λ k. ltb k n) l) h in (ltb-true k n parts.0, all_below_lem l parts.1)

  pub below_passing : (test : ℕ → Bool) (l : List ℕ) → Below n l → Below n (passing test l)
  below_passing test l b = all_below_lem (passing test l) (all_of_passing (λ k. ltb k n) test l (below_all l b))

  pub below_same : (s t : List ℕ) → ((p : ℕ → Bool) → tally p s ≡ tally p t) → Below n s → Below n t
  below_same s t same b = all_below_lem t (sym (all_of_same (λ k. ltb k n) s t same) ∙ below_all s b)

pub below_elems : (n : ℕ) → Below n (elems n (λ i. i))
unfolding runs elems
below_elems zero = tt
below_elems (suc n) = below_more (suc n) (elems n (λ i. i)) n (below_wider n (suc n) (elems n (λ i. i)) (omega arith) (below_elems n)) (omega arith)

pub below_passing_elems : (test : ℕ → Bool) (n : ℕ) → Below n (passing test (elems n (λ i. i)))
below_passing_elems test n = below_passing n test (elems n (λ i. i)) (below_elems n)

-- ---- the places that pass, one by one, and that they ascend

-- one more place passes, or does not
pub passing_suc : {A : Type 0} (test : A → Bool) (f : ℕ → A) (n : ℕ) → test (f n) ≡ true → passing test (elems (suc n) f) ≡ passing test (elems n f) ++ (f n ∷ [])
passing_suc test f n h = ap (λ (k : ℕ). passing test (elems k f)) (sym (add-one n)) ∙ passing_more test f n h

pub skipping_suc : {A : Type 0} (test : A → Bool) (f : ℕ → A) (n : ℕ) → test (f n) ≡ false → passing test (elems (suc n) f) ≡ passing test (elems n f)
skipping_suc test f n h = ap (λ (k : ℕ). passing test (elems k f)) (sym (add-one n)) ∙ passing_skips test f n h

-- every entry passes
pub passing_each : {A : Type 0} (test : A → Bool) (f : ℕ → A) (n : ℕ) → ((i : ℕ) → i < n → test (f i) ≡ true) → passing test (elems n f) ≡ elems n f
unfolding runs elems
passing_each test f zero each = refl
passing_each {A} test f (suc n) each =
    passing_suc test f n (each n (omega arith)) ∙ ap (λ (l : List A). l ++ (f n ∷ [])) (passing_each test f n (λ i h. each i (omega arith)))

-- numbers that ascend
abbrev pub Ascends : List ℕ → Type 0
Ascends l = (i j : ℕ) → i < j → j < length l → get_or l i 0 < get_or l j 0

pub ascends_more : (l : List ℕ) (n : ℕ) → Below n l → Ascends l → Ascends (l ++ (n ∷ []))
ascends_more l n b less i j h g =
    let more = length-append l (n ∷ []) in
    let m : j ≤ length l = omega (arith, g, more) in
    let at_i : get_or (l ++ (n ∷ [])) i 0 ≡ get_or l i 0 = get_or-append l (n ∷ []) 0 i (omega arith) in
    ⊎_elim
    (λ (e : j ≡ length l). omega (arith, at_i, get_or_at l n [] 0 j (sym e), below_at n l i b (omega arith)))
    (λ k. omega (arith, at_i, get_or-append l (n ∷ []) 0 j k, less i j h k))
    (eq-or-lt_of_le m)

-- the places that pass
pub passing_ascends : (test : ℕ → Bool) (n : ℕ) → Ascends (passing test (elems n (λ i. i)))
passing_ascends test zero = λ i j h l. absurd (omega (arith, l, passing_most test (elems zero (λ i. i)), elems_length (λ i. i) zero))
passing_ascends test (suc n) = step (test n) refl (passing_ascends test n)
  where
    step : (b : Bool) → test n ≡ b → Ascends (passing test (elems n (λ i. i))) → Ascends (passing test (elems (suc n) (λ i. i)))
    step true t less = subst Ascends (sym (passing_suc test (λ i. i) n t)) (ascends_more (passing test (elems n (λ i. i))) n (below_passing_elems test n) less)
    step false t less = subst Ascends (sym (skipping_suc test (λ i. i) n t)) less
