-- A sort by insertion: the place found, the shift in an array, a turn of the sort; that the result ascends, that the sort is stable and keeps the entries.
-- Nothing is assumed of the order but what a law says.
use mathlib.Core.Path.{◌≡◌, refl, sym, ap, ◌∙◌, subst}
use mathlib.Core.Bool.{Bool, true, false, not, ◌&&◌, ◌||◌, cond}
use mathlib.Core.List.{List, [], ◌∷◌, ◌++◌, map, append-nil, append_assoc}
use Prim.Native.Nat.{ℕ, zero, suc, ◌+◌, ◌-◌, ◌<◌, ◌≤◌}
use native.Mathlib.Nat.{not-suc-le-zero, le_of_suc-le-suc}
use native.Mathlib.Numerals.{add-one}
use native.Mathlib.Omega.{arith}
use lib.Dec.{ltb, eqb}
use lib.ListN.{length, get_or, take, drop, set, length-append, length-drop, length-map, take-append-drop, get_or-map}
use lib.Seq.{length-take-le, drop-cons, take_at, drop_at, take-length, drop-length, get_or-take}
use borrow.Author.Tests.{ltb-true, ltb-false, lt-ltb, le-ltb, ne_eqb}
use Rattle.lists.specs.Counts.{bit, total, tally}
use Rattle.lists.specs.Lists.{runs, elems, passing, all_of, Below}
use Rattle.lists.specs.Sorts.{slot, insert_at, insert_by, sort_onto, sort_by, or_number}
use Rattle.lists.proofs.Counts.{total_append}
use Rattle.lists.proofs.Scans.{both}
use Rattle.lists.proofs.Places.{below_at, below_take, below_drop, below_append, below_wider}
use Rattle.lists.proofs.Passing.{tally_all, all_of_same, below_same, passing_append, passing_more, passing_skips, below_passing_elems}

-- ---- the place found, from the right

module _ (test : ℕ → Bool) where
  pub slot_stay : (k : ℕ) → 0 < k → test (k - 1) ≡ false → slot test k ≡ k
  unfolding slot
  slot_stay zero h e = absurd (not-suc-le-zero h)
  slot_stay (suc k) h e = let q : suc k - 1 ≡ k = omega arith in rw (rw q at e)

  pub slot_left : (k : ℕ) → 0 < k → test (k - 1) ≡ true → slot test k ≡ slot test (k - 1)
  unfolding slot
  slot_left zero h e = absurd (not-suc-le-zero h)
  slot_left (suc k) h e = let q : suc k - 1 ≡ k = omega arith in rw (q, rw q at e)

  pub slot_none : (k : ℕ) → k ≤ 0 → slot test k ≡ k
  unfolding slot
  slot_none zero h = refl
  slot_none (suc k) h = absurd (not-suc-le-zero h)

  -- a search that has come to the start
  pub stops_first : (m k : ℕ) → k ≤ 0 → slot test m ≡ slot test k → k ≡ slot test m
  stops_first m k h all = sym (all ∙ slot_none k h)

  pub slot_most : (n : ℕ) → slot test n ≤ n
  unfolding slot
  slot_most zero = omega arith
  slot_most (suc n) = at (test n) (slot_most n)
    where
      at : (b : Bool) → slot test n ≤ n → cond b (slot test n) (suc n) ≤ suc n
      at true h = omega arith
      at false h = omega arith

  -- the test fails left of it
  pub slot_after : (n k : ℕ) → slot test n ≡ suc k → test k ≡ false
  unfolding slot
  slot_after zero k e = absurd (omega arith)
  slot_after (suc n) k e = at (test n) refl (slot_after n k) e
    where
      at : (b : Bool) → test n ≡ b → (slot test n ≡ suc k → test k ≡ false) → cond b (slot test n) (suc n) ≡ suc k → test k ≡ false
      at true p f e = f e
      at false p f e = let q : n ≡ k = omega arith in rw q at p

  -- and holds from it on
  pub slot_before : (n j : ℕ) → slot test n ≤ j → j < n → test j ≡ true
  unfolding slot
  slot_before zero j h k = absurd (not-suc-le-zero k)
  slot_before (suc n) j h k = at (test n) refl (slot_before n j) h (ltb j n) refl
    where
      at : (b : Bool) → test n ≡ b → (slot test n ≤ j → j < n → test j ≡ true) → cond b (slot test n) (suc n) ≤ j → (d : Bool) → ltb j n ≡ d → test j ≡ true
      at true p f h true t = f h (ltb-true j n t)
      at true p f h false t = let q : n ≡ j = omega (arith, ltb-false j n t) in rw q at p
      at false p f h d t = absurd (omega arith)

  -- one place more on the left: the search comes to the start if it does without that place and the test holds there
  slot_suc : (n : ℕ) → slot test (suc n) ≡ cond (test 0 && eqb (slot (λ k. test (suc k)) n) 0) 0 (suc (slot (λ k. test (suc k)) n))
  unfolding slot
  slot_suc zero = at (test 0)
    where
      at : (b : Bool) → cond {A = ℕ} b 0 1 ≡ cond (b && true) 0 1
      at true = refl
      at false = refl
  slot_suc (suc n) = at (test (suc n)) (slot_suc n)
    where
      none : (b : Bool) → suc (suc n) ≡ cond (b && false) 0 (suc (suc n))
      none true = refl
      none false = refl

      at : (b : Bool) → slot test (suc n) ≡ cond (test 0 && eqb (slot (λ k. test (suc k)) n) 0) 0 (suc (slot (λ k. test (suc k)) n))
          → cond b (slot test (suc n)) (suc (suc n)) ≡ cond (test 0 && eqb (cond b (slot (λ k. test (suc k)) n) (suc n)) 0) 0 (suc (cond b (slot (λ k. test (suc k)) n) (suc n)))
      at true e = e
      at false e = rw (ne_eqb (suc n) 0 (omega arith)) (none (test 0))

-- tests that agree below n find the same place
pub slot_same : (p q : ℕ → Bool) (n : ℕ) → ((i : ℕ) → i < n → p i ≡ q i) → slot p n ≡ slot q n
unfolding slot
slot_same p q zero each = refl
slot_same p q (suc n) each = rw (slot_same p q n (λ i l. each i (omega arith)), each n (omega arith))

module _ {A : Type 0} where
  -- ---- the shift: o with its places j to m - 1 moved one to the right, place j being free

  abbrev pub shifted : List A → ℕ → ℕ → List A
  shifted o m j = take (suc j) o ++ (drop j (take m o) ++ drop (suc m) o)

  pub shift_start : (o : List A) (m : ℕ) → m < length o → o ≡ shifted o m m
  shift_start [] m h = absurd (not-suc-le-zero h)
  shift_start (x ∷ o) zero h = refl
  shift_start (x ∷ o) (suc m) h = ap (λ (l : List A). x ∷ l) (shift_start o m (le_of_suc-le-suc h))

  shift_suc : (o : List A) (m j : ℕ) (z : A) → suc j ≤ m → m < length o → set (shifted o m (suc j)) (suc j) (get_or (shifted o m (suc j)) j z) ≡ shifted o m j
  shift_suc [] m j z h k = absurd (not-suc-le-zero k)
  shift_suc (x ∷ o) zero j z h k = absurd (not-suc-le-zero h)
  shift_suc (x ∷ []) (suc m) zero z h k = absurd (omega arith)
  shift_suc (x ∷ (y ∷ o)) (suc m) zero z h k = refl
  shift_suc (x ∷ o) (suc m) (suc j) z h k = ap (λ (l : List A). x ∷ l) (shift_suc o m j z (le_of_suc-le-suc h) (le_of_suc-le-suc k))

  -- a turn: the entry left of the free place moves into it
  pub shift_left : (o : List A) (m j : ℕ) (z : A) (now : List A) → now ≡ shifted o m j → 0 < j → j ≤ m → m < length o → set now j (get_or now (j - 1) z) ≡ shifted o m (j - 1)
  shift_left o m zero z now e g h k = absurd (not-suc-le-zero g)
  shift_left o m (suc j) z now e g h k = let q : suc j - 1 ≡ j = omega arith in rw (q, e) (shift_suc o m j z h k)

  put_in : (o : List A) (m k : ℕ) (v : A) → k ≤ m → m < length o → take (suc m) (set (shifted o m k) k v) ≡ insert_at k v (take m o)
  put_in [] m k v h g = absurd (not-suc-le-zero g)
  put_in (x ∷ o) m zero v h g = ap (λ (l : List A). v ∷ l) (take_at (take m (x ∷ o)) (drop (suc m) (x ∷ o)) m (length-take-le m (x ∷ o) (omega arith)))
  put_in (x ∷ o) zero (suc k) v h g = absurd (not-suc-le-zero h)
  put_in (x ∷ o) (suc m) (suc k) v h g = ap (λ (l : List A). x ∷ l) (put_in o m k v (le_of_suc-le-suc h) (le_of_suc-le-suc g))

  -- the end: v goes into the free place
  pub shift_end : (o : List A) (m j k : ℕ) (v : A) (now : List A) → now ≡ shifted o m j → j ≡ k → k ≤ m → m < length o → take (m + 1) (set now k v) ≡ insert_at k v (take m o)
  shift_end o m j k v now e q h g = rw (add-one m, e, q) (put_in o m k v h g)

  shifted_suc : (o : List A) (m j : ℕ) (z : A) → suc j ≤ m → m < length o → get_or (shifted o m (suc j)) j z ≡ get_or (take m o) j z
  shifted_suc [] m j z h k = absurd (not-suc-le-zero k)
  shifted_suc (x ∷ o) zero j z h k = absurd (not-suc-le-zero h)
  shifted_suc (x ∷ o) (suc m) zero z h k = refl
  shifted_suc (x ∷ o) (suc m) (suc j) z h k = shifted_suc o m j z (le_of_suc-le-suc h) (le_of_suc-le-suc k)

  -- what stands left of the free place
  pub shifted_at : (o : List A) (m j : ℕ) (z : A) (now : List A) → now ≡ shifted o m j → 0 < j → j ≤ m → m < length o → get_or now (j - 1) z ≡ get_or (take m o) (j - 1) z
  shifted_at o m zero z now e g h k = absurd (not-suc-le-zero g)
  shifted_at o m (suc j) z now e g h k = let q : suc j - 1 ≡ j = omega arith in rw (q, e) (shifted_suc o m j z h k)

  pub shifted_was : (o : List A) (m j : ℕ) (z : A) (now : List A) → now ≡ shifted o m j → 0 < j → j ≤ m → m < length o → get_or now (j - 1) z ≡ get_or o (j - 1) z
  shifted_was o m j z now e g h k = shifted_at o m j z now e g h k ∙ get_or-take m o (j - 1) z (omega arith)

  past_in : (o : List A) (m k : ℕ) (v : A) → k ≤ m → m < length o → drop (suc m) (set (shifted o m k) k v) ≡ drop (suc m) o
  past_in [] m k v h g = absurd (not-suc-le-zero g)
  past_in (x ∷ o) m zero v h g = drop_at (take m (x ∷ o)) (drop (suc m) (x ∷ o)) m (length-take-le m (x ∷ o) (omega arith))
  past_in (x ∷ o) zero (suc k) v h g = absurd (not-suc-le-zero h)
  past_in (x ∷ o) (suc m) (suc k) v h g = past_in o m k v (le_of_suc-le-suc h) (le_of_suc-le-suc g)

  -- what stands past the shift is kept, and so is the length
  pub shift_past : (o : List A) (m j k : ℕ) (v : A) (now : List A) → now ≡ shifted o m j → j ≡ k → k ≤ m → m < length o → drop (m + 1) (set now k v) ≡ drop (m + 1) o
  shift_past o m j k v now e q h g = rw (add-one m, e, q) (past_in o m k v h g)

  pub shifted_length : (o : List A) (m j : ℕ) → j ≤ m → m < length o → length (shifted o m j) ≡ length o
  shifted_length o m j h g =
      omega (arith, length-append (take (suc j) o) (drop j (take m o) ++ drop (suc m) o), length-append (drop j (take m o)) (drop (suc m) o), length-take-le (suc j) o (omega arith), length-drop j (take m o), length-take-le m o (omega arith), length-drop (suc m) o)

  -- ---- the search with the shift, for a test of the entries: its invariant is `slot .. m ≡ slot .. k`

  module _ (test : A → Bool) (o : List A) (m k : ℕ) (z : A) (now : List A) (e : now ≡ shifted o m k) (pos : 0 < k) (in-m : k ≤ m) (room : m < length o)
      (all : slot (λ j. test (get_or (take m o) j z)) m ≡ slot (λ j. test (get_or (take m o) j z)) k) where
    -- it goes on
    pub past_one : test (get_or now (k - 1) z) ≡ true → slot (λ j. test (get_or (take m o) j z)) m ≡ slot (λ j. test (get_or (take m o) j z)) (k - 1)
    past_one t = all ∙ slot_left (λ j. test (get_or (take m o) j z)) k pos (rw (shifted_at o m k z now e pos in-m room) at t)

    -- it ends (at the start: `stops_first`)
    pub stops : test (get_or now (k - 1) z) ≡ false → k ≡ slot (λ j. test (get_or (take m o) j z)) m
    stops t = sym (all ∙ slot_stay (λ j. test (get_or (take m o) j z)) k pos (rw (shifted_at o m k z now e pos in-m room) at t))

  -- ---- a turn of the sort

  -- what is read past the end does not matter below the length
  pub get_or_other : (l : List A) (k : ℕ) (x y : A) → k < length l → get_or l k x ≡ get_or l k y
  get_or_other [] k x y h = absurd (not-suc-le-zero h)
  get_or_other (a ∷ l) zero x y h = refl
  get_or_other (a ∷ l) (suc k) x y h = get_or_other l k x y (le_of_suc-le-suc h)

  module _ (less : A → A → Bool) where
    pub insert_is : (a other : A) (l : List A) → insert_by less a l ≡ insert_at (slot (λ k. less a (get_or l k other)) (length l)) a l
    unfolding insert_by
    insert_is a other l =
        ap (λ (k : ℕ). insert_at k a l)
        (slot_same (λ k. less a (get_or l k a)) (λ k. less a (get_or l k other)) (length l) (λ i h. ap (less a) (get_or_other l i a other h)))

    -- the search comes to the start if a must stand before all
    slot_all : (a : A) (l : List A) → eqb (slot (λ k. less a (get_or l k a)) (length l)) 0 ≡ all_of (less a) l
    unfolding slot
    slot_all a [] = refl
    slot_all a (x ∷ l) =
        ap (λ (n : ℕ). eqb n 0) (slot_suc (λ k. less a (get_or (x ∷ l) k a)) (length l))
        ∙ at (less a x && eqb (slot (λ k. less a (get_or l k a)) (length l)) 0) (slot (λ k. less a (get_or l k a)) (length l))
        ∙ ap (λ (b : Bool). less a x && b) (slot_all a l)
      where
        at : (b : Bool) (n : ℕ) → eqb (cond b 0 (suc n)) 0 ≡ b
        at true n = refl
        at false n = ne_eqb (suc n) 0 (omega arith)

    -- a put into a list by its first entry
    pub insert_cons : (a x : A) (l : List A) → insert_by less a (x ∷ l) ≡ cond (all_of (less a) (x ∷ l)) (a ∷ x ∷ l) (x ∷ insert_by less a l)
    unfolding insert_by
    insert_cons a x l =
        let k = slot (λ k. less a (get_or l k a)) (length l) in
        ap (λ (n : ℕ). insert_at n a (x ∷ l)) (slot_suc (λ k. less a (get_or (x ∷ l) k a)) (length l))
        ∙ at (less a x && eqb k 0) k
        ∙ ap (λ (b : Bool). cond (less a x && b) (a ∷ x ∷ l) (x ∷ insert_at k a l)) (slot_all a l)
      where
        at : (b : Bool) (n : ℕ) → insert_at (cond b 0 (suc n)) a (x ∷ l) ≡ cond b (a ∷ x ∷ l) (x ∷ insert_at n a l)
        at true n = refl
        at false n = refl

    pub sort_start : (l : List A) → sort_by less l ≡ sort_onto less (take 0 l) (drop 0 l)
    sort_start l = refl

    -- a, the first of the entries that are left, goes to its place
    pub sort_more : (all l rest now : List A) (a other : A) → all ≡ sort_onto less l (a ∷ rest) → now ≡ insert_at (slot (λ k. less a (get_or l k other)) (length l)) a l → all ≡ sort_onto less now rest
    unfolding sort_onto
    sort_more all l rest now a other e is = e ∙ ap (λ (t : List A). sort_onto less t rest) (insert_is a other l ∙ sym is)

    -- the same in an array whose first i entries are sorted: entry i goes to place k, and what is past it is kept
    pub sort_turn : (all o now : List A) (i k : ℕ) (other : A) → i < length o → all ≡ sort_onto less (take i o) (drop i o)
        → k ≡ slot (λ j. less (get_or o i other) (get_or (take i o) j other)) i
        → take (i + 1) now ≡ insert_at k (get_or o i other) (take i o) → drop (i + 1) now ≡ drop (i + 1) o
        → all ≡ sort_onto less (take (i + 1) now) (drop (i + 1) now)
    sort_turn all o now i k other h e is new kept =
        let long : length (take i o) ≡ i = length-take-le i o (omega arith) in
        let cut : drop i o ≡ get_or o i other ∷ drop (i + 1) o = drop-cons o i other h ∙ ap (λ (n : ℕ). get_or o i other ∷ drop n o) (sym (add-one i)) in
        sort_more all (take i o) (drop (i + 1) o) (take (i + 1) now) (get_or o i other) other
        (e ∙ ap (sort_onto less (take i o)) cut)
        (new ∙ ap (λ (n : ℕ). insert_at n (get_or o i other) (take i o)) (is ∙ ap (slot (λ j. less (get_or o i other) (get_or (take i o) j other))) (sym long)))
        ∙ ap (sort_onto less (take (i + 1) now)) (sym kept)

    pub sort_end : (all now : List A) (i : ℕ) → all ≡ sort_onto less (take i now) (drop i now) → i ≡ length now → now ≡ all
    unfolding sort_onto
    sort_end all now i e h = sym (e ∙ rw (h, drop-length, take-length))

    -- the same for a list that is read from and an array that is written: the first i entries of l stand sorted in o
    pub copy_turn : (l o now : List A) (i k : ℕ) (other : A) → i < length l → i ≤ length o → sort_by less l ≡ sort_onto less (take i o) (drop i l)
        → k ≡ slot (λ j. less (get_or l i other) (get_or (take i o) j other)) i
        → take (i + 1) now ≡ insert_at k (get_or l i other) (take i o)
        → sort_by less l ≡ sort_onto less (take (i + 1) now) (drop (i + 1) l)
    copy_turn l o now i k other h g e is new =
        let long : length (take i o) ≡ i = length-take-le i o g in
        let cut : drop i l ≡ get_or l i other ∷ drop (i + 1) l = drop-cons l i other h ∙ ap (λ (n : ℕ). get_or l i other ∷ drop n l) (sym (add-one i)) in
        sort_more (sort_by less l) (take i o) (drop (i + 1) l) (take (i + 1) now) (get_or l i other) other
        (e ∙ ap (sort_onto less (take i o)) cut)
        (new ∙ ap (λ (n : ℕ). insert_at n (get_or l i other) (take i o)) (is ∙ ap (slot (λ j. less (get_or l i other) (get_or (take i o) j other))) (sym long)))

    pub copy_end : (l o : List A) (i : ℕ) → sort_by less l ≡ sort_onto less (take i o) (drop i l) → i ≡ length l → take (length l) o ≡ sort_by less l
    unfolding sort_onto
    copy_end l o i e h = sym (e ∙ rw (h, drop-length))

    -- a list that is sorted as it grows: the last entry put in
    onto_append : (l s t : List A) → sort_onto less l (s ++ t) ≡ sort_onto less (sort_onto less l s) t
    unfolding sort_onto
    onto_append l [] t = refl
    onto_append l (a ∷ s) t = onto_append (insert_by less a l) s t

    pub sort_last : (l : List A) (a : A) → sort_by less (l ++ (a ∷ [])) ≡ insert_by less a (sort_by less l)
    unfolding sort_onto
    sort_last l a = onto_append [] l (a ∷ [])

    -- a turn of the loop that keeps the first m entries of an array sorted: a goes to place k
    pub grow_turn : (l o now : List A) (a other : A) (m k : ℕ) → m ≤ length o → take m o ≡ sort_by less l
        → k ≡ slot (λ j. less a (get_or (take m o) j other)) m
        → take (m + 1) now ≡ insert_at k a (take m o)
        → take (m + 1) now ≡ sort_by less (l ++ (a ∷ []))
    grow_turn l o now a other m k h e is new =
        let long : length (take m o) ≡ m = length-take-le m o h in
        new
        ∙ ap (λ (n : ℕ). insert_at n a (take m o)) (is ∙ ap (slot (λ j. less a (get_or (take m o) j other))) (sym long))
        ∙ sym (insert_is a other (take m o)) ∙ ap (insert_by less a) e ∙ sym (sort_last l a)

    -- ---- the same entries, in another order

    insert_total : (f : A → ℕ) (k : ℕ) (a : A) (l : List A) → total f (insert_at k a l) ≡ f a + total f l
    insert_total f k a l =
        omega (arith, total_append f (take k l) (a ∷ drop k l), total_append f (take k l) (drop k l), ap (total f) (take-append-drop k l))

    onto_total : (f : A → ℕ) (l r : List A) → total f (sort_onto less l r) ≡ total f l + total f r
    unfolding sort_onto insert_by
    onto_total f l [] = omega arith
    onto_total f l (a ∷ r) =
        omega (arith, onto_total f (insert_by less a l) r, insert_total f (slot (λ k. less a (get_or l k a)) (length l)) a l)

    pub sort_total : (f : A → ℕ) (l : List A) → total f (sort_by less l) ≡ total f l
    sort_total f l = omega (arith, onto_total f [] l)

    pub sort_tally : (test : A → Bool) (l : List A) → tally test (sort_by less l) ≡ tally test l
    sort_tally test l = sort_total (λ a. bit (test a)) l

    pub sort_length : (l : List A) → length (sort_by less l) ≡ length l
    sort_length l = sym (tally_all (sort_by less l)) ∙ sort_tally (λ a. true) l ∙ tally_all l

    pub sort_all : (test : A → Bool) (l : List A) → all_of test (sort_by less l) ≡ all_of test l
    sort_all test l = all_of_same test (sort_by less l) l (λ p. sort_tally p l)

    pub insert_all : (test : A → Bool) (a : A) (l : List A) → all_of test (insert_by less a l) ≡ (test a && all_of test l)
    unfolding insert_by
    insert_all test a l =
        all_of_same test (insert_by less a l) (a ∷ l) (λ p. insert_total (λ x. bit (p x)) (slot (λ k. less a (get_or l k a)) (length l)) a l)

    pub onto_all : (test : A → Bool) (l r : List A) → all_of test l ≡ true → all_of test r ≡ true → all_of test (sort_onto less l r) ≡ true
    unfolding sort_onto
    onto_all test l [] h g = h
    onto_all test l (a ∷ r) h g =
        let parts = both (test a) (all_of test r) g in
        onto_all test (insert_by less a l) r (insert_all test a l ∙ rw (parts.0, h)) parts.1

pub sort_below : (less : ℕ → ℕ → Bool) (n : ℕ) (l : List ℕ) → Below n l → Below n (sort_by less l)
sort_below less n l b = below_same n l (sort_by less l) (λ p. sym (sort_tally less p l)) b

-- ---- the search with the shift over two lists at once, for a test of an entry of each

module _ {A B : Type 0} (test : A → B → Bool) (o : List A) (p : List B) (m k : ℕ) (y : A) (z : B) (now : List A) (with : List B) (e : now ≡ shifted o m k) (f : with ≡ shifted p m k) (pos : 0 < k)
    (in-m : k ≤ m) (room : m < length o) (space : m < length p) (all : slot (λ j. test (get_or o j y) (get_or p j z)) m ≡ slot (λ j. test (get_or o j y) (get_or p j z)) k) where
  was : test (get_or now (k - 1) y) (get_or with (k - 1) z) ≡ test (get_or o (k - 1) y) (get_or p (k - 1) z)
  was = rw (shifted_was o m k y now e pos in-m room, shifted_was p m k z with f pos in-m space)

  -- it goes on
  pub past_two : test (get_or now (k - 1) y) (get_or with (k - 1) z) ≡ true → slot (λ j. test (get_or o j y) (get_or p j z)) m ≡ slot (λ j. test (get_or o j y) (get_or p j z)) (k - 1)
  past_two t = all ∙ slot_left (λ j. test (get_or o j y) (get_or p j z)) k pos (sym was ∙ t)

  -- it ends
  pub stops_two : test (get_or now (k - 1) y) (get_or with (k - 1) z) ≡ false → k ≡ slot (λ j. test (get_or o j y) (get_or p j z)) m
  stops_two t = sym (all ∙ slot_stay (λ j. test (get_or o j y) (get_or p j z)) k pos (sym was ∙ t))

-- ---- a list of keys kept beside: the first i keys are those of the first i entries

module _ {A B : Type 0} (key : A → B) where
  pub key_at_lem : (l : List A) (keys : List B) (i j : ℕ) (y : A) (z : B) → take i keys ≡ map key (take i l) → j < i → i ≤ length l → get_or keys j z ≡ key (get_or l j y)
  key_at_lem l keys i j y z e h g =
      sym (get_or-take i keys j z h) ∙ ap (λ (t : List B). get_or t j z) e
      ∙ get_or_other (map key (take i l)) j z (key y) (omega (arith, length-map (take i l) key, length-take-le i l g))
      ∙ get_or-map key (take i l) j y ∙ ap key (get_or-take i l j y h)

  map_in : (k : ℕ) (a : A) (l : List A) → map key (insert_at k a l) ≡ insert_at k (key a) (map key l)
  map_in zero a l = refl
  map_in (suc k) a [] = refl
  map_in (suc k) a (x ∷ l) = ap (λ (t : List B). key x ∷ t) (map_in k a l)

  -- an entry and its key put in at one place
  pub keys_more : (l now : List A) (a : A) (keys new : List B) (k : ℕ) → keys ≡ map key l → now ≡ insert_at k a l → new ≡ insert_at k (key a) keys → new ≡ map key now
  keys_more l now a keys new k e is in-keys = in-keys ∙ ap (insert_at k (key a)) e ∙ sym (map_in k a l) ∙ ap (map key) (sym is)

-- ---- a list, and the same with an entry y put in behind one like it

pub data Doubled {A : Type 0} (Like : A → A → Type 0) : List A → List A → Type 0 where
  here : (z y : A) (l : List A) → Like z y → Doubled Like (z ∷ l) (z ∷ y ∷ l)
  there : (x : A) (a b : List A) → Doubled Like a b → Doubled Like (x ∷ a) (x ∷ b)

-- behind place k
pub doubled_at : {A : Type 0} (Like : A → A → Type 0) (l : List A) (k : ℕ) (y other : A) → k < length l → Like (get_or l k other) y → Doubled Like l (insert_at (suc k) y l)
doubled_at Like [] k y other h e = absurd (not-suc-le-zero h)
doubled_at Like (z ∷ l) zero y other h e = here z y l e
doubled_at Like (x ∷ l) (suc k) y other h e = there x l (insert_at (suc k) y l) (doubled_at Like l k y other (le_of_suc-le-suc h) e)

-- an order that does not tell y from one like it
module _ {A : Type 0} (less : A → A → Bool) (Like : A → A → Type 0) (alike : (z y w : A) → Like z y → less w z ≡ less w y) where
  doubled_all : (w : A) {a b : List A} → Doubled Like a b → all_of (less w) a ≡ all_of (less w) b
  doubled_all w (here z y l e) = rw (alike z y w e) (at (less w y) (all_of (less w) l))
    where
      at : (p q : Bool) → (p && q) ≡ (p && (p && q))
      at true q = refl
      at false q = refl
  doubled_all w (there x a b d) = ap (λ (t : Bool). less w x && t) (doubled_all w d)

  insert_doubled : (w : A) {a b : List A} → Doubled Like a b → Doubled Like (insert_by less w a) (insert_by less w b)
  insert_doubled w (here z y l e) =
      rw (insert_cons less w z l, insert_cons less w z (y ∷ l), insert_cons less w y l, alike z y w e) (at (less w y) (all_of (less w) l))
    where
      at : (p q : Bool) → Doubled Like (cond (p && q) (w ∷ z ∷ l) (z ∷ insert_by less w l)) (cond (p && (p && q)) (w ∷ z ∷ y ∷ l) (z ∷ cond (p && q) (w ∷ y ∷ l) (y ∷ insert_by less w l)))
      at true true = there w (z ∷ l) (z ∷ y ∷ l) (here z y l e)
      at true false = here z y (insert_by less w l) e
      at false q = here z y (insert_by less w l) e
  insert_doubled w (there x a b d) =
      rw (insert_cons less w x a, insert_cons less w x b, doubled_all w d) (at (less w x && all_of (less w) b) (insert_doubled w d))
    where
      at : (t : Bool) → Doubled Like (insert_by less w a) (insert_by less w b) → Doubled Like (cond t (w ∷ x ∷ a) (x ∷ insert_by less w a)) (cond t (w ∷ x ∷ b) (x ∷ insert_by less w b))
      at true f = there w (x ∷ a) (x ∷ b) (there x a b d)
      at false f = there x (insert_by less w a) (insert_by less w b) f

  -- it stays so while a sort goes on
  pub onto_doubled : (rest : List A) {a b : List A} → Doubled Like a b → Doubled Like (sort_onto less a rest) (sort_onto less b rest)
  unfolding sort_onto
  onto_doubled [] d = d
  onto_doubled (w ∷ rest) d = onto_doubled rest (insert_doubled w d)

-- ---- the result ascends: no entry must stand before its left neighbour

module _ {A : Type 0} (less : A → A → Bool) where
  abbrev pub AscendingFrom : A → List A → Type 0
  AscendingFrom p [] = Unit
  AscendingFrom p (y ∷ l) = (less y p ≡ false) × AscendingFrom y l

  abbrev pub Ascending : List A → Type 0
  Ascending [] = Unit
  Ascending (y ∷ l) = AscendingFrom y l

module _ {A : Type 0} (less : A → A → Bool) (one_way : (a b : A) → less a b ≡ true → less b a ≡ false) where
  in_from : (a p other : A) (l : List A) (k : ℕ) → AscendingFrom less p l → k ≤ length l → less a (get_or (p ∷ l) k other) ≡ false → (k < length l → less (get_or l k other) a ≡ false) → AscendingFrom less p (insert_at k a l)
  in_from a p other [] zero up h f g = (f, tt)
  in_from a p other [] (suc k) up h f g = absurd (not-suc-le-zero h)
  in_from a p other (y ∷ l) zero up h f g = (f, (g (omega arith), up.1))
  in_from a p other (y ∷ l) (suc k) up h f g = (up.0, in_from a y other l k up.1 (le_of_suc-le-suc h) f (λ q. g (omega arith)))

  in_at : (a : A) (l : List A) (k : ℕ) → k ≡ slot (λ j. less a (get_or l j a)) (length l) → Ascending less l → Ascending less (insert_at k a l)
  in_at a [] zero e up = tt
  in_at a [] (suc k) e up = tt
  in_at a (p ∷ l) zero e up = (one_way a p (slot_before (λ j. less a (get_or (p ∷ l) j a)) (suc (length l)) 0 (omega arith) (omega arith)), up)
  in_at a (p ∷ l) (suc k) e up =
      let test : ℕ → Bool = λ j. less a (get_or (p ∷ l) j a) in
      let m = slot_most test (suc (length l)) in
      in_from a p a l k up (omega arith) (slot_after test (suc (length l)) k (sym e)) (λ q. one_way a (get_or l k a) (slot_before test (suc (length l)) (suc k) (omega arith) (omega arith)))

  onto_ascends : (l r : List A) → Ascending less l → Ascending less (sort_onto less l r)
  unfolding sort_onto insert_by
  onto_ascends l [] up = up
  onto_ascends l (a ∷ r) up = onto_ascends (insert_by less a l) r (in_at a l (slot (λ j. less a (get_or l j a)) (length l)) refl up)

  pub ascends : (l : List A) → Ascending less (sort_by less l)
  ascends l = onto_ascends [] l tt

-- ---- the sort is stable: entries of which none must stand before another keep their order

module _ {A : Type 0} (less : A → A → Bool) (p : A → Bool) (alike : (a b : A) → p a ≡ true → p b ≡ true → less a b ≡ false) where
  -- a must stand before all in l
  abbrev Past : A → List A → Type 0
  Past a [] = Unit
  Past a (y ∷ l) = (less a y ≡ true) × Past a l

  none_passes : (a : A) (l : List A) → p a ≡ true → Past a l → passing p l ≡ []
  none_passes a [] e q = refl
  none_passes a (y ∷ l) e q = at (p y) refl (none_passes a l e q.1)
    where
      at : (b : Bool) → p y ≡ b → passing p l ≡ [] → cond b (y ∷ passing p l) (passing p l) ≡ []
      at true t f =
          let z : ◌≡◌ {A = Bool} true false = sym q.0 ∙ alike a y e t in
          let w : ◌≡◌ {A = ℕ} 0 1 = cc in absurd (omega arith)
      at false t f = f

  in_passing : (k : ℕ) (a : A) (l : List A) → Past a (drop k l) → passing p (insert_at k a l) ≡ passing p l ++ passing p (a ∷ [])
  in_passing zero a l q = at (p a) refl
    where
      at : (b : Bool) → p a ≡ b → cond b (a ∷ passing p l) (passing p l) ≡ passing p l ++ cond b (a ∷ []) []
      at true t = rw (none_passes a l t q)
      at false t = sym (append-nil (passing p l))
  in_passing (suc k) a [] q = refl
  in_passing (suc k) a (x ∷ l) q = at (p x) (in_passing k a l q)
    where
      at : (b : Bool) → passing p (insert_at k a l) ≡ passing p l ++ passing p (a ∷ []) → cond b (x ∷ passing p (insert_at k a l)) (passing p (insert_at k a l)) ≡ cond b (x ∷ passing p l) (passing p l) ++ passing p (a ∷ [])
      at true f = ap (λ (r : List A). x ∷ r) f
      at false f = f

  past_all : (a other : A) (l : List A) (k : ℕ) → ((j : ℕ) → k ≤ j → j < length l → less a (get_or l j other) ≡ true) → Past a (drop k l)
  past_all a other [] zero f = tt
  past_all a other [] (suc k) f = tt
  past_all a other (y ∷ l) zero f = (f 0 (omega arith) (omega arith), past_all a other l 0 (λ j u v. f (suc j) (omega arith) (omega arith)))
  past_all a other (y ∷ l) (suc k) f = past_all a other l k (λ j u v. f (suc j) (omega arith) (omega arith))

  onto_stable : (l r : List A) → passing p (sort_onto less l r) ≡ passing p l ++ passing p r
  unfolding sort_onto insert_by
  onto_stable l [] = sym (append-nil (passing p l))
  onto_stable l (a ∷ r) =
      let test : ℕ → Bool = λ j. less a (get_or l j a) in
      let k = slot test (length l) in
      onto_stable (insert_by less a l) r
      ∙ ap (λ (t : List A). t ++ passing p r) (in_passing k a l (past_all a a l k (λ j u v. slot_before test (length l) j u v)))
      ∙ append_assoc (passing p l) (passing p (a ∷ [])) (passing p r)
      ∙ ap (λ (t : List A). passing p l ++ t) (sym (passing_append p (a ∷ []) r))

  pub stable : (l : List A) → passing p (sort_by less l) ≡ passing p l
  stable l = onto_stable [] l

-- ---- numbers

-- each number is more than the one before it, and the first is at least n
abbrev pub RisingFrom : ℕ → List ℕ → Type 0
RisingFrom n [] = Unit
RisingFrom n (a ∷ l) = (n ≤ a) × RisingFrom (suc a) l

abbrev pub Rising : List ℕ → Type 0
Rising l = RisingFrom 0 l

rising_more : (k n : ℕ) (l : List ℕ) → k ≤ n → RisingFrom k l → Below n l → RisingFrom k (l ++ (n ∷ []))
rising_more k n [] h r b = (h, tt)
rising_more k n (a ∷ l) h r b = (r.0, rising_more (suc a) n l b.0 r.1 b.1)

pub rising_passing : (test : ℕ → Bool) (n : ℕ) → Rising (passing test (elems n (λ i. i)))
unfolding runs elems
rising_passing test zero = tt
rising_passing test (suc n) = subst (λ (k : ℕ). Rising (passing test (elems k (λ i. i)))) (add-one n) (at (test n) refl (rising_passing test n))
  where
    at : (b : Bool) → test n ≡ b → Rising (passing test (elems n (λ i. i))) → Rising (passing test (elems (n + 1) (λ i. i)))
    at true e r =
        subst Rising (sym (passing_more test (λ i. i) n e)) (rising_more 0 n (passing test (elems n (λ i. i))) (omega arith) r (below_passing_elems test n))
    at false e r = subst Rising (sym (passing_skips test (λ i. i) n e)) r

module _ (less : ℕ → ℕ → Bool) where
  -- of a number and one that is smaller
  tied_is : (a x : ℕ) → x < a → or_number less a x ≡ less a x
  tied_is a x h = at (less a x) (not (less x a)) (ltb a x) (le-ltb a x (omega arith))
    where
      at : (b c d : Bool) → d ≡ false → (b || (c && d)) ≡ b
      at true c d e = refl
      at false true d e = e
      at false false d e = refl

  onto_tied : (n : ℕ) (l s : List ℕ) → Below n l → RisingFrom n s → sort_onto (or_number less) l s ≡ sort_onto less l s
  unfolding sort_onto insert_by
  onto_tied n l [] b r = refl
  onto_tied n l (a ∷ s) b r =
      let k = slot (λ j. less a (get_or l j a)) (length l) in
      let same : insert_by (or_number less) a l ≡ insert_by less a l =
      ap (λ (i : ℕ). insert_at i a l)
      (slot_same (λ j. or_number less a (get_or l j a)) (λ j. less a (get_or l j a)) (length l)
      (λ j h. tied_is a (get_or l j a) (omega (arith, below_at n l j b h, get_or_other l j a 0 h, r.0)))) in
      ap (λ (t : List ℕ). sort_onto (or_number less) t s) same
      ∙ onto_tied (suc a) (insert_by less a l) s
      (below_append (suc a) (take k l) (a ∷ drop k l) (below_take (suc a) l k (wide b))
      (omega arith, below_drop (suc a) l k (wide b)))
      r.1
    where
      wide : Below n l → Below (suc a) l
      wide b = below_wider n (suc a) l (omega (arith, r.0)) b

  -- numbers that rise need no rule for ties: the sort keeps their order
  pub sort_tied : (s : List ℕ) → Rising s → sort_by (or_number less) s ≡ sort_by less s
  sort_tied s r = onto_tied 0 [] s tt r

-- an order in which no two numbers that pass a test are tied: a sort depends on how often each number is there, and on nothing else
module _ (less : ℕ → ℕ → Bool) (q : ℕ → Bool) (one_way : (a b : ℕ) → less a b ≡ true → less b a ≡ false)
    (chain : (a b c : ℕ) → q a ≡ true → q b ≡ true → q c ≡ true → less a b ≡ true → less b c ≡ true → less a c ≡ true)
    (tied : (a b : ℕ) → q a ≡ true → q b ≡ true → less a b ≡ false → less b a ≡ false → a ≡ b) where
  itself : (a : ℕ) → less a a ≡ false
  itself a = at (less a a) refl
    where
      at : (b : Bool) → less a a ≡ b → b ≡ false
      at true e = sym e ∙ one_way a a e
      at false e = refl

  back : (a b c : ℕ) → q a ≡ true → q b ≡ true → q c ≡ true → less b a ≡ false → less c b ≡ false → less c a ≡ false
  back a b c A B C h g = at (less c a) (less a b) refl refl
    where
      at : (x y : Bool) → less c a ≡ x → less a b ≡ y → x ≡ false
      at false y e f = refl
      at true true e f = sym (chain c a b C A B e f) ∙ g
      at true false e f = let is : a ≡ b = tied a b A B f h in sym e ∙ ap (less c) is ∙ g

  none_lower : (a p : ℕ) (l : List ℕ) → q a ≡ true → q p ≡ true → all_of q l ≡ true → less p a ≡ false → AscendingFrom less p l → tally (λ x. less x a) l ≡ 0
  none_lower a p [] A P Q h up = refl
  none_lower a p (y ∷ l) A P Q h up =
      let parts = both (q y) (all_of q l) Q in
      let low : less y a ≡ false = back a p y A P parts.0 h up.0 in
      omega (arith, ap bit low, none_lower a y l A parts.0 parts.1 low up.1)

  -- the first number of one list must not stand before that of the other
  heads : (a b : ℕ) (l m : List ℕ) → q a ≡ true → all_of q l ≡ true → AscendingFrom less a l → ((test : ℕ → Bool) → tally test (a ∷ l) ≡ tally test (b ∷ m)) → less b a ≡ false
  heads a b l m A Q up same =
      at (less b a) (omega (arith, same (λ x. less x a), ap bit (itself a), none_lower a a l A A Q (itself a) up))
    where
      at : (x : Bool) → bit x ≡ 0 → x ≡ false
      at true e = absurd (omega arith)
      at false e = refl

  pub ascending_same : (s t : List ℕ) → all_of q s ≡ true → all_of q t ≡ true → Ascending less s → Ascending less t → ((test : ℕ → Bool) → tally test s ≡ tally test t) → s ≡ t
  ascending_same [] [] Q R up vp same = refl
  ascending_same [] (b ∷ t) Q R up vp same = let e : 0 ≡ 1 + tally (λ x. true) t = same (λ x. true) in absurd (omega arith)
  ascending_same (a ∷ s) [] Q R up vp same = let e : 1 + tally (λ x. true) s ≡ 0 = same (λ x. true) in absurd (omega arith)
  ascending_same (a ∷ s) (b ∷ t) Q R up vp same =
      let A = both (q a) (all_of q s) Q in
      let B = both (q b) (all_of q t) R in
      let is : a ≡ b = tied a b A.0 B.0 (heads b a t s B.0 B.1 vp (λ test. sym (same test))) (heads a b s t A.0 A.1 up same) in
      let rest : s ≡ t = ascending_same s t A.1 B.1 (tail a s up) (tail b t vp) (λ test. let e = same test in omega (arith, ap (λ (x : ℕ). bit (test x)) is)) in
      ap (λ (x : ℕ). x ∷ s) is ∙ ap (λ (l : List ℕ). b ∷ l) rest
    where
      tail : (a : ℕ) (l : List ℕ) → AscendingFrom less a l → Ascending less l
      tail a [] up = tt
      tail a (y ∷ l) up = up.1

  pub sort_same : (s t : List ℕ) → all_of q s ≡ true → all_of q t ≡ true → ((test : ℕ → Bool) → tally test s ≡ tally test t) → sort_by less s ≡ sort_by less t
  sort_same s t Q R same =
      ascending_same (sort_by less s) (sort_by less t) (sort_all less q s ∙ Q) (sort_all less q t ∙ R) (ascends less one_way s) (ascends less one_way t)
      (λ test. sort_tally less test s ∙ same test ∙ sym (sort_tally less test t))

-- an order that may tie, on the numbers that pass a test: ties broken by number
module _ (less : ℕ → ℕ → Bool) (q : ℕ → Bool) (one_way : (a b : ℕ) → less a b ≡ true → less b a ≡ false)
    (back : (a b c : ℕ) → q a ≡ true → q b ≡ true → q c ≡ true → less b a ≡ false → less c b ≡ false → less c a ≡ false) where
  number_one_way : (a b : ℕ) → or_number less a b ≡ true → or_number less b a ≡ false
  number_one_way a b h = at (less a b) (less b a) (ltb a b) (ltb b a) (one_way a b) (λ e. le-ltb b a (omega (arith, ltb-true a b e))) h
    where
      at : (x y u v : Bool) → (x ≡ true → y ≡ false) → (u ≡ true → v ≡ false) → (x || (not y && u)) ≡ true → (y || (not x && v)) ≡ false
      at true true u v f g h = f refl
      at true false u v f g h = refl
      at false true u v f g h = sym h
      at false false u v f g h = g h

  number_tied : (a b : ℕ) → or_number less a b ≡ false → or_number less b a ≡ false → a ≡ b
  number_tied a b h g = at (less a b) (less b a) (ltb a b) (ltb b a) refl refl h g
    where
      at : (x y u v : Bool) → ltb a b ≡ u → ltb b a ≡ v → (x || (not y && u)) ≡ false → (y || (not x && v)) ≡ false → a ≡ b
      at true y u v e f h g = let z : ◌≡◌ {A = Bool} true false = h in let w : ◌≡◌ {A = ℕ} 0 1 = cc in absurd (omega arith)
      at false true u v e f h g = let z : ◌≡◌ {A = Bool} true false = g in let w : ◌≡◌ {A = ℕ} 0 1 = cc in absurd (omega arith)
      at false false u v e f h g = omega (arith, ltb-false a b (e ∙ h), ltb-false b a (f ∙ g))

  number_chain : (a b c : ℕ) → q a ≡ true → q b ≡ true → q c ≡ true → or_number less a b ≡ true → or_number less b c ≡ true → or_number less a c ≡ true
  number_chain a b c A B C h g = at (less a c) (less a b) (less b a) (less b c) (less c b) refl refl refl refl refl h g
    where
      clash : {X : Type 0} {x : Bool} → x ≡ true → x ≡ false → X
      clash e f = let w : ◌≡◌ {A = ℕ} 0 1 = cc in absurd (omega arith)

      at : (w x y u v : Bool) → less a c ≡ w → less a b ≡ x → less b a ≡ y → less b c ≡ u → less c b ≡ v → (x || (not y && ltb a b)) ≡ true → (u || (not v && ltb b c)) ≡ true → (w || (not (less c a) && ltb a c)) ≡ true
      at true x y u v ac ab ba bc cb h g = refl
      at false true y true v ac ab ba bc cb h g = clash bc (back c a b C A B ac (one_way a b ab))
      at false true y false true ac ab ba bc cb h g = clash g refl
      at false true y false false ac ab ba bc cb h g = clash ab (back b c a B C A cb ac)
      at false false true u v ac ab ba bc cb h g = clash h refl
      at false false false true v ac ab ba bc cb h g = clash bc (back c a b C A B ac ba)
      at false false false false true ac ab ba bc cb h g = clash g refl
      at false false false false false ac ab ba bc cb h g =
          let e : less c a ≡ false = back a b c A B C ba cb in
          let f : ltb a c ≡ true = lt-ltb a c (omega (arith, ltb-true a b h, ltb-true b c g)) in
          rw (e, f)

  pub sort_by_number : (l s : List ℕ) → Rising s → ((test : ℕ → Bool) → tally test l ≡ tally test s) → all_of q s ≡ true → sort_by (or_number less) l ≡ sort_by less s
  sort_by_number l s r same Q =
      sort_same (or_number less) q number_one_way number_chain (λ a b A B h g. number_tied a b h g) l s (all_of_same q l s same ∙ Q) Q same ∙ sort_tied less s r
