-- Cleaning, turn by turn: the loop over the points, how it ends, and the call's answer. Assumes nothing.
use mathlib.Core.Path.{◌≡◌, refl, sym, ap, subst, ◌∙◌}
use mathlib.Core.Bool.{Bool, true, false, ◌&&◌, cond}
use mathlib.Core.List.{List, [], ◌∷◌, ◌++◌}
use Prim.Native.Nat.{ℕ, zero, suc, ◌+◌, ◌-◌, ◌≤◌, ◌<◌}
use native.Mathlib.Numerals.{add-one}
use native.Mathlib.Omega.{arith}
use lib.Dec.{ltb}
use lib.ListN.{length, get_or, take, set, length-append, length-set, get_or-append}
use lib.Seq.{length-take-le, take-take, take-suc-set, get_or-append-add}
use lib.Ieee.{Float}
use Rattle.std.specs.Prelude.{Result, Option, Some, None}
use Rattle.std.specs.Option.{ok_or}
use Rattle.std.specs.Bool.{MatchBool}
use Rattle.std.specs.List.{range_with_len, AllWithin}
use Rattle.std.proofs.lemmas.List.FromFn.{length-range_with_len, get_or-range_with_len}
use borrow.Author.Tests.{lt-ltb, le-ltb, le-leb, lt-leb, eq-eqb, ne_eqb}
use Rattle.lists.specs.Answer.{refused, given}
use Rattle.lists.specs.Lists.{fold_below, runs, elems, Below}
use Rattle.lists.proofs.Fills.{elems_length, elems_suc, elems_at}
use Rattle.lists.proofs.Places.{below_more, below_take}
use Rattle.openrdson_core.specs.Points.{point_at, ring_fault}
use Rattle.openrdson_core.specs.Answers.{answer}
use Rattle.openrdson_core.specs.declared.points.Point.{Point}
use Rattle.openrdson_core.specs.declared.refusals.Refusal.{Refusal}
use Rattle.openrdson_core.specs.declared.refusals.Refusal.TheVariants as refusal
use Rattle.meshing.specs.Ring.{is_close, last_of, keep, drop_last, kept, dedup_ring, KeptIn, CleanedAs, CleanedIn}

-- the last of a list with one more
last_more : (ks : List ℕ) (i : ℕ) → last_of (ks ++ i ∷ []) ≡ i
last_more ks i =
    let e : length (ks ++ i ∷ []) - 1 ≡ length ks + 0 = omega (arith, length-append ks (i ∷ [])) in
    rw (e, get_or-append-add ks (i ∷ []) 0 0)

-- the places kept of the first i points
abbrev pub kept_of : List Float → List Float → ℕ → List ℕ
kept_of xs ys i = fold_below i (keep xs ys) []

-- The loop: before point i, the first count of the places are those kept so far, and `last` is the last point kept.
pub record Keeping (xs ys : List Float) (i count : ℕ) (places : List ℕ) (last : Point) : Type 0 where
  pub is : take count places ≡ kept_of xs ys i
  pub some : 0 < count
  pub few : count ≤ i
  pub room : count ≤ length places
  pub from_zero : get_or (kept_of xs ys i) 0 0 ≡ 0
  pub at_last : last ≡ point_at xs ys (last_of (kept_of xs ys i))

module _ (xs ys : List Float) where
  -- ---- one point

  keep_close : (ks : List ℕ) (i : ℕ) → 0 < length ks → is_close (point_at xs ys (last_of ks)) (point_at xs ys i) ≡ true → keep xs ys ks i ≡ ks
  unfolding keep
  keep_close ks i h e = rw (lt-ltb 0 (length ks) h, e)

  keep_far : (ks : List ℕ) (i : ℕ) → 0 < length ks → is_close (point_at xs ys (last_of ks)) (point_at xs ys i) ≡ false → keep xs ys ks i ≡ ks ++ i ∷ []
  unfolding keep
  keep_far ks i h e = rw (lt-ltb 0 (length ks) h, e)

  keep_below : (n : ℕ) (ks : List ℕ) (i : ℕ) → Below n ks → i < n → Below n (keep xs ys ks i)
  unfolding keep
  keep_below n ks i b h = at (ltb 0 (length ks) && is_close (point_at xs ys (last_of ks)) (point_at xs ys i))
    where
      at : (c : Bool) → Below n (cond c ks (ks ++ i ∷ []))
      at true = b
      at false = below_more n ks i b h

  kept_more : (i : ℕ) → kept_of xs ys (i + 1) ≡ keep xs ys (kept_of xs ys i) i
  unfolding fold_below
  kept_more i = rw (add-one i)

  pub kept_of_below : (n i : ℕ) → i ≤ n → Below n (kept_of xs ys i)
  unfolding fold_below
  kept_of_below n zero h = tt
  kept_of_below n (suc i) h = keep_below n (kept_of xs ys i) i (kept_of_below n i (omega arith)) (omega arith)

  -- ---- the places kept

  keep_most : (ks : List ℕ) (i : ℕ) → length (keep xs ys ks i) ≤ length ks + 1
  unfolding keep
  keep_most ks i = at (ltb 0 (length ks) && is_close (point_at xs ys (last_of ks)) (point_at xs ys i))
    where
      at : (c : Bool) → length (cond c ks (ks ++ i ∷ [])) ≤ length ks + 1
      at true = omega arith
      at false = omega (arith, length-append ks (i ∷ []))

  kept_of_most : (i : ℕ) → length (kept_of xs ys i) ≤ i
  unfolding fold_below
  kept_of_most zero = omega arith
  kept_of_most (suc i) = omega (arith, keep_most (kept_of xs ys i) i, kept_of_most i)

  pub kept_below : Below (length xs) (kept xs ys)
  unfolding kept drop_last
  kept_below = at (ltb 1 (length ks) && is_close (point_at xs ys (get_or ks 0 0)) (point_at xs ys (last_of ks)))
    where
      ks : List ℕ
      ks = kept_of xs ys (length xs)

      all : Below (length xs) ks
      all = kept_of_below (length xs) (length xs) (omega arith)

      at : (c : Bool) → Below (length xs) (cond c (take (length ks - 1) ks) ks)
      at true = below_take (length xs) ks (length ks - 1) all
      at false = all

  pub kept_most : length (kept xs ys) ≤ length xs
  unfolding kept drop_last
  kept_most = at (ltb 1 (length ks) && is_close (point_at xs ys (get_or ks 0 0)) (point_at xs ys (last_of ks)))
    where
      ks : List ℕ
      ks = kept_of xs ys (length xs)

      at : (c : Bool) → length (cond c (take (length ks - 1) ks) ks) ≤ length xs
      at true = omega (arith, length-take-le (length ks - 1) ks (omega arith), kept_of_most (length xs))
      at false = kept_of_most (length xs)

  -- ---- a clean ring: all are kept

  last_place : (i : ℕ) → 0 < i → last_of (elems i (λ k. k)) ≡ i - 1
  last_place i h = rw (elems_length (λ k. k) i) (elems_at (λ k. k) 0 i (i - 1) (omega arith))

  pub clean_start : kept_of xs ys 1 ≡ elems 1 (λ k. k)
  unfolding fold_below keep runs elems
  clean_start = refl

  pub clean_more : (i : ℕ) → 0 < i → kept_of xs ys i ≡ elems i (λ k. k) → is_close (point_at xs ys (i - 1)) (point_at xs ys i) ≡ false → kept_of xs ys (i + 1) ≡ elems (i + 1) (λ k. k)
  clean_more i h e f =
      let far : is_close (point_at xs ys (last_of (elems i (λ k. k)))) (point_at xs ys i) ≡ false =
      ap (λ (k : ℕ). is_close (point_at xs ys k) (point_at xs ys i)) (last_place i h) ∙ f in
      kept_more i
      ∙ ap (λ (ks : List ℕ). keep xs ys ks i) e
      ∙ keep_far (elems i (λ k. k)) i (omega (arith, elems_length (λ k. k) i)) far
      ∙ sym (elems_suc (λ k. k) i)
      ∙ ap (λ (n : ℕ). elems n (λ k. k)) (sym (add-one i))

  clean_all : (n : ℕ) → ((i : ℕ) → 0 < i → i < n → is_close (point_at xs ys (i - 1)) (point_at xs ys i) ≡ false) → 0 < n → kept_of xs ys n ≡ elems n (λ k. k)
  clean_all zero each h = absurd (omega arith)
  clean_all (suc zero) each h = clean_start
  clean_all (suc (suc n)) each h =
      let before = clean_all (suc n) (λ i p l. each i p (omega arith)) (omega arith) in
      let more = clean_more (suc n) (omega arith) before (each (suc n) (omega arith) (omega arith)) in
      rw (sym (add-one (suc n))) more

  pub clean_few : length xs < 2 → kept xs ys ≡ elems (length xs) (λ k. k)
  unfolding kept drop_last fold_below keep runs elems
  clean_few h = at (length xs) h
    where
      at : (n : ℕ) → n < 2 → drop_last xs ys (kept_of xs ys n) ≡ elems n (λ k. k)
      at zero l = refl
      at (suc zero) l = refl
      at (suc (suc n)) l = absurd (omega arith)

  -- all points are kept, and the last is not close to the first
  pub clean_end : {i : ℕ} {a b : Point} {close : Bool} → 1 < length xs → i ≡ length xs → kept_of xs ys i ≡ elems i (λ k. k) → a ≡ point_at xs ys 0 → b ≡ point_at xs ys (length xs - 1) → close ≡ is_close a b → close ≡ false
      → kept xs ys ≡ elems (length xs) (λ k. k)
  unfolding kept drop_last
  clean_end {i} {a} {b} more h e p q t f =
      let n : ℕ = length xs in
      let all : kept_of xs ys n ≡ elems n (λ k. k) = ap (kept_of xs ys) (sym h) ∙ e ∙ ap (λ (k : ℕ). elems k (λ k. k)) h in
      let far : is_close (point_at xs ys (get_or (elems n (λ k. k)) 0 0)) (point_at xs ys (last_of (elems n (λ k. k)))) ≡ false =
      ap (λ (k : ℕ). is_close (point_at xs ys k) (point_at xs ys (last_of (elems n (λ k. k))))) (elems_at (λ k. k) 0 n 0 (omega arith))
      ∙ ap (λ (k : ℕ). is_close (point_at xs ys 0) (point_at xs ys k)) (last_place n (omega arith))
      ∙ ap (λ (x : Point). is_close x (point_at xs ys (n - 1))) (sym p)
      ∙ ap (is_close a) (sym q)
      ∙ sym t
      ∙ f in
      ap (drop_last xs ys) all ∙ rw (far, elems_length (λ k. k) n, lt-ltb 1 n more)

  -- no point is close to the one before it, by what `all` answers, and the last is not to the first
  pub clean_apart : (Not : Type 0) {apart close : Bool} {a b : Point} → 1 < length xs
      → MatchBool apart (AllWithin (λ i. is_close (point_at xs ys (i - 1)) (point_at xs ys i) ≡ false) (range_with_len 1 (length xs - 1)) 0 (length (range_with_len 1 (length xs - 1)))) Not
      → apart ≡ true → a ≡ point_at xs ys 0 → b ≡ point_at xs ys (length xs - 1) → close ≡ is_close a b → close ≡ false → kept xs ys ≡ elems (length xs) (λ k. k)
  clean_apart Not {apart} {close} {a} {b} more answered is p q t f =
      let n : ℕ = length xs in
      let each = subst (λ r. MatchBool r (AllWithin (λ i. is_close (point_at xs ys (i - 1)) (point_at xs ys i) ≡ false) (range_with_len 1 (n - 1)) 0 (length (range_with_len 1 (n - 1)))) Not) is answered in
      let place : (i : ℕ) → i < n - 1 → get_or (range_with_len 1 (n - 1)) i 0 ≡ 1 + i = λ i l. get_or-range_with_len 1 (n - 1) i 0 l in
      let all : kept_of xs ys n ≡ elems n (λ k. k) =
      clean_all n (λ i l h. subst (λ k. is_close (point_at xs ys (k - 1)) (point_at xs ys k) ≡ false) (omega (arith, place (i - 1) (omega arith))) (each (i - 1) 0 (omega arith) (omega (arith, length-range_with_len 1 (n - 1))))) (omega arith) in
      clean_end more refl all p q t f

  -- ---- the loop

  pub keeping_start : (places : List ℕ) (first : Point) → first ≡ point_at xs ys 0 → 0 < length places → Keeping xs ys 1 1 (set places 0 0) first
  unfolding fold_below keep
  keeping_start places first e h =
      record {
        is = take-suc-set places 0 0 h;
        some = omega arith;
        few = omega arith;
        room = omega (arith, length-set places 0 0);
        from_zero = refl;
        at_last = e;
      }

  -- the same of equal values
  pub keeping_as : {i count count' : ℕ} {places places' : List ℕ} {last last' : Point} → Keeping xs ys i count places last → places' ≡ places → last' ≡ last → count' ≡ count
      → Keeping xs ys i count' places' last'
  keeping_as k p l c = rw (p, l, c) k

  module _ {i count : ℕ} {places : List ℕ} {last : Point} (k : Keeping xs ys i count places last) where
    long : length (kept_of xs ys i) ≡ count
    long = ap length (sym k.is) ∙ length-take-le count places k.room

    tested : (p : Point) (b : Bool) → p ≡ point_at xs ys i → is_close last p ≡ b → is_close (point_at xs ys (last_of (kept_of xs ys i))) (point_at xs ys i) ≡ b
    tested p b e t = ap (λ (q : Point). is_close q (point_at xs ys i)) (sym k.at_last) ∙ ap (is_close last) (sym e) ∙ t

    -- point i is dropped
    pub keeping_close : (p : Point) → p ≡ point_at xs ys i → is_close last p ≡ true → Keeping xs ys (i + 1) count places last
    keeping_close p e t =
        let same : kept_of xs ys i ≡ kept_of xs ys (i + 1) = sym (kept_more i ∙ keep_close (kept_of xs ys i) i (omega (arith, long)) (tested p true e t)) in
        record {
          is = k.is ∙ same;
          some = k.some;
          few = omega (arith, k.few);
          room = k.room;
          from_zero = ap (λ (ks : List ℕ). get_or ks 0 0) (sym same) ∙ k.from_zero;
          at_last = k.at_last ∙ ap (λ (ks : List ℕ). point_at xs ys (last_of ks)) same;
        }

    -- point i is kept
    pub keeping_far : (p : Point) → p ≡ point_at xs ys i → is_close last p ≡ false → count < length places → Keeping xs ys (i + 1) (count + 1) (set places count i) p
    keeping_far p e t h =
        let ks : List ℕ = kept_of xs ys i in
        let some : 0 < length ks = omega (arith, long, k.some) in
        let more : ks ++ i ∷ [] ≡ kept_of xs ys (i + 1) = sym (kept_more i ∙ keep_far ks i some (tested p false e t)) in
        record {
          is = rw (add-one count) (take-suc-set places count i h ∙ ap (λ (l : List ℕ). l ++ i ∷ []) k.is ∙ more);
          some = omega arith;
          few = omega (arith, k.few);
          room = omega (arith, length-set places count i);
          from_zero = ap (λ (l : List ℕ). get_or l 0 0) (sym more) ∙ get_or-append ks (i ∷ []) 0 0 some ∙ k.from_zero;
          at_last = e ∙ ap (point_at xs ys) (sym (last_more ks i)) ∙ ap (λ (l : List ℕ). point_at xs ys (last_of l)) more;
        }

  -- ---- how it ends

  pub kept_none : (places : List ℕ) → length xs ≡ 0 → KeptIn xs ys places 0
  unfolding kept drop_last fold_below
  kept_none places e = record { is = rw e; below = tt; within = omega arith }

  module _ {i count : ℕ} {places : List ℕ} {last : Point} (k : Keeping xs ys i count places last) (all : i ≡ length xs) where
    whole : take count places ≡ kept_of xs ys (length xs)
    whole = k.is ∙ ap (kept_of xs ys) all

    whole_long : length (kept_of xs ys (length xs)) ≡ count
    whole_long = ap length (sym whole) ∙ length-take-le count places k.room

    whole_below : Below (length xs) (take count places)
    whole_below = rw whole (kept_of_below (length xs) (length xs) (omega arith))

    -- one point is kept, and no more
    pub kept_one : count ≤ 1 → KeptIn xs ys places count
    unfolding kept drop_last
    kept_one h = record {
      is = whole ∙ rw (whole_long, le-ltb 1 count h);
      below = whole_below;
      within = omega (arith, k.few);
    }

    module _ (first : Point) (is_first_lem : first ≡ point_at xs ys 0) (more : 1 < count) where
      asked : (b : Bool) → is_close first last ≡ b → is_close (point_at xs ys (get_or (kept_of xs ys (length xs)) 0 0)) (point_at xs ys (last_of (kept_of xs ys (length xs)))) ≡ b
      asked b t =
          ap (λ (n : ℕ). is_close (point_at xs ys (get_or (kept_of xs ys n) 0 0)) (point_at xs ys (last_of (kept_of xs ys n)))) (sym all)
          ∙ ap (λ (j : ℕ). is_close (point_at xs ys j) (point_at xs ys (last_of (kept_of xs ys i)))) k.from_zero
          ∙ ap (λ (p : Point). is_close p (point_at xs ys (last_of (kept_of xs ys i)))) (sym is_first_lem)
          ∙ ap (is_close first) (sym k.at_last)
          ∙ t

      -- the last is close to the first
      pub kept_closed : is_close first last ≡ true → KeptIn xs ys places (count - 1)
      unfolding kept drop_last
      kept_closed t =
          let cut : take (count - 1) places ≡ take (count - 1) (kept_of xs ys (length xs)) = sym (take-take (count - 1) count places (omega arith)) ∙ ap (take (count - 1)) whole in
          record {
            is = cut ∙ rw (asked true t, whole_long, lt-ltb 1 count more);
            below = rw cut (below_take (length xs) (kept_of xs ys (length xs)) (count - 1) (kept_of_below (length xs) (length xs) (omega arith)));
            within = omega (arith, k.few);
          }

      -- it is not
      pub kept_open : is_close first last ≡ false → KeptIn xs ys places count
      unfolding kept drop_last
      kept_open t = record {
        is = whole ∙ rw (asked false t, whole_long, lt-ltb 1 count more);
        below = whole_below;
        within = omega (arith, k.few);
      }

  -- ---- the call

  module _ (m n : ℕ) where
    pub dedup_uneven : (m ≡ n → ⊥) → dedup_ring xs ys m n ≡ refused 16
    unfolding dedup_ring
    dedup_uneven h = rw (ne_eqb m n h)

    pub dedup_refused : (w : ℕ) → m ≡ n → refused w ≡ ring_fault xs ys → dedup_ring xs ys m n ≡ refused w
    unfolding dedup_ring
    dedup_refused w h e = rw (eq-eqb m n h, ← e)

    module _ (h : m ≡ n) (fine : given tt ≡ ring_fault xs ys) where
      pub dedup_short : m < length (kept xs ys) → dedup_ring xs ys m n ≡ refused 12
      unfolding dedup_ring
      dedup_short l = rw (eq-eqb m n h, ← fine, lt-leb (length (kept xs ys)) m l)

      pub dedup_fits : length (kept xs ys) ≤ m → dedup_ring xs ys m n ≡ given (kept xs ys)
      unfolding dedup_ring
      dedup_fits l = rw (eq-eqb m n h, ← fine, le-leb (length (kept xs ys)) m l)

-- ---- the call's contract

module _ (xs ys ox oy : List Float) (r : Result ℕ Refusal) where
  -- nothing is written where it is refused
  pub cleaned_refused : (w : ℕ) → answer r ≡ refused w → dedup_ring xs ys (length ox) (length oy) ≡ refused w → CleanedAs xs ys ox oy r ox oy
  cleaned_refused w e d = record { answer = rw d e; writes_x = rw d; writes_y = rw d }

  -- else it is cleaned into the lists, where there is room
  pub cleaned_in : (o : Option ℕ) (ox' oy' : List Float) → r ≡ ok_or o refusal.OutputTooShort → length ox ≡ length oy → given tt ≡ ring_fault xs ys → CleanedIn xs ys ox oy o ox' oy' → CleanedAs xs ys ox oy r ox' oy'
  cleaned_in None ox' oy' e same fine h =
      let d = dedup_short xs ys (length ox) (length oy) same fine h.0 in
      record { answer = rw d (ap answer e); writes_x = rw d h.1; writes_y = rw d h.2 }
  cleaned_in (Some n) ox' oy' e same fine h =
      let d = dedup_fits xs ys (length ox) (length oy) same fine (omega (arith, h.0, h.1)) in
      record { answer = rw d (ap answer e ∙ ap given h.1); writes_x = rw d h.2; writes_y = rw d h.3 }
