-- A loop that fills a lent list from a place on. After some turns the list is `put l at new`, where new is what has been written so far.
--     put_none      nothing written yet: the list itself
--     put_length    a run that fits keeps the length
--     put_more      a run written right after another: one longer run
--     put_set       one element stored right after: the same for a run of one
--     put_sets      a run of stores, as code without a loop leaves it
--     put_whole, put_start      a run as long as the list; the start of a list that a run was written over
--     elems_same, elems_front   equal elements; the first and the others
--     elems_at, put_at          an entry of what was written
-- Assumes nothing.
use mathlib.Core.Path.{◌≡◌, refl, sym, ap, ◌∙◌}
use mathlib.Core.List.{List, [], ◌∷◌, ◌++◌, append_assoc, append-nil}
use mathlib.Core.Logic.{inl, inr}
use Prim.Native.Nat.{ℕ, zero, suc, ◌+◌, ◌*◌, ◌≤◌, ◌<◌}
use native.Mathlib.Nat.{add-zero, suc-mul, zero-mul, one-mul, add-mul, mul-le-mul_right, eq-or-lt_of_le}
use native.Mathlib.Numerals.{add-one, add-two, add-three, add-four, add_five, add_six, add_seven}
use native.Mathlib.Omega.{arith}
use lib.ListN.{length, take, drop, get_or, set, length-append, length-drop, length-set, take-append-drop, drop_of_length-le, get_or-append}
use lib.Seq.{length-take-le, get_or_at, take_at, drop_at, drop-drop, sets, sets-eq}
use Rattle.lists.specs.Lists.{put, runs, elems}

module _ {A : Type 0} where
  pub put_none : (l : List A) (at : ℕ) → put l at [] ≡ l
  unfolding put
  put_none l at = rw (add-zero, append-nil, take-append-drop)

  -- a run as long as the list
  pub put_whole : (l new : List A) → length new ≡ length l → put l 0 new ≡ new
  unfolding put
  put_whole l new e =
      let past : length l ≤ 0 + length new = omega (arith, e) in
      rw (drop_of_length-le l past) (append-nil new)

  -- the start of a list that a run was written over
  pub put_start : (l new : List A) {l' : List A} {n : ℕ} → l' ≡ put l 0 new → n ≡ length new → take n l' ≡ new
  unfolding put
  put_start l new {l'} {n} e f = ap (take n) e ∙ take_at new _ n (sym f)

  head_length : (l : List A) (at : ℕ) (new : List A) → at + length new ≤ length l → length (take at l ++ new) ≡ at + length new
  head_length l at new h = rw (length-append, length-take-le at l (omega arith))

  pub put_length : (l : List A) (at : ℕ) (new : List A) → at + length new ≤ length l → length (put l at new) ≡ length l
  unfolding put
  put_length l at new h = omega (arith, length-append (take at l ++ new) (drop (at + length new) l), head_length l at new h, length-drop (at + length new) l)

  -- a run at place p, right after the run a that stands from at on
  pub put_more : (l : List A) (at : ℕ) (a b : List A) (p : ℕ) → p ≡ at + length a → p + length b ≤ length l
      → put (put l at a) p b ≡ put l at (a ++ b)
  unfolding put
  put_more l at a b p e h =
      let ha : at + length a ≤ length l = omega arith in
      let t : take p (take at l ++ a ++ drop (at + length a) l) ≡ take at l ++ a =
      take_at (take at l ++ a) (drop (at + length a) l) p (head_length l at a ha ∙ sym e) in
      let d : drop (p + length b) (take at l ++ a ++ drop (at + length a) l) ≡ drop (length b) (drop (at + length a) l) =
      sym (drop-drop (length b) p (take at l ++ a ++ drop (at + length a) l))
      ∙ ap (drop (length b)) (drop_at (take at l ++ a) (drop (at + length a) l) p (head_length l at a ha ∙ sym e)) in
      let n : at + length a + length b ≡ at + length (a ++ b) = omega (arith, length-append a b) in
      rw (t, d, drop-drop, n) (simp append_assoc)

  pub put_sets : (l : List A) (p : ℕ) (vs : List A) → p + length vs ≤ length l → sets l p vs ≡ put l p vs
  unfolding put
  put_sets l p vs h = sets-eq vs l p h

  -- three stores, and eight, one after the other
  pub put_three : (l : List A) (p : ℕ) (a b c : A) → p + 3 ≤ length l → set (set (set l p a) (p + 1) b) (p + 2) c ≡ put l p (a ∷ b ∷ c ∷ [])
  put_three l p a b c room = rw (add-one, add-two) (put_sets l p (a ∷ b ∷ c ∷ []) room)

  pub put_eight : (l : List A) (p : ℕ) (a b c d e f g h : A) → p + 8 ≤ length l
      → set (set (set (set (set (set (set (set l p a) (p + 1) b) (p + 2) c) (p + 3) d) (p + 4) e) (p + 5) f) (p + 6) g) (p + 7) h
      ≡ put l p (a ∷ b ∷ c ∷ d ∷ e ∷ f ∷ g ∷ h ∷ [])
  put_eight l p a b c d e f g h room =
      rw (add-one, add-two, add-three, add-four, add_five, add_six, add_seven)
      (put_sets l p (a ∷ b ∷ c ∷ d ∷ e ∷ f ∷ g ∷ h ∷ []) room)

  -- one element stored at place p, right after the run a
  pub put_set : (l : List A) (at : ℕ) (a : List A) (p : ℕ) (v : A) → p ≡ at + length a → p < length l
      → set (put l at a) p v ≡ put l at (a ++ (v ∷ []))
  put_set l at a p v e h =
      put_sets (put l at a) p (v ∷ []) (omega (arith, put_length l at a (omega arith)))
      ∙ put_more l at a (v ∷ []) p e (omega arith)

  -- ---- runs that are all w long

  pub runs_length : (f : ℕ → List A) (w : ℕ) → ((i : ℕ) → length (f i) ≡ w) → (n : ℕ) → length (runs n f) ≡ n * w
  unfolding runs
  runs_length f w each zero = sym (zero-mul w)
  runs_length f w each (suc n) = length-append (runs n f) (f n) ∙ cc (runs_length f w each n, each n, suc-mul n w)

  pub elems_length : (f : ℕ → A) (n : ℕ) → length (elems n f) ≡ n
  unfolding elems
  elems_length f n = runs_length (λ i. f i ∷ []) 1 (λ i. refl) n ∙ omega arith

  elems_none : (f : ℕ → A) → elems 0 f ≡ []
  unfolding elems runs
  elems_none f = refl

  pub elems_suc : (f : ℕ → A) (n : ℕ) → elems (suc n) f ≡ elems n f ++ (f n ∷ [])
  unfolding elems runs
  elems_suc f n = refl

  pub elems_same : (f g : ℕ → A) (n : ℕ) → ((i : ℕ) → i < n → f i ≡ g i) → elems n f ≡ elems n g
  elems_same f g zero h = elems_none f ∙ sym (elems_none g)
  elems_same f g (suc n) h =
      elems_suc f n
      ∙ ap (λ (l : List A). l ++ (f n ∷ [])) (elems_same f g n (λ i l. h i (omega arith)))
      ∙ ap (λ (x : A). elems n g ++ (x ∷ [])) (h n (omega arith))
      ∙ sym (elems_suc g n)

  -- the first element, and the others
  pub elems_front : (f : ℕ → A) (n : ℕ) → elems (suc n) f ≡ f 0 ∷ elems n (λ i. f (suc i))
  elems_front f zero = elems_suc f 0 ∙ ap (λ (l : List A). l ++ (f 0 ∷ [])) (elems_none f) ∙ ap (λ (l : List A). f 0 ∷ l) (sym (elems_none (λ i. f (suc i))))
  elems_front f (suc n) =
      elems_suc f (suc n)
      ∙ ap (λ (l : List A). l ++ (f (suc n) ∷ [])) (elems_front f n)
      ∙ ap (λ (l : List A). f 0 ∷ l) (sym (elems_suc (λ i. f (suc i)) n))

  pub elems_at : (f : ℕ → A) (other : A) (n i : ℕ) → i < n → get_or (elems n f) i other ≡ f i
  elems_at f other zero i h = absurd (omega arith)
  elems_at f other (suc n) i h =
      let l : i ≤ n = omega arith in
      ap (λ (e : List A). get_or e i other) (elems_suc f n)
      ∙ elim (eq-or-lt_of_le l) [
        | inl g ↦ get_or_at (elems n f) (f n) [] other i (elems_length f n ∙ sym g) ∙ ap f (sym g)
        | inr g ↦ get_or-append (elems n f) (f n ∷ []) other i (omega (arith, elems_length f n)) ∙ elems_at f other n i g
      ]

  pub put_at : (l : List A) (f : ℕ → A) (other : A) (n i : ℕ) → i < n → get_or (put l 0 (elems n f)) i other ≡ f i
  unfolding put
  put_at l f other n i h =
      get_or-append (elems n f) (drop (0 + length (elems n f)) l) other i (omega (arith, elems_length f n)) ∙ elems_at f other n i h

  -- a turn of the loop that writes run n, w long, at place p: from n runs to n + 1
  pub fill_run : (l : List A) (at : ℕ) (f : ℕ → List A) (w : ℕ) → ((i : ℕ) → length (f i) ≡ w) → (n p : ℕ)
      → p ≡ at + n * w → p + w ≤ length l
      → put (put l at (runs n f)) p (f n) ≡ put l at (runs (n + 1) f)
  unfolding runs
  fill_run l at f w each n p e h =
      put_more l at (runs n f) (f n) p (omega (arith, runs_length f w each n)) (omega (arith, each n))
      ∙ ap (λ (k : ℕ). put l at (runs k f)) (sym (add-one n))

  -- a turn of the loop that stores element n at place p: from n elements to n + 1
  pub fill_elem : (l : List A) (at : ℕ) (f : ℕ → A) (n p : ℕ) (v : A) → p ≡ at + n → p < length l → v ≡ f n
      → set (put l at (elems n f)) p v ≡ put l at (elems (n + 1) f)
  unfolding runs elems
  fill_elem l at f n p v e h is =
      put_set l at (elems n f) p v (omega (arith, elems_length f n)) h
      ∙ ap (λ (x : A). put l at (elems n f ++ (x ∷ []))) is
      ∙ ap (λ (k : ℕ). put l at (elems k f)) (sym (add-one n))

-- ---- the invariant of a loop that fills: l is l₀ with f 0 to f (n - 1) in it from place at on, and is as long

pub record Elems {A : Type 0} (l₀ : List A) (at : ℕ) (f : ℕ → A) (n : ℕ) (l : List A) : Type 0 where
  pub is : l ≡ put l₀ at (elems n f)
  pub long : length l ≡ length l₀

-- the same for runs, each w long
pub record Runs {A : Type 0} (l₀ : List A) (at : ℕ) (f : ℕ → List A) (w n : ℕ) (l : List A) : Type 0 where
  pub is : l ≡ put l₀ at (runs n f)
  pub long : length l ≡ length l₀

module _ {A : Type 0} where
  -- where the loop begins
  pub no_elems : (l : List A) (at : ℕ) (f : ℕ → A) → Elems l at f 0 l
  unfolding runs elems
  no_elems l at f = record { is = sym (put_none l at); long = refl }

  pub no_runs : (l : List A) (at : ℕ) (f : ℕ → List A) (w : ℕ) → Runs l at f w 0 l
  unfolding runs
  no_runs l at f w = record { is = sym (put_none l at); long = refl }

  -- a turn that stores element n at place p
  pub one_elem : {l₀ l : List A} {at : ℕ} {f : ℕ → A} {n p : ℕ} {v : A} → Elems l₀ at f n l
      → p ≡ at + n → p < length l₀ → v ≡ f n → Elems l₀ at f (n + 1) (set l p v)
  one_elem {l₀} {l} {at} {f} {n} {p} {v} q e h is =
      record {
        is = ap (λ (k : List A). set k p v) q.is ∙ fill_elem l₀ at f n p v e h is;
        long = length-set l p v ∙ q.long;
      }

  -- a turn that has run n written at place p
  pub one_run : {l₀ l l' : List A} {at : ℕ} {f : ℕ → List A} {n p w : ℕ} → Runs l₀ at f w n l
      → l' ≡ put l p (f n) → ((i : ℕ) → length (f i) ≡ w) → p ≡ at + n * w → p + w ≤ length l₀
      → Runs l₀ at f w (n + 1) l'
  one_run {l₀} {l} {l'} {at} {f} {n} {p} {w} q is each e h =
      record {
        is = is ∙ ap (λ (k : List A). put k p (f n)) q.is ∙ fill_run l₀ at f w each n p e h;
        long = ap length is ∙ put_length l p (f n) (omega (arith, each n, q.long)) ∙ q.long;
      }

  -- where the loop ends, with n equal to m
  pub all_elems : {l₀ l : List A} {at : ℕ} {f : ℕ → A} {n m : ℕ} → Elems l₀ at f n l → n ≡ m → l ≡ put l₀ at (elems m f)
  all_elems {l₀} {l} {at} {f} q e = q.is ∙ ap (λ (k : ℕ). put l₀ at (elems k f)) e

  pub all_runs : {l₀ l : List A} {at : ℕ} {f : ℕ → List A} {w n m : ℕ} → Runs l₀ at f w n l → n ≡ m → l ≡ put l₀ at (runs m f)
  all_runs {l₀} {l} {at} {f} q e = q.is ∙ ap (λ (k : ℕ). put l₀ at (runs k f)) e

-- ---- places of runs that are all w long

-- run j of n ends within the n runs
pub run_room : (n w j : ℕ) → j < n → j * w + w ≤ n * w
run_room n w j h = rw suc-mul at (mul-le-mul_right w h)

-- where the first run begins, and the next
pub run_first : (at w : ℕ) → at ≡ at + 0 * w
run_first at w = omega (arith, zero-mul w)

pub run_next : (at w j : ℕ) {p : ℕ} → p ≡ at + j * w → p + w ≡ at + (j + 1) * w
run_next at w j {p} e = omega (arith, e, add-mul j 1 w, one-mul w)

pub one_more : (n w : ℕ) → (n + 1) * w ≡ n * w + w
one_more n w = omega (arith, add-mul n 1 w, one-mul w)
