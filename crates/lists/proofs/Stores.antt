-- Maps entry by entry, and a loop that stores the entries at some places after each other. Assumes nothing.
use Prim.Native.Nat.{ℕ, zero, suc, ◌≤◌, ◌<◌}
use mathlib.Core.Path.{◌≡◌, refl, sym, ap, ◌∙◌}
use mathlib.Core.List.{List, [], ◌∷◌, ◌++◌, map, map-append}
use native.Mathlib.Nat.{le_refl}
use native.Mathlib.Omega.{arith}
use lib.ListN.{length, get_or, take, set, length-set}
use lib.Seq.{take-suc, take-length}
use Rattle.lists.specs.Lists.{put, runs, elems, gather}
use Rattle.lists.proofs.Fills.{put_none, put_set, put_start}
use Rattle.lists.proofs.Places.{gather_length}

-- an entry of a list that f is mapped over
pub map_at : {A B : Type 0} (f : A → B) (l : List A) (i : ℕ) (a : A) (b : B) → i < length l → get_or (map f l) i b ≡ f (get_or l i a)
map_at f [] i a b h = absurd (omega arith)
map_at f (x ∷ l) zero a b h = refl
map_at f (x ∷ l) (suc i) a b h = map_at f l i a b (omega arith)

-- f of the entries, one by one
maps : {A B : Type 0} (f : A → B) (other : A) (l : List A) (n : ℕ) → n ≤ length l → elems n (λ i. f (get_or l i other)) ≡ map f (take n l)
unfolding runs elems
maps f other l zero h = refl
maps f other l (suc n) h = rw (take-suc l n other h, map-append, maps f other l n (omega arith))

pub map_elems : {A B : Type 0} (f : A → B) (other : A) (l : List A) → elems (length l) (λ i. f (get_or l i other)) ≡ map f l
map_elems f other l = maps f other l (length l) (le_refl (length l)) ∙ ap (map f) (take-length l)

-- f changes no entry
pub map_none : {A : Type 0} (f : A → A) (l : List A) → ((a : A) → f a ≡ a) → map f l ≡ l
map_none f [] each = refl
map_none {A} f (a ∷ l) each = ap (λ (x : A). x ∷ map f l) (each a) ∙ ap (λ (r : List A). a ∷ r) (map_none f l each)

-- a loop that stores the entries at places after each other: what it has stored of l is that at the places ks
pub record Gathered {A : Type 0} (other : A) (l old : List A) (ks : List ℕ) (now : List A) : Type 0 where
  pub is : now ≡ put old 0 (gather other l ks)
  pub long : length now ≡ length old

module _ {A : Type 0} (other : A) (l old : List A) where
  pub gather_start : (ks : List ℕ) → ks ≡ [] → Gathered other l old ks old
  gather_start ks e = record { is = sym (put_none old 0) ∙ ap (λ (k : List ℕ). put old 0 (gather other l k)) (sym e); long = refl }

  pub gather_more : {ks more : List ℕ} {now : List A} (i count : ℕ) → Gathered other l old ks now → more ≡ ks ++ (i ∷ []) → count ≡ length ks → count < length old
      → Gathered other l old more (set now count (get_or l i other))
  gather_more {ks} {more} {now} i count g e c room =
      record {
        is =
            ap (λ (k : List A). set k count (get_or l i other)) g.is
            ∙ put_set old 0 (gather other l ks) count (get_or l i other) (omega (arith, gather_length other l ks)) room
            ∙ ap (put old 0) (sym (map-append (λ k. get_or l k other) ks (i ∷ [])))
            ∙ ap (λ (k : List ℕ). put old 0 (gather other l k)) (sym e);
        long = length-set now count (get_or l i other) ∙ g.long;
      }

  -- what is stored, at the start of the list
  pub gather_front : (ks : List ℕ) {now : List A} {n : ℕ} → now ≡ put old 0 (gather other l ks) → n ≡ length ks → take n now ≡ gather other l ks
  gather_front ks e f = put_start old (gather other l ks) e (f ∙ sym (gather_length other l ks))

  pub gather_stays : {ks more : List ℕ} {now : List A} → Gathered other l old ks now → more ≡ ks → Gathered other l old more now
  gather_stays {ks} g e = record { is = g.is ∙ ap (λ (k : List ℕ). put old 0 (gather other l k)) (sym e); long = g.long }
