-- Laws of the volume of a mesh: one turn of each loop, and the places that an element uses. Assumes nothing.
use Prim.Native.Nat.{ℕ, zero, suc, ◌+◌, ◌*◌, ◌<◌}
use native.Mathlib.Omega.{arith}
use mathlib.Core.Path.{◌≡◌, refl, sym, ap, ◌∙◌}
use mathlib.Core.Bool.{Bool, true, false, ◌&&◌, cond}
use mathlib.Core.List.{List}
use lib.ListN.{length, get_or, take}
use lib.Seq.{get_or-take}
use lib.Dec.{T, eqb}
use Rattle.std.specs.Prelude.{Some, None}
use lib.Ieee.{Float, binary64, inf, fits, eq, le}
use borrow.Author.Tests.{eqb-true}
use Rattle.lists.specs.Lists.{fold_below, part}
use Rattle.lists.proofs.Folds.{fold_start, fold_more, fold_end}
use Rattle.lists.proofs.Scans.{both}
use Rattle.binary64.specs.Constants.{zero64}
use Rattle.binary64.specs.Numbers.{◌⊕◌, ◌⊖◌, at, abs}
use Rattle.binary64.proofs.SquareRoots.{least_size, most_size, norm_upright}
use Rattle.openrdson_core.specs.Bounds.{lesser, greater}
use Rattle.openrdson_core.specs.Mesh.{kind_number, node_count, kind_of}
use Rattle.openrdson_core.specs.declared.mesh.ElementType.{ElementType}
use Rattle.openrdson_core.specs.declared.mesh.ElementType.TheVariants.{Tet, Hex, Prism, Pyramid}
use Rattle.openrdson_core.specs.declared.mesh.Point3.{Point3}
use Rattle.meshing.specs.declared.volume.Reach.{Reach}
use Rattle.meshing.specs.Volumes.{is_plain, norm, prism_volume, reach, box_volume, element_volume}

-- the number that place k of an element names, against a bound
abbrev pub low : List Float → List ℕ → Float → ℕ → Float
low l places bound k = lesser (at l (get_or places k 0)) bound

abbrev pub high : List Float → List ℕ → Float → ℕ → Float
high l places bound k = greater (at l (get_or places k 0)) bound

-- what a loop over an element's places keeps of an axis: how far the numbers at the first k places reach
pub record Reaches (l : List Float) (places : List ℕ) (k : ℕ) (r : Reach) : Type 0 where
  pub lows : r.least ≡ fold_below k (low l places) (inf false)
  pub highs : r.most ≡ fold_below k (high l places) (inf true)

module _ (l : List Float) (places : List ℕ) where
  pub reach_start : {r : Reach} → (r.least ≡ inf false) × (r.most ≡ inf true) → Reaches l places 0 r
  reach_start e = record { lows = e.0 ∙ fold_start (low l places) (inf false); highs = e.1 ∙ fold_start (high l places) (inf true) }

  pub reach_more : (k : ℕ) {r with_v : Reach} {v : Float} → Reaches l places k r → v ≡ at l (get_or places k 0) → (with_v.least ≡ lesser v r.least) × (with_v.most ≡ greater v r.most)
      → Reaches l places (k + 1) with_v
  reach_more k {r} h is e =
      record {
        lows = fold_more (low l places) (inf false) k h.lows (e.0 ∙ ap (λ (u : Float). lesser u r.least) is);
        highs = fold_more (high l places) (inf true) k h.highs (e.1 ∙ ap (λ (u : Float). greater u r.most) is);
      }

  pub reach_end : {k n : ℕ} {r : Reach} {v : Float} → Reaches l places k r → k ≡ n → v ≡ r.most ⊖ r.least → v ≡ reach l n places
  unfolding reach
  reach_end h e is = is ∙ rw (fold_end (low l places) (inf false) h.lows e, fold_end (high l places) (inf true) h.highs e)

-- the size of a vector along z, as a program tests it
pub norm_along : (c : Point3) {r : Float} → T (fits binary64 c.z) → (eq c.x zero64 && eq c.y zero64 && is_plain c.z) ≡ true → r ≡ abs c.z → r ≡ norm c
unfolding norm
norm_along c f e is =
    let two = both (eq c.x zero64 && eq c.y zero64) (is_plain c.z) e in
    let zeros = both (eq c.x zero64) (eq c.y zero64) two.0 in
    let plain = both (le least_size (abs c.z)) (le (abs c.z) most_size) two.1 in
    is ∙ sym (norm_upright c.x c.y c.z f plain.0 plain.1 zeros.0 zeros.1)

-- ---- an element, by the places that it uses

-- the kind that a number stands for has that number
number_of : (k : ℕ) (t : ElementType) → Some t ≡ kind_of k → kind_number t ≡ k
unfolding kind_of
number_of k t e = step (eqb k 0) (eqb k 1) (eqb k 2) (eqb k 3) refl refl refl refl e
  where
    is : {s : ElementType} → Some t ≡ Some s → kind_number t ≡ kind_number s
    is {s = s} h = let same : t ≡ s = cc in ap kind_number same

    step : (a b c d : Bool) → eqb k 0 ≡ a → eqb k 1 ≡ b → eqb k 2 ≡ c → eqb k 3 ≡ d
        → Some t ≡ cond a (Some Tet) (cond b (Some Hex) (cond c (Some Prism) (cond d (Some Pyramid) None))) → kind_number t ≡ k
    step true b c d p q r s h = is h ∙ sym (eqb-true k 0 p)
    step false true c d p q r s h = is h ∙ sym (eqb-true k 1 q)
    step false false true d p q r s h = is h ∙ sym (eqb-true k 2 r)
    step false false false true p q r s h = is h ∙ sym (eqb-true k 3 s)
    step false false false false p q r s h = let z : ◌≡◌ {A = ℕ} 0 1 = cc in absurd (omega arith)

module _ (xs ys zs : List Float) where
  pub element_prism : (t : ElementType) (used : List ℕ) {v : Float} → t ≡ Prism → v ≡ prism_volume xs ys zs used → v ≡ element_volume xs ys zs (kind_number t) used
  unfolding element_volume
  element_prism t used e p = p ∙ rw e

  pub element_box : (t : ElementType) (used : List ℕ) {v : Float} → (t ≡ Prism → ⊥) → length used ≡ node_count t → v ≡ box_volume xs ys zs (length used) used → v ≡ element_volume xs ys zs (kind_number t) used
  unfolding element_volume box_volume kind_of
  element_box Tet used e n p = rw (p, n)
  element_box Hex used e n p = rw (p, n)
  element_box Prism used e n p = absurd (e refl)
  element_box Pyramid used e n p = rw (p, n)

-- folds whose steps agree
fold_same : (f g : Float → ℕ → Float) (start : Float) (n : ℕ) → ((a : Float) (i : ℕ) → i < n → f a i ≡ g a i) → fold_below n f start ≡ fold_below n g start
unfolding fold_below
fold_same f g start zero each = refl
fold_same f g start (suc n) each = rw (fold_same f g start n (λ a i h. each a i (omega arith))) (each _ n (omega arith))

-- the places past those that it uses say nothing
reach_used : (l : List Float) (n : ℕ) (places : List ℕ) → reach l n (take n places) ≡ reach l n places
unfolding reach
reach_used l n places =
    rw (
      fold_same (high l (take n places)) (high l places) (inf true) n (λ a i h. rw (get_or-take n places i 0 h)),
      fold_same (low l (take n places)) (low l places) (inf false) n (λ a i h. rw (get_or-take n places i 0 h)),
    )

module _ (xs ys zs : List Float) (places : List ℕ) where
  prism_used : prism_volume xs ys zs (take 6 places) ≡ prism_volume xs ys zs places
  unfolding prism_volume
  prism_used =
      rw (
        get_or-take 6 places 0 0 (omega arith),
        get_or-take 6 places 1 0 (omega arith),
        get_or-take 6 places 2 0 (omega arith),
        get_or-take 6 places 3 0 (omega arith),
        get_or-take 6 places 4 0 (omega arith),
        get_or-take 6 places 5 0 (omega arith),
      )

  element_used : (t : ElementType) → element_volume xs ys zs (kind_number t) (take (node_count t) places) ≡ element_volume xs ys zs (kind_number t) places
  unfolding element_volume box_volume kind_of
  element_used Tet = rw (reach_used xs 4 places, reach_used ys 4 places, reach_used zs 4 places)
  element_used Hex = rw (reach_used xs 8 places, reach_used ys 8 places, reach_used zs 8 places)
  element_used Prism = prism_used
  element_used Pyramid = rw (reach_used xs 5 places, reach_used ys 5 places, reach_used zs 5 places)

module _ (xs ys zs : List Float) (kinds places : List ℕ) where
  -- the sum with element e
  abbrev pub with_element : Float → ℕ → Float
  with_element sum e = sum ⊕ element_volume xs ys zs (get_or kinds e 0) (part (8 * e) 8 places)

  pub element_added : (sum : Float) (e : ℕ) {v : Float} {t : ElementType} {used : List ℕ} → Some t ≡ kind_of (get_or kinds e 0) → used ≡ take (node_count t) (part (8 * e) 8 places)
      → v ≡ element_volume xs ys zs (kind_number t) used → sum ⊕ v ≡ with_element sum e
  element_added sum e {t = t} is all p =
      rw (p, all, element_used xs ys zs (part (8 * e) 8 places) t, number_of (get_or kinds e 0) t is)
