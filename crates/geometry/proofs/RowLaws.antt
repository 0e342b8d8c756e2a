-- Rows written in a region list.
use Rattle.std.proofs.Common.{ℕ, ◌+◌, ◌≤◌, ◌<◌, ◌≡◌, sym, ap, ◌∙◌, List, [], ◌∷◌, ◌++◌, map, arith, zero-add, length, set, Float}
use mathlib.Core.List.{map-append}
use lib.ListN.{length-map}
use Rattle.lists.specs.Lists.{put}
use Rattle.lists.proofs.Fills.{put_none, put_more, put_sets, put_length}
use Rattle.openrdson_core.specs.declared.solids.SolidRegion.{SolidRegion}
use Rattle.geometry.specs.Regions.{Regions, the_regions, Even, put_regions}

-- one entry stored
pub written : {A : Type 0} (l : List A) (k : ℕ) {v w : A} → k < length l → v ≡ w → set l k v ≡ put l k (w ∷ [])
written l k {v} {w} h e = put_sets l k (v ∷ []) (omega arith) ∙ ap (λ (x : _). put l k (x ∷ [])) e

-- twelve equal lists are equal region lists
pub same_regions_lem : {a a' : List ℕ} {b b' c c' d d' e e' f f' g g' : List Float} {h h' i i' j j' k k' l l' : List ℕ}
    → a ≡ a' → b ≡ b' → c ≡ c' → d ≡ d' → e ≡ e' → f ≡ f' → g ≡ g' → h ≡ h' → i ≡ i' → j ≡ j' → k ≡ k' → l ≡ l'
    → the_regions a b c d e f g h i j k l ≡ the_regions a' b' c' d' e' f' g' h' i' j' k' l'
same_regions_lem p1 p2 p3 p4 p5 p6 p7 p8 p9 p10 p11 p12 = cc

-- ---- runs of rows

-- what a list has, and a further run of rows
column_more : {A : Type 0} (f : SolidRegion → A) (l : List A) (a b : List SolidRegion) (k : ℕ) → k ≡ length a → k + length b ≤ length l
    → put (put l 0 (map f a)) k (map f b) ≡ put l 0 (map f (a ++ b))
column_more f l a b k e h =
    put_more l 0 (map f a) (map f b) k (e ∙ sym (length-map a f) ∙ sym (zero-add (length (map f a)))) (omega (arith, length-map b f))
    ∙ ap (put l 0) (sym (map-append f a b))

-- a run that fits keeps the length
column_long : {A : Type 0} (f : SolidRegion → A) (l : List A) (new : List SolidRegion) (k : ℕ) → k + length new ≤ length l → length (put l k (map f new)) ≡ length l
column_long f l new k h = put_length l k (map f new) (omega (arith, length-map new f, h))

pub no_rows : (r : Regions) (k : ℕ) → put_regions r k [] ≡ r
no_rows r k =
    same_regions_lem (put_none r.kinds k) (put_none r.min_x k) (put_none r.min_y k) (put_none r.max_x k) (put_none r.max_y k) (put_none r.z_bottom k)
    (put_none r.z_top k) (put_none r.starts k) (put_none r.counts k) (put_none r.materials k) (put_none r.nets k) (put_none r.polygons k)

module _ (r : Regions) (w : Even r) where
  pub more_rows : (a b : List SolidRegion) (k : ℕ) → k ≡ length a → k + length b ≤ length r.kinds → put_regions (put_regions r 0 a) k b ≡ put_regions r 0 (a ++ b)
  more_rows a b k e h =
      same_regions_lem (column_more _ r.kinds a b k e h) (column_more _ r.min_x a b k e (omega (arith, w.min_x))) (column_more _ r.min_y a b k e (omega (arith, w.min_y)))
      (column_more _ r.max_x a b k e (omega (arith, w.max_x))) (column_more _ r.max_y a b k e (omega (arith, w.max_y))) (column_more _ r.z_bottom a b k e (omega (arith, w.z_bottom)))
      (column_more _ r.z_top a b k e (omega (arith, w.z_top))) (column_more _ r.starts a b k e (omega (arith, w.starts))) (column_more _ r.counts a b k e (omega (arith, w.counts)))
      (column_more _ r.materials a b k e (omega (arith, w.materials))) (column_more _ r.nets a b k e (omega (arith, w.nets))) (column_more _ r.polygons a b k e (omega (arith, w.polygons)))

  pub rows_long : (new : List SolidRegion) (k : ℕ) → k + length new ≤ length r.kinds → length (put_regions r k new).kinds ≡ length r.kinds
  rows_long new k h = column_long _ r.kinds new k h

  pub rows_even : (new : List SolidRegion) (k : ℕ) → k + length new ≤ length r.kinds → Even (put_regions r k new)
  rows_even new k h =
      let long = sym (rows_long new k h) in
      record {
        min_x = column_long _ r.min_x new k (omega (arith, h, w.min_x)) ∙ w.min_x ∙ long;
        min_y = column_long _ r.min_y new k (omega (arith, h, w.min_y)) ∙ w.min_y ∙ long;
        max_x = column_long _ r.max_x new k (omega (arith, h, w.max_x)) ∙ w.max_x ∙ long;
        max_y = column_long _ r.max_y new k (omega (arith, h, w.max_y)) ∙ w.max_y ∙ long;
        z_bottom = column_long _ r.z_bottom new k (omega (arith, h, w.z_bottom)) ∙ w.z_bottom ∙ long;
        z_top = column_long _ r.z_top new k (omega (arith, h, w.z_top)) ∙ w.z_top ∙ long;
        starts = column_long _ r.starts new k (omega (arith, h, w.starts)) ∙ w.starts ∙ long;
        counts = column_long _ r.counts new k (omega (arith, h, w.counts)) ∙ w.counts ∙ long;
        materials = column_long _ r.materials new k (omega (arith, h, w.materials)) ∙ w.materials ∙ long;
        nets = column_long _ r.nets new k (omega (arith, h, w.nets)) ∙ w.nets ∙ long;
        polygons = column_long _ r.polygons new k (omega (arith, h, w.polygons)) ∙ w.polygons ∙ long;
      }
