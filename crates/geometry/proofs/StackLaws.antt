-- What the polygons come to, one after the other.
use Rattle.std.proofs.Common.{ℕ, List, [], ◌∷◌, cond, get_or, zero, suc, ◌+◌, ◌≤◌, ◌<◌, ◌≡◌, refl, sym, ap, subst, ◌∙◌, inl, inr, ◌++◌, eq-or-lt_of_le, add-one, arith, length, length-append}
use Rattle.lists.specs.Lists.{runs, fold_below}
use Rattle.geometry.specs.Regions.{Regions, Even, put_regions}
use Rattle.geometry.specs.Polygons.{Polygons}
use Rattle.geometry.specs.Stack.{rows_of, regions_at, regions_to, rows_to}
use Rattle.std.specs.Prelude.{ℤ, pos, Ok, Err}
use Rattle.std.specs.List.{filter}
use Rattle.std.specs.Result.{is_ok}
use Rattle.geometry.specs.Plans.{Plan}
use Rattle.geometry.proofs.RowLaws.{no_rows, more_rows, rows_long, rows_even}

-- ---- one polygon

pub one_row : (plan : Plan) → rows_of plan ≤ 1
one_row (Err why) = omega arith
one_row (Ok s) = omega arith

-- ---- how many rows there are

module _ (plan : ℕ → Plan) where
  pub rows_none : 0 ≡ rows_to plan 0
  unfolding rows_to fold_below
  rows_none = refl

  rows_suc : (n : ℕ) → rows_to plan (suc n) ≡ rows_to plan n + rows_of (plan n)
  unfolding rows_to fold_below
  rows_suc n = refl

  pub rows_more : (i : ℕ) → rows_to plan (i + 1) ≡ rows_to plan i + rows_of (plan i)
  rows_more i = ap (rows_to plan) (add-one i) ∙ rows_suc i

  -- a turn that counts the rows of polygon i
  pub rows_step : (i : ℕ) {k r : ℕ} (q : Plan) → k ≡ rows_to plan i → r ≡ rows_of q → q ≡ plan i → k + r ≡ rows_to plan (i + 1)
  rows_step i q e f g = let h : rows_of q ≡ rows_of (plan i) = ap rows_of g in omega (arith, e, f, h, rows_more i)

  -- the rows of polygon i are among those of all
  pub rows_among : (n i : ℕ) → i < n → rows_to plan i + rows_of (plan i) ≤ rows_to plan n
  rows_among zero i h = absurd (omega arith)
  rows_among (suc n) i h =
      let l : i ≤ n = omega arith in
      elim (eq-or-lt_of_le l) [
        | inl g ↦ let e : rows_to plan i + rows_of (plan i) ≡ rows_to plan (suc n) = ap (λ (j : ℕ). rows_to plan j + rows_of (plan j)) g ∙ sym (rows_suc n) in omega (arith, e)
        | inr g ↦ omega (arith, rows_among n i g, rows_suc n)
      ]

  -- no more rows than polygons
  pub rows_few : (n : ℕ) → rows_to plan n ≤ n
  rows_few zero = omega (arith, rows_none)
  rows_few (suc n) = omega (arith, rows_few n, rows_suc n, one_row (plan n))

-- the first row, then the rows of the others
rows_front : (plan : ℕ → Plan) (n : ℕ) → rows_to plan (suc n) ≡ rows_of (plan 0) + rows_to (λ i. plan (suc i)) n
rows_front plan zero = omega (arith, rows_suc plan 0, rows_none plan, rows_none (λ i. plan (suc i)))
rows_front plan (suc n) = omega (arith, rows_suc plan (suc n), rows_front plan n, rows_suc (λ i. plan (suc i)) n)

one_passed : (layer : ℤ) (rest : List ℤ) (q : Plan) → length (cond (is_ok q) (layer ∷ rest) rest) ≡ rows_of q + length rest
one_passed layer rest (Err why) = omega arith
one_passed layer rest (Ok s) = omega arith

-- as many rows as layers whose plan gives one
pub rows_listed : (plan : ℤ → Plan) (layers : List ℤ) → length (filter (λ layer. is_ok (plan layer)) layers) ≡ rows_to (λ i. plan (get_or layers i (pos 0))) (length layers)
rows_listed plan [] = rows_none _
rows_listed plan (layer ∷ rest) =
    let here = one_passed layer (filter (λ layer. is_ok (plan layer)) rest) (plan layer) in
    omega (arith, here, rows_listed plan rest, rows_front (λ i. plan (get_or (layer ∷ rest) i (pos 0))) (length rest))

-- ---- the regions of the polygons

module _ (p : Polygons) where
  pub rows_at : (i : ℕ) (plan : Plan) → length (regions_at p i plan) ≡ rows_of plan
  rows_at i (Err why) = refl
  rows_at i (Ok s) = refl

  module _ (plan : ℕ → Plan) where
    pub regions_more : (i : ℕ) → regions_to p plan (i + 1) ≡ regions_to p plan i ++ regions_at p i (plan i)
    unfolding regions_to runs
    regions_more i = ap (λ (n : ℕ). runs n (λ (j : ℕ). regions_at p j (plan j))) (add-one i)

    regions_suc : (n : ℕ) → length (regions_to p plan (suc n)) ≡ length (regions_to p plan n) + rows_of (plan n)
    unfolding regions_to runs
    regions_suc n = length-append (runs n (λ (j : ℕ). regions_at p j (plan j))) (regions_at p n (plan n)) ∙ ap (λ (m : ℕ). length (runs n (λ (j : ℕ). regions_at p j (plan j))) + m) (rows_at n (plan n))

    rows_zero : length (regions_to p plan 0) ≡ rows_to plan 0
    unfolding regions_to runs rows_to fold_below
    rows_zero = refl

    -- as many regions as rows are counted
    pub rows_are : (n : ℕ) → length (regions_to p plan n) ≡ rows_to plan n
    rows_are zero = rows_zero
    rows_are (suc n) = regions_suc n ∙ ap (λ (m : ℕ). m + rows_of (plan n)) (rows_are n) ∙ sym (rows_suc plan n)

    -- ---- the rows written after i of n polygons, where the lists have room for all

    module _ (n : ℕ) (r₀ : Regions) (w : Even r₀) (room : length (regions_to p plan n) ≤ length r₀.kinds) where
      pub none_placed : r₀ ≡ put_regions r₀ 0 (regions_to p plan 0)
      unfolding regions_to runs
      none_placed = sym (no_rows r₀ 0)

      -- row k is there for polygon i
      pub place_room : (i k : ℕ) → i < n → k ≡ rows_to plan i → k + rows_of (plan i) ≤ length r₀.kinds
      place_room i k h e = omega (arith, e, rows_among plan n i h, rows_are n, room)

      sofar_room : (i : ℕ) → i < n → 0 + length (regions_to p plan i) ≤ length r₀.kinds
      sofar_room i h = omega (arith, rows_are i, rows_among plan n i h, rows_are n, room)

      -- the lists are as long as they were
      pub placed_long : (i : ℕ) (r : Regions) → i < n → r ≡ put_regions r₀ 0 (regions_to p plan i) → length r.kinds ≡ length r₀.kinds
      placed_long i r h f = ap (λ (l : Regions). length l.kinds) f ∙ rows_long r₀ w (regions_to p plan i) 0 (sofar_room i h)

      pub placed_even : (i : ℕ) (r : Regions) → i < n → r ≡ put_regions r₀ 0 (regions_to p plan i) → Even r
      placed_even i r h f = subst (λ (l : Regions). Even l) (sym f) (rows_even r₀ w (regions_to p plan i) 0 (sofar_room i h))

      -- a turn that writes the rows of polygon i
      pub placed_more : (i k : ℕ) (r r' : Regions) (q : Plan) → i < n → k ≡ rows_to plan i → r ≡ put_regions r₀ 0 (regions_to p plan i) → r' ≡ put_regions r k (regions_at p i q) → q ≡ plan i
          → r' ≡ put_regions r₀ 0 (regions_to p plan (i + 1))
      placed_more i k r r' q h e f g is =
          g ∙ ap (λ (o : Plan). put_regions r k (regions_at p i o)) is ∙ ap (λ (l : Regions). put_regions l k (regions_at p i (plan i))) f
          ∙ more_rows r₀ w (regions_to p plan i) (regions_at p i (plan i)) k (e ∙ sym (rows_are i)) (omega (arith, place_room i k h e, rows_at i (plan i)))
          ∙ ap (put_regions r₀ 0) (sym (regions_more i))
