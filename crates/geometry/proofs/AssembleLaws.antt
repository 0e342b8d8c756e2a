-- Stacking a layout: the checks before it, what is written where there is room, and the plans by the table.
use Rattle.std.proofs.Common.{ℕ, ◌≤◌, ◌<◌, ◌≡◌, refl, sym, ap, ◌∙◌, subst, Bool, true, false, List, arith, length, le-leb}
use mathlib.Core.Path.{fun_ext}
use borrow.Author.Tests.{lt-leb}
use Rattle.std.specs.Prelude.{Result, Ok, Err}
use Rattle.lists.specs.Answer.{Answer, refused, given, unless, map_answer}
use Rattle.lists.specs.Lists.{put, elems}
use Rattle.openrdson_core.specs.Answers.{answer}
use Rattle.openrdson_core.specs.Blocks.{count}
use Rattle.openrdson_core.specs.Tech.{Blocks, fault_of}
use Rattle.openrdson_core.specs.declared.refusals.Refusal.{Refusal}
use Rattle.openrdson_core.specs.declared.refusals.Refusal.TheVariants.{OutputTooShort}
use Rattle.geometry.specs.Regions.{Regions, even_regions, put_regions}
use Rattle.geometry.specs.Polygons.{Polygons, even_polygons, polygons_fault, layer_at}
use Rattle.geometry.specs.Plans.{Plan, plan_of, row_plan}
use Rattle.geometry.specs.Table.{layer_plan}
use Rattle.geometry.specs.Stack.{regions_to, outcomes_to, rows_to, Stacking, stacking_by, fitted, stack_fault, assemble_stack, Leaves}
use Rattle.geometry.proofs.StackLaws.{rows_are}
use Rattle.geometry.proofs.TableLaws.{layer_plan_lem}

-- by an equal answer
pub leaves_same : {a b : Answer Stacking} {r r' : Regions} {o o' : List ℕ} {s : Result ℕ Refusal} → a ≡ b → Leaves b r r' o o' s → Leaves a r r' o o' s
leaves_same {r = r} {r'} {o} {o'} {s} e l = subst (λ (c : Answer Stacking). Leaves c r r' o o' s) (sym e) l

-- where the call is refused, all is as it was
pub refused_leaves : (r : Regions) (o : List ℕ) (a : Answer Stacking) {n : ℕ} {s : Result ℕ Refusal} → a ≡ refused n → answer s ≡ refused n → Leaves a r r o o s
refused_leaves r o a e f = leaves_same e (record { count = f; rows = refl; told = refl })

-- a layout stacked, where nothing is against it
abbrev pub stacked : Blocks → Polygons → Regions → List ℕ → Answer Stacking
stacked b p r o = fitted p (λ i. plan_of b (layer_at p i)) (length r.kinds) (length o)

-- ---- after the checks: 12, or what is written. The rows are counted and written by the plans in the filled list.

module _ (b : Blocks) (p : Polygons) (r : Regions) (o : List ℕ) (plans filled : List Plan) (is : filled ≡ put plans 0 (elems (count b.names) (row_plan b))) where
  abbrev n : ℕ
  n = length p.layers

  abbrev used : ℕ → Plan
  used = λ i. layer_plan b.names filled (layer_at p i)

  abbrev plan : ℕ → Plan
  plan = λ i. plan_of b (layer_at p i)

  -- they are the layers'
  same : used ≡ plan
  same = fun_ext (λ i. ap (λ (u : List Plan). layer_plan b.names u (layer_at p i)) is ∙ layer_plan_lem b plans (layer_at p i))

  module _ {k : ℕ} (e : k ≡ rows_to used n) where
    rows_by : length (regions_to p plan n) ≡ k
    rows_by = rows_are p plan n ∙ ap (λ (f : ℕ → Plan). rows_to f n) (sym same) ∙ sym e

    pub regions_short : length r.kinds < k → Leaves (stacked b p r o) r r o o (Err OutputTooShort)
    unfolding fitted
    regions_short h = let g : length r.kinds < length (regions_to p plan n) = omega (arith, rows_by, h) in refused_leaves r o (stacked b p r o) (rw (lt-leb _ _ g)) refl

    module _ (h : k ≤ length r.kinds) where
      rows_fit : length (regions_to p plan n) ≤ length r.kinds
      rows_fit = omega (arith, rows_by, h)

      pub outcomes_short : length o < n → Leaves (stacked b p r o) r r o o (Err OutputTooShort)
      unfolding fitted
      outcomes_short l = refused_leaves r o (stacked b p r o) (rw (le-leb _ _ rows_fit, lt-leb _ _ l)) refl

      -- there is room for the regions by the plans used
      pub used_room : length (regions_to p used n) ≤ length r.kinds
      used_room = omega (arith, rows_are p used n, e, h)

      module _ (l : n ≤ length o) where
        all_fit : stacked b p r o ≡ given (stacking_by p plan)
        unfolding fitted
        all_fit = rw (le-leb _ _ rows_fit, le-leb _ _ l)

        pub all_written : {r' : Regions} {o' : List ℕ} → r' ≡ put_regions r 0 (regions_to p used n) → o' ≡ put o 0 (outcomes_to p used n) → Leaves (stacked b p r o) r r' o o' (Ok k)
        all_written f g =
            leaves_same all_fit
            (record {
              count = ap (λ (m : ℕ). given m) (sym rows_by);
              rows = f ∙ ap (λ (q : ℕ → Plan). put_regions r 0 (regions_to p q n)) same;
              told = g ∙ ap (λ (q : ℕ → Plan). put o 0 (outcomes_to p q n)) same;
            })

-- ---- the call

-- a check's answer, by what it gave
pub answer_was : {A : Type 0} {x y : Result A Refusal} {fault : Answer (Unit {0})} → map_answer (λ (_ : A). tt {0}) (answer x) ≡ fault → x ≡ y
    → fault ≡ map_answer (λ (_ : A). tt {0}) (answer y)
answer_was {A} e g = sym e ∙ ap (λ (z : Result A Refusal). map_answer (λ (_ : A). tt {0}) (answer z)) g

-- uneven lists either way
either_way : {A : Type 0} (even : Bool) → ◌≡◌ {A = Answer A} (unless even 16 (refused 16)) (refused 16)
either_way true = refl
either_way false = refl

module _ (b : Blocks) (p : Polygons) (r : Regions) (o : List ℕ) where
  stack_refused : {n : ℕ} → stack_fault b p r ≡ refused n → assemble_stack b p r o ≡ refused n
  unfolding assemble_stack
  stack_refused e = rw e

  pub blocks_refused : {n : ℕ} → fault_of b ≡ refused n → assemble_stack b p r o ≡ refused n
  unfolding stack_fault
  blocks_refused e = stack_refused (rw e)

  module _ (fine : fault_of b ≡ given tt) where
    pub uneven_refused : even_regions r ≡ false → assemble_stack b p r o ≡ refused 16
    unfolding stack_fault
    uneven_refused e = stack_refused (rw (fine, e) (either_way (even_polygons p)))

    module _ (even : even_regions r ≡ true) where
      polygons_next : stack_fault b p r ≡ polygons_fault p
      unfolding stack_fault polygons_fault
      polygons_next = rw (fine, even)

      pub polygons_refused : {n : ℕ} → polygons_fault p ≡ refused n → assemble_stack b p r o ≡ refused n
      polygons_refused e = stack_refused (polygons_next ∙ e)

      stack_given : polygons_fault p ≡ given tt → assemble_stack b p r o ≡ stacked b p r o
      unfolding assemble_stack
      stack_given e = rw (polygons_next ∙ e)

      -- what the call leaves is what stacking the checked blocks and polygons leaves
      pub stack_leaves : {b' : Blocks} {p' : Polygons} {r' : Regions} {o' : List ℕ} {s : Result ℕ Refusal} → polygons_fault p ≡ given tt → b' ≡ b → p' ≡ p
          → Leaves (stacked b' p' r o) r r' o o' s → Leaves (assemble_stack b p r o) r r' o o' s
      stack_leaves {b'} {p'} e f g l =
          leaves_same (stack_given e ∙ sym (ap (λ (c : Blocks). stacked c p' r o) f ∙ ap (λ (q : Polygons). stacked b q r o) g)) l
