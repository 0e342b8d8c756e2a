-- Stacking a layout: the regions of its polygons, and one outcome a polygon.
use Rattle.std.specs.Prelude.{ℕ, ◌+◌, ◌≡◌, List, [], ◌∷◌, leb, length, get_or, Float, Result, Ok, Err}
use Rattle.lists.specs.Answer.{Answer, given, unless, and_then, map_answer, left}
use Rattle.lists.specs.Lists.{put, runs, elems, fold_below}
use Rattle.openrdson_core.specs.Answers.{answer}
use Rattle.openrdson_core.specs.Tech.{Blocks, blocks_fault}
use Rattle.openrdson_core.specs.declared.refusals.Refusal.{Refusal}
use Rattle.openrdson_core.specs.declared.solids.SolidRegion.{SolidRegion}
use Rattle.geometry.specs.Regions.{Regions, even_regions, the_region, kind_number, kind_of, put_regions}
use Rattle.geometry.specs.Polygons.{Polygons, even_polygons, parts_fault, part_solid, layer_at}
use Rattle.geometry.specs.Plans.{Plan, skip_number, plan_of}
use Rattle.geometry.specs.declared.plans.Skip.{Skip}
use Rattle.geometry.specs.declared.regions.RowKind.{RowKind}

-- ---- what a polygon, a part of the point lists, comes to by a plan: one region or none, and an outcome: 0 box, 1 prism, else why there is no region

-- a row's kind, or why there is none, as a number
abbrev pub outcome_number : Result RowKind Skip → ℕ
outcome_number (Ok kind) = kind_number kind
outcome_number (Err why) = skip_number why

module _ (xs ys : List Float) (start count : ℕ) where
  -- its regions
  abbrev pub regions_of : ℕ → ℕ → Plan → List SolidRegion
  regions_of net polygon (Err why) = []
  regions_of net polygon (Ok s) = the_region s.material.0 net polygon (part_solid xs ys start count s.range.bottom s.range.top) ∷ []

  -- its outcome
  abbrev pub outcome_of : Plan → ℕ
  outcome_of (Err why) = skip_number why
  outcome_of (Ok s) = kind_of (part_solid xs ys start count s.range.bottom s.range.top)

-- how many regions a plan gives
abbrev pub rows_of : Plan → ℕ
rows_of (Err why) = 0
rows_of (Ok s) = 1

-- ---- polygon i of a layout

abbrev pub regions_at : Polygons → ℕ → Plan → List SolidRegion
regions_at p i = regions_of p.xs p.ys (get_or p.starts i 0) (get_or p.counts i 0) (get_or p.nets i 0) i

abbrev pub outcome_at : Polygons → ℕ → Plan → ℕ
outcome_at p i = outcome_of p.xs p.ys (get_or p.starts i 0) (get_or p.counts i 0)

-- what the first n polygons come to, in order, each by its plan
unfoldable pub regions_to : Polygons → (ℕ → Plan) → ℕ → List SolidRegion
regions_to p plan n = runs n (λ i. regions_at p i (plan i))

unfoldable pub outcomes_to : Polygons → (ℕ → Plan) → ℕ → List ℕ
outcomes_to p plan n = elems n (λ i. outcome_at p i (plan i))

-- how many regions these are
unfoldable pub rows_to : (ℕ → Plan) → ℕ → ℕ
rows_to plan n = fold_below n (λ rows i. rows + rows_of (plan i)) 0

-- ---- the whole layout: a polygon's plan goes by its layer

-- all regions, and all outcomes
pub record Stacking : Type 0 where
  pub regions : List SolidRegion
  pub outcomes : List ℕ

abbrev pub stacking_by : Polygons → (ℕ → Plan) → Stacking
stacking_by p plan = record { regions = regions_to p plan (length p.layers); outcomes = outcomes_to p plan (length p.layers) }

-- 12, where region lists of so many rows and so many outcomes are lent
unfoldable pub fitted : Polygons → (ℕ → Plan) → ℕ → ℕ → Answer Stacking
fitted p plan rows outcomes =
    unless (leb (length (stacking_by p plan).regions) rows) 12 (unless (leb (length p.layers) outcomes) 12 (given (stacking_by p plan)))

-- what stacking is refused for before 12: 14 and 1 for the blocks; 16; 2; polygon by polygon 15, 2, 1
unfoldable pub stack_fault : Blocks → Polygons → Regions → Answer (Unit {0})
stack_fault b p r =
    and_then (blocks_fault b.names b.conducting b.via b.conductors b.diffusions b.vias) (λ _.
    unless (even_polygons p) 16
    (unless (even_regions r) 16
    (unless (leb (length p.layers) 4096) 2
    (unless (leb (length p.xs) 2097152) 2
    (parts_fault p.xs p.ys p.starts p.counts (length p.layers))))))

-- the whole call, with 12
unfoldable pub assemble_stack : Blocks → Polygons → Regions → List ℕ → Answer Stacking
assemble_stack b p r outcomes =
    and_then (stack_fault b p r) (λ _. fitted p (λ i. plan_of b (layer_at p i)) (length r.kinds) (length outcomes))

-- ---- what the call answers, the number of regions, and what it leaves in the region lists and in the outcomes

pub record Leaves (a : Answer Stacking) (r r' : Regions) (outcomes outcomes' : List ℕ) (result : Result ℕ Refusal) : Type 0 where
  pub count : answer result ≡ map_answer (λ (s : Stacking). length s.regions) a
  pub rows : r' ≡ left (map_answer (λ (s : Stacking). put_regions r 0 s.regions) a) r
  pub told : outcomes' ≡ left (map_answer (λ (s : Stacking). put outcomes 0 s.outcomes) a) outcomes
