-- A model: what a row of the region list adds, and a turn of the loop over the regions. Assumes nothing.
use Prim.Native.Nat.{ℕ, zero, suc, ◌+◌, ◌≤◌, ◌<◌}
use native.Mathlib.Nat.{not-suc-le-zero}
use mathlib.Core.Path.{◌≡◌, refl, sym, ap, ◌∙◌}
use mathlib.Core.Bool.{Bool, true, false, ◌&&◌}
use mathlib.Core.List.{List, [], ◌∷◌, ◌++◌}
use native.Mathlib.Omega.{arith}
use lib.Dec.{eqb, leb, ltb}
use lib.ListN.{length, get_or, set, length-append}
use borrow.Author.Tests.{eqb-true, eq-eqb, ne_eqb, ltb-true, ltb-false}
use lib.Ieee.{Float}
use Rattle.binary64.specs.Numbers.{at}
use Rattle.std.specs.Prelude.{◌≢◌, Result, Ok, Err}
use Rattle.std.specs.Result.{result_unwrap_or}
use Rattle.lists.specs.Answer.{Answer, refused, given, unless, and_then, map_answer, left, status}
use Rattle.lists.specs.Lists.{put, fold_below, all_of}
use Rattle.lists.proofs.Scans.{both}
use Rattle.lists.proofs.Folds.{fold_more}
use Rattle.lists.proofs.Fills.{put_none, put_set}
use Rattle.lists.proofs.Passing.{all_of_from, all_of_fails}
use Rattle.std.specs.Bool.{MatchBool}
use Rattle.std.specs.List.{AllWithin, HoldsAt}
use Rattle.openrdson_core.specs.Mesh.{Mesh, parallel, within}
use Rattle.openrdson_core.specs.Answers.{answer}
use Rattle.openrdson_core.specs.declared.mesh.Counts.{Counts}
use Rattle.openrdson_core.specs.declared.refusals.Refusal.{Refusal}
use Rattle.openrdson_core.specs.declared.solids.SolidRegion.{SolidRegion}
use Rattle.geometry.specs.Regions.{Regions, even_regions, region_at}
use Rattle.meshing.specs.declared.cells.MeshConfig.{MeshConfig}
use Rattle.meshing.specs.Added.{grown, Adds}
use Rattle.meshing.specs.Regions.{mesh_region}
use Rattle.meshing.specs.Models as spec
use Rattle.meshing.specs.Models.{Overrides, the_overrides, no_overrides, even_overrides, named, chosen, config_for, Run, row_part, tried, run_to, mesh_model, model_judged, RunAs, ModelAs}

-- the counts that a call gives, or those before it
pub unwrapped : (r : Result Counts Refusal) (c : Counts) → result_unwrap_or r c ≡ left (answer r) c
unwrapped (Ok d) c = refl
unwrapped (Err why) c = refl

-- the cell sizes of a material: no override names it, or i is the last that does
module _ (o : Overrides) (default : MeshConfig) (material : ℕ) where
  default_below : (n : ℕ) → ((i : ℕ) → i < n → get_or o.materials i 0 ≢ material) → default ≡ fold_below n (chosen o material) default
  unfolding fold_below
  default_below zero f = refl
  default_below (suc n) f = rw (ne_eqb (get_or o.materials n 0) material (f n (omega arith))) (default_below n (λ i h. f i (omega arith)))

  last_below : (n i : ℕ) → i < n → get_or o.materials i 0 ≡ material → ((k : ℕ) → i + 1 ≤ k → k < n → get_or o.materials k 0 ≢ material)
      → record { lateral_cell = at o.laterals i; z_cell = at o.verticals i } ≡ fold_below n (chosen o material) default
  unfolding fold_below
  last_below zero i h e f = absurd (not-suc-le-zero h)
  last_below (suc n) i h e f = go (λ g. last_below n i g e (λ k a b. f k a (omega arith))) (ltb i n) refl
    where
      go : (i < n → record { lateral_cell = at o.laterals i; z_cell = at o.verticals i } ≡ fold_below n (chosen o material) default) → (b : Bool) → ltb i n ≡ b
          → record { lateral_cell = at o.laterals i; z_cell = at o.verticals i } ≡ chosen o material (fold_below n (chosen o material) default) n
      go left true t = rw (ne_eqb (get_or o.materials n 0) material (f n (omega (arith, ltb-true i n t)) (omega arith))) (left (ltb-true i n t))
      go left false t = let q : n ≡ i = omega (arith, ltb-false i n t) in rw (q, eq-eqb (get_or o.materials i 0) material e) refl

  pub config_default : ((i : ℕ) → i < length o.materials → get_or o.materials i 0 ≢ material) → default ≡ config_for o default material
  unfolding config_for
  config_default f = default_below (length o.materials) f

  pub config_last : (i : ℕ) → i < length o.materials → get_or o.materials i 0 ≡ material → ((k : ℕ) → i + 1 ≤ k → k < length o.materials → get_or o.materials k 0 ≢ material)
      → record { lateral_cell = at o.laterals i; z_cell = at o.verticals i } ≡ config_for o default material
  unfolding config_for
  config_last i h e f = last_below (length o.materials) i h e f

-- what std's `all` tells of a list, as a test of it
pub all_decides : {A : Type 0} (test : A → Bool) (l : List A) (other : A) (r : Bool)
    → MatchBool r (AllWithin (λ x. test x ≡ true) l 0 (length l)) ((k : ℕ) × (k < length l) × HoldsAt (λ x. test x ≡ false) l k) → r ≡ all_of test l
all_decides test l other true h = sym (all_of_from test l other (λ i g. h i other (omega arith) g))
all_decides test l other false h = sym (all_of_fails test l h.0 other h.1 (h.2 other))

module _ (r : Regions) (px py : List Float) (o : Overrides) (default : MeshConfig) where
  -- a row that is refused, and one that is a region
  pub row_refused : (i : ℕ) (c : Counts) (m : Mesh) {k : ℕ} → refused k ≡ region_at r (length px) i → row_part r px py o default i c m ≡ refused k
  unfolding row_part
  row_refused i c m e = rw (sym e)

  pub row_built : (i : ℕ) (c : Counts) (m : Mesh) {g : SolidRegion} {cells : MeshConfig} → given g ≡ region_at r (length px) i
      → cells ≡ config_for o default g.material_id.0 → mesh_region g.solid g.material_id.0 cells c px py m ≡ row_part r px py o default i c m
  unfolding row_part
  row_built i c m e f = rw (sym e, f)

  -- region i is tried: what the row's call leaves is the next run
  pub run_more : (i : ℕ) (s : Run) (m' : Mesh) {a : Result Counts Refusal} {c' : Counts} {k : ℕ}
      → Adds (row_part r px py o default i s.counts s.mesh) s.counts i s.mesh m' a
      → c' ≡ left (answer a) s.counts → k ≡ status (answer a)
      → record { counts = c'; mesh = m'; diagnostics = s.diagnostics ++ k ∷ [] } ≡ tried r px py o default s i
  unfolding tried
  run_more i s m' adds e f =
      rw (e, f, adds.answer, adds.lists, same_status (grown s.counts) (row_part r px py o default i s.counts s.mesh))
    where
      same_status : {A B : Type 0} (g : A → B) (a : Answer A) → status (map_answer g a) ≡ status a
      same_status g (refused n) = refl
      same_status g (given p) = refl

  module _ (c : Counts) (m : Mesh) where
    -- the first i regions have been tried; there is a diagnostic for each
    pub record Running (ds : List ℕ) (i : ℕ) (c' : Counts) (m' : Mesh) (ds' : List ℕ) : Type 0 where
      pub run : RunAs (run_to r px py o default c m i) c' m' ds ds'
      pub many : length (run_to r px py o default c m i).diagnostics ≡ i

    pub running_start : (ds : List ℕ) → Running ds 0 c m ds
    unfolding fold_below
    running_start ds = record { run = record { counts = refl; mesh = refl; diagnostics = sym (put_none ds 0) }; many = refl }

    -- region i is tried: what its call leaves, and its diagnostic
    pub running_more : {ds : List ℕ} {i : ℕ} {c' c'' : Counts} {m' m'' : Mesh} {ds' : List ℕ} {a : Result Counts Refusal} {k : ℕ} → Running ds i c' m' ds' → i < length ds
        → Adds (row_part r px py o default i c' m') c' i m' m'' a → c'' ≡ left (answer a) c' → k ≡ status (answer a)
        → Running ds (i + 1) c'' m'' (set ds' i k)
    running_more {ds} {i} {c'} {c''} {m'} {m''} {ds'} {a} {k} s room adds e f =
        let old = run_to r px py o default c m i in
        let new : Run = record { counts = c''; mesh = m''; diagnostics = old.diagnostics ++ k ∷ [] } in
        let is : new ≡ tried r px py o default old i = run_more i old m'' (rw (s.run.counts, s.run.mesh) at adds) (e ∙ ap (left (answer a)) s.run.counts) f in
        let next : new ≡ run_to r px py o default c m (i + 1) = fold_more (tried r px py o default) (record { counts = c; mesh = m; diagnostics = [] }) i refl is in
        record {
          run = record {
            counts = ap (λ (s : Run). s.counts) next;
            mesh = ap (λ (s : Run). s.mesh) next;
            diagnostics = ap (λ (l : List ℕ). set l i k) s.run.diagnostics ∙ put_set ds 0 old.diagnostics i k (omega (arith, s.many)) room ∙ ap (λ (s : Run). put ds 0 s.diagnostics) next;
          };
          many = sym (ap (λ (s : Run). length s.diagnostics) next) ∙ length-append old.diagnostics (k ∷ []) ∙ omega (arith, s.many);
        }

-- ---- the refusals

pub even_lists : (o : Overrides) → even_overrides o ≡ true → (length o.laterals ≡ length o.materials) × (length o.verticals ≡ length o.materials)
even_lists o e =
    let b = both (eqb (length o.laterals) (length o.materials)) (eqb (length o.verticals) (length o.materials)) e in
    (eqb-true (length o.laterals) (length o.materials) b.0, eqb-true (length o.verticals) (length o.materials) b.1)

-- row by row, and kind by kind
chain : {A : Type 0} (a b c d e f g h i j : Bool) (x : A)
    → unless a 16 (unless b 16 (unless c 16 (unless d 16 (unless e 2 (unless f 2 (unless g 2 (unless h 15 (unless i 15 (unless j 12 (given x))))))))))
    ≡ and_then (unless (a && b && c && d) 16 (unless (e && f && g) 2 (unless (h && i) 15 (unless j 12 (given (tt {0})))))) (λ _. given x)
chain false b c d e f g h i j x = refl
chain true false c d e f g h i j x = refl
chain true true false d e f g h i j x = refl
chain true true true false e f g h i j x = refl
chain true true true true false f g h i j x = refl
chain true true true true true false g h i j x = refl
chain true true true true true true false h i j x = refl
chain true true true true true true true false i j x = refl
chain true true true true true true true true false j x = refl
chain true true true true true true true true true false x = refl
chain true true true true true true true true true true x = refl

module _ (r : Regions) (px py : List Float) (o : Overrides) (default : MeshConfig) (c : Counts) (m : Mesh) (d : ℕ) where
  abbrev pub job_judged : Answer (Unit {0})
  job_judged = spec.job_judged r px py o c m d

  pub model_is : mesh_model r px py o default c m d ≡ and_then job_judged (λ _. given (run_to r px py o default c m (length r.kinds)))
  unfolding mesh_model model_judged
  model_is =
      chain (even_regions r) (eqb (length px) (length py)) (even_overrides o) (parallel m) (leb (length r.kinds) 4096) (leb (length px) 2097152) (leb (length o.materials) 4096) (within c m)
      (all_of named o.materials) (leb (length r.kinds) d) (run_to r px py o default c m (length r.kinds))

  -- a job that is refused leaves the lists as they were
  pub model_refused : (ds : List ℕ) {a : Result Counts Refusal} {k : ℕ} → refused k ≡ job_judged → answer a ≡ refused k → ModelAs (mesh_model r px py o default c m d) m ds a m ds
  model_refused ds e f = rw (model_is, sym e) (record { answer = f; mesh = refl; diagnostics = refl })

  -- one that is meshed leaves what its regions leave
  pub model_done : {ds ds' : List ℕ} {c' : Counts} {m' : Mesh} → given tt ≡ job_judged → RunAs (run_to r px py o default c m (length r.kinds)) c' m' ds ds'
      → ModelAs (mesh_model r px py o default c m d) m ds (Ok c') m' ds'
  model_done e s = rw (model_is, sym e) (record { answer = ap given s.counts; mesh = s.mesh; diagnostics = s.diagnostics })

-- ---- `mesh_model` answers and leaves what `mesh_model_with_options` does with no override: by their contracts

pub no_override : (r : Regions) (px py : List Float) (default : MeshConfig) (c : Counts) (m : Mesh) (d : ℕ) (ds : List ℕ) {m₁ m₂ : Mesh} {ds₁ ds₂ : List ℕ} {a₁ a₂ : Result Counts Refusal}
    → ModelAs (mesh_model r px py no_overrides default c m d) m ds a₁ m₁ ds₁
    → ModelAs (mesh_model r px py (the_overrides [] [] []) default c m d) m ds a₂ m₂ ds₂
    → (answer a₁ ≡ answer a₂) × (m₁ ≡ m₂) × (ds₁ ≡ ds₂)
no_override r px py default c m d ds p q = (p.answer ∙ sym q.answer, p.mesh ∙ sym q.mesh, p.diagnostics ∙ sym q.diagnostics)
