-- What a model call leaves: a well-formed mesh stays well formed, refused or not. Assumes nothing.
use Prim.Native.Nat.{ℕ, zero, suc}
use mathlib.Core.Path.{◌≡◌, refl, sym, ◌∙◌}
use mathlib.Core.Bool.{true}
use mathlib.Core.List.{List}
use lib.ListN.{length}
use lib.Ieee.{Float}
use Rattle.std.specs.Prelude.{Result}
use Rattle.lists.specs.Answer.{Answer, refused, given, map_answer, left}
use Rattle.lists.specs.Lists.{fold_below}
use Rattle.lists.proofs.Answers.{passed_then, given_same}
use Rattle.openrdson_core.specs.Mesh.{Mesh, well_formed}
use Rattle.openrdson_core.specs.Answers.{answer}
use Rattle.openrdson_core.specs.declared.mesh.Counts.{Counts}
use Rattle.openrdson_core.specs.declared.refusals.Refusal.{Refusal}
use Rattle.geometry.specs.Regions.{Regions, region_at}
use Rattle.meshing.specs.declared.cells.MeshConfig.{MeshConfig}
use Rattle.meshing.specs.Added.{Part, grown, added}
use Rattle.meshing.specs.Regions.{mesh_region}
use Rattle.meshing.specs.Models.{Overrides, config_for, Run, row_part, tried, run_to, mesh_model, ModelAs}
use Rattle.theorems.proofs.WellFormed.{region_well_formed}
use Rattle.meshing.proofs.ModelLaws.{job_judged, model_is}

module _ (r : Regions) (px py : List Float) (o : Overrides) (default : MeshConfig) where
  -- a region that is tried
  pub tried_well_formed : (s : Run) (i : ℕ) → well_formed s.counts s.mesh ≡ true
      → well_formed (tried r px py o default s i).counts (tried r px py o default s i).mesh ≡ true
  unfolding tried row_part
  tried_well_formed s i h = of (row_part r px py o default i s.counts s.mesh) refl
    where
      of : (a : Answer Part) → row_part r px py o default i s.counts s.mesh ≡ a
          → well_formed (left (map_answer (grown s.counts) a) s.counts) (left (map_answer (λ p. added s.counts i p s.mesh) a) s.mesh) ≡ true
      of (refused k) e = h
      of (given p) e =
          let t = passed_then (region_at r (length px) i) (λ g. mesh_region g.solid g.material_id.0 (config_for o default g.material_id.0) s.counts px py s.mesh) e in
          let g = t.0 in
          region_well_formed g.solid g.material_id.0 (config_for o default g.material_id.0) s.counts px py s.mesh p t.2 i h

  -- the first n regions
  pub run_well_formed : (c : Counts) (m : Mesh) → well_formed c m ≡ true → (n : ℕ) → well_formed (run_to r px py o default c m n).counts (run_to r px py o default c m n).mesh ≡ true
  unfolding fold_below
  run_well_formed c m h zero = h
  run_well_formed c m h (suc n) = tried_well_formed (run_to r px py o default c m n) n (run_well_formed c m h n)

  -- what the call leaves, with the counts that it gives or those that it had
  pub model_well_formed : (c : Counts) (m m' : Mesh) (d : ℕ) (ds ds' : List ℕ) (a : Result Counts Refusal) → ModelAs (mesh_model r px py o default c m d) m ds a m' ds' → well_formed c m ≡ true
      → well_formed (left (answer a) c) m' ≡ true
  model_well_formed c m m' d ds ds' a x w = of (mesh_model r px py o default c m d) refl x
    where
      of : (b : Answer Run) → mesh_model r px py o default c m d ≡ b → ModelAs b m ds a m' ds' → well_formed (left (answer a) c) m' ≡ true
      of (refused k) e x = rw (x.answer, x.mesh) w
      of (given s) e x =
          let t = passed_then (job_judged r px py o default c m d) (λ _. given (run_to r px py o default c m (length r.kinds))) (sym (model_is r px py o default c m d) ∙ e) in
          let is : run_to r px py o default c m (length r.kinds) ≡ s = given_same t.2 in
          rw (x.answer, x.mesh, ← is) (run_well_formed c m w (length r.kinds))
