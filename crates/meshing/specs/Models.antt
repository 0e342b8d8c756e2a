-- Meshing a model: region by region, each diagnostic 0 or its refusal; a refused region leaves the mesh so far as it is.
use Rattle.std.specs.Prelude.{ℕ, ◌-◌, ◌≡◌, Bool, ◌&&◌, cond, List, [], ◌∷◌, ◌++◌, eqb, leb, length, get_or, Float, Result}
use Rattle.lists.specs.Answer.{Answer, given, unless, and_then, map_answer, left, status}
use Rattle.lists.specs.Lists.{put, part, fold_below, all_of}
use Rattle.binary64.specs.Numbers.{at}
use Rattle.openrdson_core.specs.Mesh.{Mesh, parallel, within}
use Rattle.openrdson_core.specs.Answers.{answer as answered}
use Rattle.openrdson_core.specs.declared.mesh.Counts.{Counts}
use Rattle.openrdson_core.specs.declared.refusals.Refusal.{Refusal}
use Rattle.geometry.specs.Regions.{Regions, even_regions, region_at}
use Rattle.meshing.specs.declared.cells.MeshConfig.{MeshConfig}
use Rattle.meshing.specs.declared.model.Overrides.{Overrides as Lent}
use Rattle.meshing.specs.Added.{Part, grown, added}
use Rattle.meshing.specs.Regions.{mesh_region}

-- ---- overrides: a material and its two cell sizes

pub record Overrides : Type 0 where
  pub materials : List ℕ
  pub laterals : List Float
  pub verticals : List Float

abbrev pub the_overrides : List ℕ → List Float → List Float → Overrides
the_overrides materials laterals verticals = record { materials = materials; laterals = laterals; verticals = verticals }

-- the overrides in lists that are read
abbrev pub overrides_of : Lent → Overrides
overrides_of o = the_overrides o.materials.now o.laterals.now o.verticals.now

abbrev pub no_overrides : Overrides
no_overrides = the_overrides [] [] []

-- the three lists are equally long (16)
abbrev pub even_overrides : Overrides → Bool
even_overrides o = eqb (length o.laterals) (length o.materials) && eqb (length o.verticals) (length o.materials)

-- an override names a material from 1 to 768
abbrev pub named : ℕ → Bool
named material = leb 1 material && leb material 768

-- with the cell sizes found so far, override i is taken if it names the material
abbrev pub chosen : Overrides → ℕ → MeshConfig → ℕ → MeshConfig
chosen o material c i = cond (eqb (get_or o.materials i 0) material) (record { lateral_cell = at o.laterals i; z_cell = at o.verticals i }) c

-- the cell sizes of a material: those of the last override that names it, or else the default
unfoldable pub config_for : Overrides → MeshConfig → ℕ → MeshConfig
config_for o default material = fold_below (length o.materials) (chosen o material) default

-- ---- a model

-- the mesh so far, and a diagnostic of each region so far: 0, or its refusal
pub record Run : Type 0 where
  pub counts : Counts
  pub mesh : Mesh
  pub diagnostics : List ℕ

module _ (r : Regions) (px py : List Float) (o : Overrides) (default : MeshConfig) where
  -- what region i adds to a mesh
  unfoldable pub row_part : ℕ → Counts → Mesh → Answer Part
  row_part i c m =
      and_then (region_at r (length px) i) (λ g.
      mesh_region g.solid g.material_id.0 (config_for o default g.material_id.0) c px py m)

  -- the run after region i, whose elements carry its place
  unfoldable pub tried : Run → ℕ → Run
  tried s i =
      let a = row_part i s.counts s.mesh in
      record {
        counts = left (map_answer (grown s.counts) a) s.counts;
        mesh = left (map_answer (λ p. added s.counts i p s.mesh) a) s.mesh;
        diagnostics = s.diagnostics ++ status a ∷ [];
      }

  -- the run after the first n regions
  abbrev pub run_to : Counts → Mesh → ℕ → Run
  run_to c m n = fold_below n tried (record { counts = c; mesh = m; diagnostics = [] })

  -- 16; 2 for regions, points and overrides; 15 for counts, then for an override's material; 12 if the diagnostic list, of d entries, is short
  unfoldable pub mesh_model : Counts → Mesh → ℕ → Answer Run
  mesh_model c m d =
      unless (even_regions r) 16
      (unless (eqb (length px) (length py)) 16
      (unless (even_overrides o) 16
      (unless (parallel m) 16
      (unless (leb (length r.kinds) 4096) 2
      (unless (leb (length px) 2097152) 2
      (unless (leb (length o.materials) 4096) 2
      (unless (within c m) 15
      (unless (all_of named o.materials) 15
      (unless (leb (length r.kinds) d) 12
      (given (run_to c m (length r.kinds))))))))))))

-- the region numbers of the elements that a run has appended to a mesh of so many
abbrev pub appended_regions : ℕ → Run → List ℕ
appended_regions elements s = part elements (s.counts.elements - elements) s.mesh.regions

-- what the call answers, the counts, and what it leaves in the mesh and in the diagnostics
pub record ModelAs (a : Answer Run) (m : Mesh) (ds : List ℕ) (result : Result Counts Refusal) (m' : Mesh) (ds' : List ℕ) : Type 0 where
  pub answer : answered result ≡ map_answer (λ (s : Run). s.counts) a
  pub mesh : m' ≡ left (map_answer (λ (s : Run). s.mesh) a) m
  pub diagnostics : ds' ≡ left (map_answer (λ (s : Run). put ds 0 s.diagnostics) a) ds

-- ---- what the loop over the regions leaves

pub record RunAs (s : Run) (c : Counts) (m : Mesh) (ds ds' : List ℕ) : Type 0 where
  pub counts : c ≡ s.counts
  pub mesh : m ≡ s.mesh
  pub diagnostics : ds' ≡ put ds 0 s.diagnostics

-- ---- the refusals, by what is known of the lists (proofs/ModelLaws shows that `mesh_model` has the same)

unfoldable pub model_judged : Bool → Bool → Bool → Bool → ℕ → ℕ → ℕ → Bool → Bool → ℕ → Answer (Unit {0})
model_judged are_regions_even are_points_even are_overrides_even is_mesh_parallel regions points overrides are_counts_in are_overrides_named diagnostics =
    unless (are_regions_even && are_points_even && are_overrides_even && is_mesh_parallel) 16
    (unless (leb regions 4096 && leb points 2097152 && leb overrides 4096) 2
    (unless (are_counts_in && are_overrides_named) 15
    (unless (leb regions diagnostics) 12
    (given tt))))

abbrev pub job_judged : Regions → List Float → List Float → Overrides → Counts → Mesh → ℕ → Answer (Unit {0})
job_judged r px py o c m d =
    model_judged (even_regions r) (eqb (length px) (length py)) (even_overrides o) (parallel m) (length r.kinds) (length px) (length o.materials) (within c m) (all_of named o.materials) d
