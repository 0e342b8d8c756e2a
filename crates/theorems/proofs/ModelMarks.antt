-- Among the elements that a model call appends, a region has some exactly if its diagnostic is 0. Assumes nothing.
use Prim.Native.Nat.{ℕ, zero, suc, ◌+◌, ◌-◌, ◌≤◌, ◌<◌}
use mathlib.Core.Path.{◌≡◌, refl, sym, ap, ◌∙◌, subst}
use mathlib.Core.Bool.{true}
use mathlib.Core.List.{List, [], ◌∷◌, ◌++◌}
use mathlib.Core.Logic.{inl, inr}
use native.Mathlib.Nat.{eq-or-lt_of_le}
use native.Mathlib.Omega.{arith}
use lib.ListN.{length, get_or, length-append, get_or-append}
use lib.Seq.{get_or_at}
use lib.Ieee.{Float}
use Rattle.lists.specs.Answer.{Answer, refused, given, map_answer, left, status}
use Rattle.lists.specs.Lists.{put, part, elems, fold_below}
use Rattle.lists.specs.Counts.{occurs}
use Rattle.lists.proofs.Answers.{passed_then, given_same}
use Rattle.lists.proofs.Counts.{occurs_append, occurs_same, occurs_other}
use Rattle.lists.proofs.Fills.{elems_length}
use Rattle.lists.proofs.Parts.{part_put}
use Rattle.openrdson_core.specs.Mesh.{Mesh, well_formed}
use Rattle.openrdson_core.specs.declared.mesh.Counts.{Counts}
use Rattle.openrdson_core.proofs.MeshLaws.{well_formed_lem, equal_lengths}
use Rattle.geometry.specs.Regions.{Regions, region_at}
use Rattle.meshing.specs.declared.cells.MeshConfig.{MeshConfig}
use Rattle.meshing.specs.Added.{Part, grown, added}
use Rattle.meshing.specs.Regions.{mesh_region}
use Rattle.meshing.specs.Models.{Overrides, config_for, Run, row_part, tried, run_to, mesh_model, appended_regions}
use Rattle.theorems.proofs.WellFormed.{region_fits, part_room}
use Rattle.theorems.proofs.RegionSome.{region_some}
use Rattle.theorems.proofs.RefusalNumbers.{row_numbered}
use Rattle.theorems.proofs.ModelFormed.{run_well_formed}
use Rattle.meshing.proofs.ModelLaws.{job_judged, model_is}

-- ---- the runs

-- of the elements appended after the first e, each region below n has some exactly if its diagnostic is 0, and no other region has any
pub record Marked (e n : ℕ) (s : Run) : Type 0 where
  pub from : e ≤ s.counts.elements
  pub long : length s.diagnostics ≡ n
  pub others : (u : ℕ) → n ≤ u → occurs u (appended_regions e s) ≡ 0
  pub meshed : (i : ℕ) → i < n → get_or s.diagnostics i 1 ≡ 0 → 0 < occurs i (appended_regions e s)
  pub turned : (i : ℕ) → i < n → 0 < occurs i (appended_regions e s) → get_or s.diagnostics i 1 ≡ 0

-- one diagnostic more
module _ (ds : List ℕ) (k n : ℕ) (long : length ds ≡ n) where
  earlier : (i : ℕ) → i < n → get_or (ds ++ k ∷ []) i 1 ≡ get_or ds i 1
  earlier i h = get_or-append ds (k ∷ []) 1 i (omega arith)

  latest : get_or (ds ++ k ∷ []) n 1 ≡ k
  latest = get_or_at ds k [] 1 n long

-- a region that is refused with the number k
marked_refused : (e n k : ℕ) (s : Run) → 1 ≤ k → Marked e n s → Marked e (suc n) (record { counts = s.counts; mesh = s.mesh; diagnostics = s.diagnostics ++ k ∷ [] })
marked_refused e n k s h w =
    record {
      from = w.from;
      long = length-append s.diagnostics (k ∷ []) ∙ omega (arith, w.long);
      others = λ u l. w.others u (omega arith);
      meshed = λ i l z. elim (eq-or-lt_of_le (below_suc i l)) [
        | inl q ↦ absurd (omega (arith, h, z, ap (λ (j : ℕ). get_or (s.diagnostics ++ k ∷ []) j 1) q ∙ latest s.diagnostics k n w.long))
        | inr q ↦ w.meshed i q (sym (earlier s.diagnostics k n w.long i q) ∙ z)
      ];
      turned = λ i l z. elim (eq-or-lt_of_le (below_suc i l)) [
        | inl q ↦ absurd (omega (arith, z, w.others i (omega arith)))
        | inr q ↦ earlier s.diagnostics k n w.long i q ∙ w.turned i q z
      ];
    }
  where
    below_suc : (i : ℕ) → i < suc n → i ≤ n
    below_suc i l = omega arith

-- a region that is meshed: its part has k elements, which stand right behind those that are there
marked_meshed : (e n k : ℕ) (s s' : Run) → Marked e n s → 1 ≤ k → s'.diagnostics ≡ s.diagnostics ++ 0 ∷ [] → s'.counts.elements ≡ s.counts.elements + k
    → appended_regions e s' ≡ appended_regions e s ++ elems k (λ _. n) → Marked e (suc n) s'
marked_meshed e n k s s' w h d g a =
    record {
      from = omega (arith, w.from, g);
      long = ap length d ∙ length-append s.diagnostics (0 ∷ []) ∙ omega (arith, w.long);
      others = λ u l. omega (arith, many u, w.others u (omega arith), occurs_other n u k (λ q. absurd (omega arith)));
      meshed = λ i l z. elim (eq-or-lt_of_le (below_suc i l)) [
        | inl q ↦ omega (arith, many i, ap (λ (j : ℕ). occurs j (elems k (λ _. n))) q, occurs_same n k, h)
        | inr q ↦ omega (arith, many i, w.meshed i q (sym (ap (λ (l : List ℕ). get_or l i 1) d ∙ earlier s.diagnostics 0 n w.long i q) ∙ z))
      ];
      turned = λ i l z. elim (eq-or-lt_of_le (below_suc i l)) [
        | inl q ↦ ap (λ (l : List ℕ). get_or l i 1) d ∙ ap (λ (j : ℕ). get_or (s.diagnostics ++ 0 ∷ []) j 1) q ∙ latest s.diagnostics 0 n w.long
        | inr q ↦ ap (λ (l : List ℕ). get_or l i 1) d ∙ earlier s.diagnostics 0 n w.long i q ∙ w.turned i q (omega (arith, z, many i, occurs_other n i k (λ r. absurd (omega arith))))
      ];
    }
  where
    below_suc : (i : ℕ) → i < suc n → i ≤ n
    below_suc i l = omega arith

    many : (u : ℕ) → occurs u (appended_regions e s') ≡ occurs u (appended_regions e s) + occurs u (elems k (λ _. n))
    many u = ap (occurs u) a ∙ occurs_append u (appended_regions e s) (elems k (λ _. n))

module _ (r : Regions) (px py : List Float) (o : Overrides) (default : MeshConfig) where
  -- a region that is tried
  tried_marked : (e n : ℕ) (s : Run) → well_formed s.counts s.mesh ≡ true → Marked e n s → Marked e (suc n) (tried r px py o default s n)
  unfolding tried row_part
  tried_marked e n s f w = of (row_part r px py o default n s.counts s.mesh) refl
    where
      of : (a : Answer Part) → row_part r px py o default n s.counts s.mesh ≡ a
          → Marked e (suc n) (record {
            counts = left (map_answer (grown s.counts) a) s.counts;
            mesh = left (map_answer (λ p. added s.counts n p s.mesh) a) s.mesh;
            diagnostics = s.diagnostics ++ status a ∷ [];
          })
      of (refused k) x = marked_refused e n k s (row_numbered r px py o default n s.counts s.mesh k x) w
      of (given p) x =
          let t = passed_then (region_at r (length px) n) (λ g. mesh_region g.solid g.material_id.0 (config_for o default g.material_id.0) s.counts px py s.mesh) x in
          let g = t.0 in
          let room = part_room s.counts s.mesh p p (region_fits g.solid g.material_id.0 (config_for o default g.material_id.0) s.counts px py s.mesh p t.2) in
          let same = (equal_lengths _ _ _ _ _ _ (well_formed_lem s.counts s.mesh f).lists).same_regions in
          marked_meshed e n (length p.kinds) s _ w (region_some g.solid g.material_id.0 (config_for o default g.material_id.0) s.counts px py s.mesh p t.2) refl refl
          (ap (λ (k : ℕ). part e (s.counts.elements + k - e) (put s.mesh.regions s.counts.elements (elems (length p.kinds) (λ _. n)))) (sym (elems_length {A = ℕ} (λ _. n) (length p.kinds)))
          ∙ part_put s.mesh.regions (elems (length p.kinds) (λ _. n)) e s.counts.elements w.from (omega (arith, room.2, same)))

  -- the first n regions of a model
  pub run_marked : (c : Counts) (m : Mesh) → well_formed c m ≡ true → (n : ℕ) → Marked c.elements n (run_to r px py o default c m n)
  unfolding fold_below
  run_marked c m f zero =
      record {
        from = omega arith;
        long = refl;
        others = λ u l. ap (λ (k : ℕ). occurs u (part c.elements k m.regions)) (none c.elements);
        meshed = λ i l z. absurd (omega arith);
        turned = λ i l z. absurd (omega arith);
      }
    where
      none : (k : ℕ) → k - k ≡ 0
      none k = omega arith
  run_marked c m f (suc n) = tried_marked c.elements n (run_to r px py o default c m n) (run_well_formed r px py o default c m f n) (run_marked c m f n)

  -- the call, where it is not refused
  pub model_marked : (c : Counts) (m : Mesh) (d : ℕ) {s : Run} → well_formed c m ≡ true → mesh_model r px py o default c m d ≡ given s → Marked c.elements (length r.kinds) s
  model_marked c m d f e =
      let t = passed_then (job_judged r px py o default c m d) (λ _. given (run_to r px py o default c m (length r.kinds))) (sym (model_is r px py o default c m d) ∙ e) in
      subst (Marked c.elements (length r.kinds)) (given_same t.2) (run_marked c m f (length r.kinds))
