-- A box's lists, written: what they add to the mesh. Assumes nothing.
use mathlib.Core.Path.{◌≡◌, refl, sym, ap, subst, ◌∙◌}
use mathlib.Core.List.{List}
use Rattle.std.specs.Prelude.{Result, Ok}
use Prim.Native.Nat.{ℕ, ◌+◌, ◌*◌}
use native.Mathlib.Omega.{arith}
use lib.ListN.{length}
use lib.Ieee.{Float}
use Rattle.lists.specs.Answer.{Answer, refused, given}
use Rattle.lists.specs.Lists.{put, runs, elems}
use Rattle.lists.proofs.Fills.{elems_length, Runs, no_runs, one_run, all_runs}
use Rattle.openrdson_core.specs.Mesh.{Mesh, the_mesh, the_counts}
use Rattle.openrdson_core.specs.declared.mesh.Counts.{Counts}
use Rattle.openrdson_core.specs.declared.bounds.Bbox.{Bbox}
use Rattle.openrdson_core.specs.declared.refusals.Refusal.{Refusal}
use Rattle.openrdson_core.specs.Answers.{answer}
use Rattle.meshing.specs.Cells.{axis_at}
use Rattle.meshing.specs.Grid.{grid, grid_nodes, grid_cells, NodesFit, with_nodes, hex_places}
use Rattle.meshing.specs.Added.{Part, Adds}
use Rattle.meshing.specs.Boxes.{the_cells, box_part, box_of_cells}
use Rattle.meshing.proofs.GridLaws.{grid_length}

-- six equal lists are equal meshes
pub same_mesh : {a a' b b' c c' : List Float} {d d' e e' f f' : List ℕ} → a ≡ a' → b ≡ b' → c ≡ c' → d ≡ d' → e ≡ e' → f ≡ f' → the_mesh a b c d e f ≡ the_mesh a' b' c' d' e' f'
same_mesh p q r s t u = cc

-- what is added depends on the answer alone
pub same_adds : {a b : Answer Part} {c : Counts} {region : ℕ} {m m' : Mesh} {r : Result Counts Refusal} → a ≡ b → Adds a c region m m' r → Adds b c region m m' r
same_adds {c = c} {region = region} {m = m} {m' = m'} {r = r} e = subst (λ (a : Answer Part). Adds a c region m m' r) e

pub refused_adds : {c : Counts} {region : ℕ} {m : Mesh} {r : Result Counts Refusal} (a : Answer Part) {k : ℕ} → a ≡ refused k → answer r ≡ refused k → Adds a c region m m r
refused_adds a e f = rw e (record { answer = f; lists = refl })

-- ---- the nodes that a loop writes: n runs from place at on, each w long

pub record NodeRuns (m₀ : Mesh) (at : ℕ) (fx fy fz : ℕ → List Float) (w n : ℕ) (m : Mesh) : Type 0 where
  pub xs : Runs m₀.xs at fx w n m.xs
  pub ys : Runs m₀.ys at fy w n m.ys
  pub zs : Runs m₀.zs at fz w n m.zs
  pub kinds : m.kinds ≡ m₀.kinds
  pub places : m.places ≡ m₀.places
  pub regions : m.regions ≡ m₀.regions

pub no_nodes : (m : Mesh) (at : ℕ) (fx fy fz : ℕ → List Float) (w : ℕ) → NodeRuns m at fx fy fz w 0 m
no_nodes m at fx fy fz w =
    record {
      xs = no_runs m.xs at fx w;
      ys = no_runs m.ys at fy w;
      zs = no_runs m.zs at fz w;
      kinds = refl;
      places = refl;
      regions = refl;
    }

pub more_nodes : {m₀ m m' : Mesh} {at w n p : ℕ} {fx fy fz : ℕ → List Float} {x y z : List Float} → NodeRuns m₀ at fx fy fz w n m → m' ≡ with_nodes m p x y z
    → x ≡ fx n → y ≡ fy n → z ≡ fz n → ((i : ℕ) → length (fx i) ≡ w) → ((i : ℕ) → length (fy i) ≡ w) → ((i : ℕ) → length (fz i) ≡ w)
    → p ≡ at + n * w → NodesFit m₀ (p + w) → NodeRuns m₀ at fx fy fz w (n + 1) m'
more_nodes {m₀} {m} {m'} {at} {w} {n} {p} q e ex ey ez wx wy wz is fit =
    record {
      xs = one_run q.xs (ap (λ (m : Mesh). m.xs) e ∙ ap (put m.xs p) ex) wx is fit.0;
      ys = one_run q.ys (ap (λ (m : Mesh). m.ys) e ∙ ap (put m.ys p) ey) wy is (omega (arith, fit.0, fit.1));
      zs = one_run q.zs (ap (λ (m : Mesh). m.zs) e ∙ ap (put m.zs p) ez) wz is (omega (arith, fit.0, fit.2));
      kinds = ap (λ (m : Mesh). m.kinds) e ∙ q.kinds;
      places = ap (λ (m : Mesh). m.places) e ∙ q.places;
      regions = ap (λ (m : Mesh). m.regions) e ∙ q.regions;
    }

pub all_nodes : {m₀ m : Mesh} {at w n k : ℕ} {fx fy fz : ℕ → List Float} → NodeRuns m₀ at fx fy fz w n m → n ≡ k → m ≡ with_nodes m₀ at (runs k fx) (runs k fy) (runs k fz)
all_nodes q e = same_mesh (all_runs q.xs e) (all_runs q.ys e) (all_runs q.zs e) q.kinds q.places q.regions

-- ---- a box

module _ (b : Bbox) (z0 z1 : Float) (nx ny nz : ℕ) (c : Counts) (region : ℕ) (m : Mesh) where
  -- every element is a hex
  abbrev hex : ℕ → ℕ
  hex _ = 1

  hexes : length (elems (grid_cells nx ny nz) hex) ≡ grid_cells nx ny nz
  hexes = elems_length hex (grid_cells nx ny nz)

  -- the nodes are written first
  pub box_adds : {m₁ : Mesh} {kinds places regions : List ℕ} {nodes elements kind : ℕ}
      → m₁ ≡ with_nodes m c.nodes (grid nx ny nz (λ i j k. axis_at b.min_x b.max_x nx i)) (grid nx ny nz (λ i j k. axis_at b.min_y b.max_y ny j)) (grid nx ny nz (λ i j k. axis_at z0 z1 nz k))
      → nodes ≡ grid_nodes nx ny nz
      → elements ≡ grid_cells nx ny nz
      → kind ≡ 1
      → kinds ≡ put m₁.kinds c.elements (elems elements (λ _. kind))
      → places ≡ put m₁.places (8 * c.elements) (hex_places c.nodes nx ny nz)
      → regions ≡ put m₁.regions c.elements (elems elements (λ _. region))
      → Adds (given (box_of_cells c.nodes b z0 z1 (the_cells nx ny nz))) c region m (the_mesh m₁.xs m₁.ys m₁.zs kinds places regions)
      (Ok (the_counts (c.nodes + nodes) (c.elements + elements)))
  unfolding box_part
  box_adds w e f k s t u =
      rw (e, s, t, u, w, f, k)
      (record {
        answer =
            ap (λ (n : ℕ). given (the_counts (c.nodes + n) (c.elements + grid_cells nx ny nz))) (sym (grid_length nx ny nz (λ i j k. axis_at b.min_x b.max_x nx i)))
            ∙ ap (λ (n : ℕ). given (the_counts (c.nodes + length (grid nx ny nz (λ i j k. axis_at b.min_x b.max_x nx i))) (c.elements + n))) (sym hexes);
        lists = same_mesh refl refl refl refl refl (ap (λ (n : ℕ). put m.regions c.elements (elems n (λ _. region))) (sym hexes));
      })
