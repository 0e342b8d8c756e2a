-- `put_region` meets its contract: an entry is stored in each list.
use Rattle.std.proofs.Common.{refl, ap, ◌∙◌, arith}
use Rattle.geometry.specs.Regions.{kind_number}
use Rattle.geometry.specs.declared.rows.Columns.{Columns}
use Rattle.geometry.proofs.RowLaws.{written, same_regions_lem}
use Rattle.geometry.proofs.rows.put_region.Goals as goal

pub returns-clause-rows : goal.returns-clause-rows
returns-clause-rows c = same_regions_lem
    (written c.args.regions.now.kinds.now c.args.k c.requires.inside (c.from.ensures ∙ ap (λ (x : Columns). kind_number x.kind) c.from-columns.ensures))
    (written c.args.regions.now.min_x.now c.args.k (omega (arith, c.requires.inside, c.requires.even.min_x)) (ap (λ (x : Columns). x.sides.min_x) c.from-columns.ensures))
    (written c.args.regions.now.min_y.now c.args.k (omega (arith, c.requires.inside, c.requires.even.min_y)) (ap (λ (x : Columns). x.sides.min_y) c.from-columns.ensures))
    (written c.args.regions.now.max_x.now c.args.k (omega (arith, c.requires.inside, c.requires.even.max_x)) (ap (λ (x : Columns). x.sides.max_x) c.from-columns.ensures))
    (written c.args.regions.now.max_y.now c.args.k (omega (arith, c.requires.inside, c.requires.even.max_y)) (ap (λ (x : Columns). x.sides.max_y) c.from-columns.ensures))
    (written c.args.regions.now.z_bottom.now c.args.k (omega (arith, c.requires.inside, c.requires.even.z_bottom)) c.z_bottom.ensures)
    (written c.args.regions.now.z_top.now c.args.k (omega (arith, c.requires.inside, c.requires.even.z_top)) c.z_top.ensures)
    (written c.args.regions.now.starts.now c.args.k (omega (arith, c.requires.inside, c.requires.even.starts)) (ap (λ (x : Columns). x.part.start) c.from-columns.ensures))
    (written c.args.regions.now.counts.now c.args.k (omega (arith, c.requires.inside, c.requires.even.counts)) (ap (λ (x : Columns). x.part.count) c.from-columns.ensures))
    (written c.args.regions.now.materials.now c.args.k (omega (arith, c.requires.inside, c.requires.even.materials)) refl)
    (written c.args.regions.now.nets.now c.args.k (omega (arith, c.requires.inside, c.requires.even.nets)) refl)
    (written c.args.regions.now.polygons.now c.args.k (omega (arith, c.requires.inside, c.requires.even.polygons)) refl)
