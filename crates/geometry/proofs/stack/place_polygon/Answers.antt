-- A plan without a region writes no row.
use Rattle.std.proofs.Common.{sym}
use Rattle.geometry.specs.Regions.{held_regions}
use Rattle.geometry.proofs.RowLaws.{no_rows}
use Rattle.geometry.proofs.stack.place_polygon.Goals as goal

pub returns-in_err-slab-clause-rows : goal.returns-in_err-slab-clause-rows
returns-in_err-slab-clause-rows c = rw c.in_err-slab.was (sym (no_rows (held_regions c.args.regions.now) c.args.k))
