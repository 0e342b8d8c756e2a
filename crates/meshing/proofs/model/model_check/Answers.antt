-- `model_check` meets its contract: the region lists are even where that is tested. Assumes nothing.
use Rattle.std.proofs.Common.{sym, ◌∙◌}
use Rattle.lists.proofs.Scans.{both}
use Rattle.geometry.proofs.RegionLaws.{even_of}
use Rattle.meshing.proofs.model.model_check.Goals as goal

pub invariant_of-result : goal.invariant_of-result
invariant_of-result c = record { even = even_of _ (sym c.is_even.ensures ∙ (both _ _ (both _ _ (both _ _ c.if-not-is_even-xs.false).0).0).0) }
