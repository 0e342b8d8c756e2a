-- Even lists, by the test.
use Rattle.std.proofs.Common.{◌∙◌, sym}
use borrow.Author.Tests.{not-false}
use Rattle.geometry.specs.Regions.{listed}
use Rattle.geometry.proofs.RegionLaws.{even_of}
use Rattle.geometry.proofs.regions.Regions.checked.Goals as goal

pub invariant_of-result : goal.invariant_of-result
invariant_of-result c = record { even = even_of (listed c.args.self) (sym c.is_even.ensures ∙ not-false _ c.if-not-is_even.false-raw) }
