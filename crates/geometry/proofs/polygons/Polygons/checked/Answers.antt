-- Even lists, by the test.
use Rattle.std.proofs.Common.{◌∙◌, sym, rules}
use borrow.Author.Tests.{not-false}
use Rattle.geometry.specs.Polygons.{polygons_of}
use Rattle.geometry.proofs.PolygonLaws.{polygons_even_of}
use Rattle.geometry.proofs.polygons.Polygons.checked.Goals as goal

pub parts_check-requires : goal.parts_check-requires
parts_check-requires c = polygons_even_of (polygons_of c.args.self) (sym c.is_even.ensures ∙ not-false _ c.if-not-is_even.false-raw)

pub invariant_of-result : goal.invariant_of-result
invariant_of-result c =
    record {
      even = polygons_even_of (polygons_of c.args.self) (sym c.is_even.ensures ∙ not-false _ c.if-not-is_even.false-raw);
      few = c.if-self-gt4096.false;
      fine = search rules;
    }
