-- The checks, then the call.
use Rattle.std.proofs.Common.{◌≡◌, ◌∙◌, sym, refl, rules}
use borrow.Author.Tests.{not-true, not-false}
use Rattle.openrdson_core.specs.Tech.{bytes_of}
use Rattle.openrdson_core.specs.SoundBlocks.{sound_bytes}
use Rattle.geometry.specs.Regions.{held_regions}
use Rattle.geometry.specs.Polygons.{polygons_of}
use Rattle.geometry.specs.Stack.{assemble_stack}
use Rattle.geometry.proofs.RegionLaws.{even_of}
use Rattle.geometry.proofs.AssembleLaws.{refused_leaves, answer_was, blocks_refused, uneven_refused, polygons_refused, stack_leaves}
use Rattle.geometry.proofs.stack.assemble_stack.Goals as goal

pub returns-in_err-blocks-clause-stack : goal.returns-in_err-blocks-clause-stack
returns-in_err-blocks-clause-stack c =
    let b = bytes_of c.args.blocks in
    let p = polygons_of c.args.polygons in
    let r = held_regions c.args.regions.now in
    refused_leaves r c.args.outcomes.now (assemble_stack b p r c.args.outcomes.now)
    (blocks_refused b p r c.args.outcomes.now (answer_was c.checked.ensures.fault c.in_err-blocks.was)) (search rules)

pub returns-then-not-is_even-clause-stack : goal.returns-then-not-is_even-clause-stack
returns-then-not-is_even-clause-stack c =
    let b = bytes_of c.args.blocks in
    let p = polygons_of c.args.polygons in
    let r = held_regions c.args.regions.now in
    refused_leaves r c.args.outcomes.now (assemble_stack b p r c.args.outcomes.now)
    (uneven_refused b p r c.args.outcomes.now (answer_was c.checked.ensures.fault c.in_ok-blocks.was) (sym c.is_even.ensures ∙ not-true _ c.if-not-is_even.true-raw)) refl

pub returns-in_err-polygons-clause-stack : goal.returns-in_err-polygons-clause-stack
returns-in_err-polygons-clause-stack c =
    let b = bytes_of c.args.blocks in
    let p = polygons_of c.args.polygons in
    let r = held_regions c.args.regions.now in
    refused_leaves r c.args.outcomes.now (assemble_stack b p r c.args.outcomes.now)
    (polygons_refused b p r c.args.outcomes.now (answer_was c.checked.ensures.fault c.in_ok-blocks.was) (sym c.is_even.ensures ∙ not-false _ c.if-not-is_even.false-raw)
    (answer_was c.checked-2.ensures.fault c.in_err-polygons.was)) (search rules)

pub stack_checked-requires : goal.stack_checked-requires
stack_checked-requires c = even_of (held_regions c.args.regions.now) (sym c.is_even.ensures ∙ not-false _ c.if-not-is_even.false-raw)

pub returns-clause-stack : goal.returns-clause-stack
returns-clause-stack c =
    let b = bytes_of c.args.blocks in
    let p = polygons_of c.args.polygons in
    let r = held_regions c.args.regions.now in
    let f : sound_bytes c.in_ok-blocks.blocks ≡ bytes_of c.args.blocks = search rules in
    let g : polygons_of c.in_ok-polygons.polygons.lists ≡ polygons_of c.args.polygons = search rules in
    stack_leaves b p r c.args.outcomes.now (answer_was c.checked.ensures.fault c.in_ok-blocks.was) (sym c.is_even.ensures ∙ not-false _ c.if-not-is_even.false-raw)
    (answer_was c.checked-2.ensures.fault c.in_ok-polygons.was) f g c.stack_checked.ensures.stack
