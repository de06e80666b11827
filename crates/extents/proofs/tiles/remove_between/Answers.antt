-- An extent that is taken away begins between the places.
use Rattle.std.proofs.Common.{sym, ◌∙◌, ap}
use Rattle.extents.specs.Tiles.{without_between}
use Rattle.extents.proofs.Joining.{first_in_range, without_none, without_removed}
use Rattle.extents.proofs.tiles.remove_between.Goals as goal

pub loop-start-preserved-in-Some : goal.loop-start-preserved-in-Some
loop-start-preserved-in-Some c =
    let inside = first_in_range c.loop-start.tiles _ _ _ _ c.args.from c.args.to c.in-Some.ensures.steps (c.range.ensures.in_range tt).1 in
    ap (without_between c.args.from c.args.to) c.remove.ensures.entries
    ∙ without_removed c.args.from c.args.to c.in-Some.start.now c.loop-start.tiles.entries inside.0 inside.1
    ∙ c.loop-start.invariant

pub loop-start-preserved-in-Some-2 : goal.loop-start-preserved-in-Some-2
loop-start-preserved-in-Some-2 c =
    let inside = first_in_range c.loop-start.tiles _ _ _ _ c.args.from c.args.to c.in-Some.ensures.steps (c.range.ensures.in_range tt).1 in
    ap (without_between c.args.from c.args.to) c.remove.ensures.entries
    ∙ without_removed c.args.from c.args.to c.in-Some.start.now c.loop-start.tiles.entries inside.0 inside.1
    ∙ c.loop-start.invariant

pub returns : goal.returns
returns c = sym (without_none c.args.from c.args.to c.loop-start.tiles.entries (sym (c.range.ensures.between tt) ∙ c.in_default.ensures.steps.0)) ∙ c.loop-start.invariant
