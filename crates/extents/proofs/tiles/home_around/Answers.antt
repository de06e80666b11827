-- The last extent that begins up to a place is the one around it.
use Rattle.std.proofs.Common.{◌≤◌, None, Some, List, get_or, ap, ◌∙◌, arith}
use Rattle.extents.specs.Tiles.{all_shown}
use Rattle.extents.proofs.Tiling.{behind_around, hole_around, none_around, up_to_bound}
use Rattle.extents.proofs.tiles.home_around.Goals as goal

pub returns-in_default : goal.returns-in_default
returns-in_default c =
    let none = none_around c.args.tiles.now c.args.at c.requires ((c.range.ensures.in_range tt).5 c.in_default.ensures.steps.0) in
    ap (λ (es : List _). get_or (all_shown es) c.args.at None) none

pub returns-in_default-extent : goal.returns-in_default-extent
returns-in_default-extent c =
    let entry = (c.range.ensures.in_range tt).3 _ _ c.in-Some.ensures.steps in
    let last = (c.range.ensures.in_range tt).4 _ _ c.in-Some.ensures.steps in
    hole_around c.args.tiles.now c.in-Some.start.now c.in_default-extent.field-0 c.args.at c.requires (entry.1 ∙ ap Some c.in_default-extent.is) (up_to_bound c.in-Some.start.now c.args.at entry.0.1) last

pub returns-then-at-start : goal.returns-then-at-start
returns-then-at-start c =
    let entry = (c.range.ensures.in_range tt).3 _ _ c.in-Some.ensures.steps in
    let last = (c.range.ensures.in_range tt).4 _ _ c.in-Some.ensures.steps in
    let low : c.in-Some.start.now ≤ c.args.at = up_to_bound c.in-Some.start.now c.args.at entry.0.1 in
    behind_around c.args.tiles.now c.in-Some.start.now c.in-Home.bytes c.args.at c.requires (entry.1 ∙ ap Some c.in-Home.is) (omega arith) last
