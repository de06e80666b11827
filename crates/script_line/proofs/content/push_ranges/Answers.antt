use Rattle.std.proofs.Common.{◌++◌, ◌+◌, ap, drop, List, ℕ, map}
use Rattle.script_line.specs.Field.{range_text}
use Rattle.script_line.specs.Sized.{IsSizedRange}
use Rattle.script_line.proofs.Printed.{joined_is, listed_more, sized_more}
use Rattle.script_line.proofs.Walk.{drop-at}
use Rattle.script_line.proofs.content.push_ranges.Goals as goal

pub loop-range-init : goal.loop-range-init
loop-range-init c = record { text = ap (λ (t : List ℕ). c.args.out.now.items ++ t) (joined_is 44 (map range_text c.args.ranges.now)); sized = λ h. h }

pub loop-range-preserved : goal.loop-range-preserved
loop-range-preserved c =
    let i = c.loop-range.range-index in
    let xs = drop i c.args.ranges.now in
    let rest = drop (i + 1) c.args.ranges.now in
    record {
      text = listed_more range_text 44 c.loop-range.out.items _ c.push_piece.new.out.items c.push_range.new.out.items c.loop-range.before.now xs rest _ (drop-at c.args.ranges.now i _ c.loop-range-test.true) c.in_ok-push_piece.ensures.items c.in_ok-push_range.ensures.text c.loop-range.invariant.text;
      sized = λ h. c.loop-range.invariant.sized (sized_more IsSizedRange xs rest _ (drop-at c.args.ranges.now i _ c.loop-range-test.true) c.in_ok-push_range.ensures.sized h);
    }
