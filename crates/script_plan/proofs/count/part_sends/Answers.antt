use Rattle.std.proofs.Common.{ap, arith}
use Rattle.script_plan.proofs.Counting.{sends_in_parts-cons, sends-parts}
use Rattle.script_cmds.specs.Counts.{sends_in_items}
use Rattle.script_line.proofs.Walk.{drop-next}
use Rattle.script_plan.proofs.count.part_sends.Goals as goal

pub overflow_add-sends : goal.overflow_add-sends
overflow_add-sends c =
    let parts = c.args.parts.now in
    let i = c.loop-part.part-index in
    let next = drop-next parts i c.part-item.result c.loop-part-test.true c.part-item.is in
    let sum = rw (next, sends_in_parts-cons) at c.loop-part.invariant.0 in
    omega (arith, sum, sends-parts parts, ap sends_in_items c.as_slice.ensures)
