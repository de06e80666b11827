use Rattle.std.proofs.Common.{◌+◌, ap, arith, drop}
use Rattle.script_plan.proofs.Counting.{sends_in_phases-cons, sends-phases, lines_of_phases-cons}
use Rattle.history_model.specs.Plan.{lines_of_parts}
use Rattle.script_cmds.specs.Counts.{sends_in_parts}
use Rattle.script_line.proofs.Walk.{drop-next}
use Rattle.script_plan.proofs.count.phase_sends.Goals as goal

pub part_sends-sends-requires : goal.part_sends-sends-requires
part_sends-sends-requires c =
    let i = c.loop-phase.phase-index in
    let next = drop-next c.args.phases.now i c.phase-item.result c.loop-phase-test.true c.phase-item.is in
    let rest = rw next at c.loop-phase.invariant.1 in
    omega (arith, rest, lines_of_phases-cons c.phase-item.result (drop (i + 1) c.args.phases.now), ap lines_of_parts c.as_slice.ensures)

pub overflow_add-sends : goal.overflow_add-sends
overflow_add-sends c =
    let phases = c.args.phases.now in
    let i = c.loop-phase.phase-index in
    let next = drop-next phases i c.phase-item.result c.loop-phase-test.true c.phase-item.is in
    let sum = rw (next, sends_in_phases-cons) at c.loop-phase.invariant.0 in
    omega (arith, sum, sends-phases phases, ap sends_in_parts c.as_slice.ensures)
