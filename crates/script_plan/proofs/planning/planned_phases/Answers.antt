use Rattle.std.proofs.Common.{◌+◌, ◌∙◌, ap, arith, drop}
use Rattle.history_model.specs.Plan.{lines_of_parts}
use Rattle.script_plan.proofs.Counting.{lines_of_phases-cons}
use Rattle.script_plan.proofs.Steps.{phases-loop}
use Rattle.script_line.proofs.Walk.{drop-next}
use Rattle.script_plan.proofs.planning.planned_phases.Goals as goal

pub planned_phase-requires : goal.planned_phase-requires
planned_phase-requires c =
    let i = c.loop-phase.phase-index in
    let next = drop-next c.args.phases.now i c.phase-item.result c.loop-phase-test.true c.phase-item.is in
    let lines = rw next at c.loop-phase.invariant.0 in
    omega (arith, lines, lines_of_phases-cons c.phase-item.result (drop (i + 1) c.args.phases.now))

pub part_lines-requires : goal.part_lines-requires
part_lines-requires c =
    let i = c.loop-phase.phase-index in
    let next = drop-next c.args.phases.now i c.phase-item.result c.loop-phase-test.true c.phase-item.is in
    let lines = rw next at c.loop-phase.invariant.0 in
    omega (arith, lines, lines_of_phases-cons c.phase-item.result (drop (i + 1) c.args.phases.now), ap lines_of_parts c.as_slice.ensures)

pub overflow_add-line : goal.overflow_add-line
overflow_add-line c =
    let i = c.loop-phase.phase-index in
    let next = drop-next c.args.phases.now i c.phase-item.result c.loop-phase-test.true c.phase-item.is in
    let lines = rw next at c.loop-phase.invariant.0 in
    omega (arith, lines, lines_of_phases-cons c.phase-item.result (drop (i + 1) c.args.phases.now), ap lines_of_parts c.as_slice.ensures)

pub overflow_add-line-in-loop-phase : goal.overflow_add-line-in-loop-phase
overflow_add-line-in-loop-phase c =
    let i = c.loop-phase.phase-index in
    let next = drop-next c.args.phases.now i c.phase-item.result c.loop-phase-test.true c.phase-item.is in
    let lines = rw next at c.loop-phase.invariant.0 in
    omega (arith, lines, lines_of_phases-cons c.phase-item.result (drop (i + 1) c.args.phases.now), ap lines_of_parts c.as_slice.ensures)

pub loop-phase-preserved : goal.loop-phase-preserved
loop-phase-preserved c =
    let i = c.loop-phase.phase-index in
    let x = c.phase-item.result in
    let phases = c.args.phases.now in
    let next = drop-next phases i x c.loop-phase-test.true c.phase-item.is in
    let lines = rw next at c.loop-phase.invariant.0 in
    let count = c.part_lines.ensures ∙ ap lines_of_parts c.as_slice.ensures in (
      omega (arith, lines, lines_of_phases-cons x (drop (i + 1) phases), count),
      phases-loop c.args.depth c.args.line c.loop-phase.line c.part_lines.result phases c.loop-phase.planned.items (drop i phases) (drop (i + 1) phases)
          c.push.new.self.items x c.in_ok-next.next next count c.in_ok-push.ensures.items c.loop-phase.invariant.1 c.in_ok-next.ensures.ok,
    )
