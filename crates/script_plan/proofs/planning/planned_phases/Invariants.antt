use Rattle.std.proofs.Common.{◌≡◌, ◌+◌, drop, length}
use Rattle.history_model.specs.Plain.{plain_phase, plain_phases}
use Rattle.history_model.specs.Plan.{planned_phases}
use Rattle.script_plan.specs.Counted.{lines_of_phases}
use Rattle.script_plan.specs.Meant.{meant, after}
use Rattle.script_plan.proofs.planning.planned_phases.Given as goal

abbrev pub invariant-loop-phase : goal.invariant-loop-phase
invariant-loop-phase l =
    (l.line + lines_of_phases (drop l.phase-index l.phases) ≡ l.fn.line + lines_of_phases l.phases)
    × (meant plain_phase (planned_phases l.depth l.fn.line l.phases) ≡ after (plain_phases l.planned.items) (meant plain_phase (planned_phases l.depth l.line (drop l.phase-index l.phases))))
