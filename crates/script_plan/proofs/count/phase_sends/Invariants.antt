use Rattle.std.proofs.Common.{◌≡◌, ◌+◌, ◌≤◌, drop, length}
use Rattle.script_plan.specs.Counted.{lines_of_phases}
use Rattle.script_cmds.specs.Counts.{sends_in_phases}
use Rattle.script_plan.proofs.count.phase_sends.Given as goal

abbrev pub invariant-loop-phase : goal.invariant-loop-phase
invariant-loop-phase l = (l.sends + sends_in_phases (drop l.phase-index l.phases) ≡ sends_in_phases l.phases) × (lines_of_phases (drop l.phase-index l.phases) ≤ lines_of_phases l.phases)
