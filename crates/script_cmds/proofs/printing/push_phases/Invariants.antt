use Rattle.std.proofs.Common.{ℕ, List, drop}
use Rattle.script_cmds.specs.private.Printing.{Prints}
use Rattle.script_cmds.specs.Text.{phase_lines}
use Rattle.script_cmds.proofs.printing.push_phases.Given as goal

abbrev pub invariant-loop-phase : goal.invariant-loop-phase
invariant-loop-phase l = (new : List ℕ) → Prints (phase_lines l.form (drop l.phase-index l.phases)) l.out.items new → Prints (phase_lines l.form l.phases) l.initial.out.items new
