use Rattle.std.proofs.Common.{ℕ, List, drop}
use Rattle.script_cmds.specs.private.Printing.{Prints}
use Rattle.script_cmds.specs.Text.{part_lines}
use Rattle.script_cmds.proofs.printing.push_parts.Given as goal

abbrev pub invariant-loop-part : goal.invariant-loop-part
invariant-loop-part l = (new : List ℕ) → Prints (part_lines l.form (drop l.part-index l.parts)) l.out.items new → Prints (part_lines l.form l.parts) l.initial.out.items new
