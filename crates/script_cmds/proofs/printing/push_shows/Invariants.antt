use Rattle.std.proofs.Common.{ℕ, List, drop}
use Rattle.script_cmds.specs.private.Printing.{Prints}
use Rattle.script_cmds.specs.Text.{show_lines}
use Rattle.script_cmds.proofs.printing.push_shows.Given as goal

abbrev pub invariant-loop-show : goal.invariant-loop-show
invariant-loop-show l = (new : List ℕ) → Prints (show_lines (drop l.show-index l.shows)) l.out.items new → Prints (show_lines l.shows) l.initial.out.items new
