use Rattle.std.proofs.Common.{ℕ, List, drop}
use Rattle.script_cmds.specs.private.Printing.{Prints}
use Rattle.script_cmds.specs.Text.{item_lines}
use Rattle.script_cmds.proofs.printing.push_items.Given as goal

abbrev pub invariant-loop-item : goal.invariant-loop-item
invariant-loop-item l = (new : List ℕ) → Prints (item_lines l.form (drop l.item-index l.items)) l.out.items new → Prints (item_lines l.form l.items) l.initial.out.items new
