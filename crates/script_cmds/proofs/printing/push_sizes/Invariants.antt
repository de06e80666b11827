use Rattle.std.proofs.Common.{◌≡◌, ℕ, ◌+◌, List, drop}
use Rattle.script_line.specs.declared.kind.LineKind.TheVariants as line
use Rattle.script_cmds.specs.private.Printing.{Prints}
use Rattle.script_cmds.specs.Text.{size_lines}
use Rattle.script_cmds.proofs.printing.push_sizes.Given as goal

abbrev pub invariant-loop-size : goal.invariant-loop-size
invariant-loop-size l = record {
  count : l.number ≡ l.size-index + 1;
  goes : (new : List ℕ) → Prints (size_lines (line.Namespace l.kind) l.number (drop l.size-index l.sizes)) l.out.items new → Prints (size_lines (line.Namespace l.kind) 1 l.sizes) l.initial.out.items new;
}
