use Rattle.std.proofs.Common.{arith, length-append}
use Rattle.script_line.specs.declared.kind.LineKind.TheVariants as line
use Rattle.script_line.specs.declared.kind.SpaceKind.TheVariants as space_kind
use Rattle.script_cmds.specs.Text.{size_lines}
use Rattle.script_plan.proofs.Counting.{length-size_lines}
use Rattle.script_plan.proofs.count.configuration_lines.Goals as goal

pub returns-clause-value : goal.returns-clause-value
returns-clause-value c =
    let nvm = c.nvm.result.now in
    let mem = c.mem.result.now in
    let both = length-append (size_lines (line.Namespace space_kind.Nvm) 1 nvm) (size_lines (line.Namespace space_kind.Mem) 1 mem) in
    rw (← c.nvm.ensures.value, ← c.mem.ensures.value) (omega (arith, both, length-size_lines (line.Namespace space_kind.Nvm) 1 nvm, length-size_lines (line.Namespace space_kind.Mem) 1 mem))
