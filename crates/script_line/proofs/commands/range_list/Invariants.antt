use Rattle.std.proofs.Common.{◌≡◌, map, take}
use Rattle.script_line.specs.Values.{range_view}
use Rattle.script_line.proofs.commands.range_list.Given as goal

abbrev pub invariant-loop-range : goal.invariant-loop-range
invariant-loop-range l = l.items.items ≡ map range_view (take l.range-index l.ranges)
