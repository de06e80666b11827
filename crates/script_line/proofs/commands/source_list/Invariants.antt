use Rattle.std.proofs.Common.{◌≡◌, map, take}
use Rattle.script_line.specs.Values.{source_view}
use Rattle.script_line.proofs.commands.source_list.Given as goal

abbrev pub invariant-loop-source : goal.invariant-loop-source
invariant-loop-source l = l.items.items ≡ map source_view (take l.source-index l.sources)
