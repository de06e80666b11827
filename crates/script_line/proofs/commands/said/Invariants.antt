use Rattle.std.proofs.Common.{◌≡◌, take}
use Rattle.script_line.proofs.commands.said.Given as goal

abbrev pub invariant-loop-content : goal.invariant-loop-content
invariant-loop-content l = l.contents.items ≡ take l.content-index l.fields
