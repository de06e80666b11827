use Rattle.std.proofs.Common.{◌≡◌, ◌+◌, ◌≤◌, drop}
use Rattle.history_model.specs.Plan.{lines_of_parts}
use Rattle.script_cmds.specs.Counts.{sends_in_parts}
use Rattle.script_plan.proofs.count.part_sends.Given as goal

abbrev pub invariant-loop-part : goal.invariant-loop-part
invariant-loop-part l = (l.sends + sends_in_parts (drop l.part-index l.parts) ≡ sends_in_parts l.parts) × (lines_of_parts (drop l.part-index l.parts) ≤ lines_of_parts l.parts)
