use Rattle.std.proofs.Common.{◌≡◌, ◌+◌, ◌≤◌, drop}
use Rattle.script_cmds.specs.Counts.{sends_in_items}
use Rattle.script_plan.proofs.count.item_sends.Given as goal

abbrev pub invariant-loop-item : goal.invariant-loop-item
invariant-loop-item l = (l.sends + sends_in_items (drop l.item-index l.items) ≡ sends_in_items l.items) × (l.sends ≤ l.item-index)
