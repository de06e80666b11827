use Rattle.std.proofs.Common.{◌≡◌, ◌+◌, [], drop}
use Rattle.history_model.specs.Plain.{plain_item, plain_items}
use Rattle.history_model.specs.Plan.{planned_items}
use Rattle.script_plan.specs.Meant.{meant, after}
use Rattle.script_plan.proofs.planning.planned_items.Given as goal

abbrev pub invariant-loop-item : goal.invariant-loop-item
invariant-loop-item l =
    (l.line ≡ l.fn.line + l.item-index)
    × (meant plain_item (planned_items l.depth l.fn.line [] l.items) ≡ after (plain_items l.planned.items) (meant plain_item (planned_items l.depth l.line l.outstanding (drop l.item-index l.items))))
