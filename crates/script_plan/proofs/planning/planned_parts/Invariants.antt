use Rattle.std.proofs.Common.{◌≡◌, ◌+◌, drop}
use Rattle.history_model.specs.Plain.{plain_part, plain_parts}
use Rattle.history_model.specs.Plan.{planned_parts, lines_of_parts}
use Rattle.script_plan.specs.Meant.{meant, after}
use Rattle.script_plan.proofs.planning.planned_parts.Given as goal

abbrev pub invariant-loop-part : goal.invariant-loop-part
invariant-loop-part l =
    (l.line + lines_of_parts (drop l.part-index l.parts) ≡ l.fn.line + lines_of_parts l.parts)
    × (meant plain_part (planned_parts l.depth l.fn.line l.parts) ≡ after (plain_parts l.planned.items) (meant plain_part (planned_parts l.depth l.line (drop l.part-index l.parts))))
