use Rattle.std.proofs.Common.{◌≡◌, length}
use Rattle.script_plan.proofs.tests.part.Given as goal

abbrev pub invariant-loop-act : goal.invariant-loop-act
invariant-loop-act l = length l.items.items ≡ l.act-index
