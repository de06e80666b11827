use Rattle.std.proofs.Common.{◌≡◌, drop}
use Rattle.schedule_model.specs.Schedule.{all_done}
use Rattle.step_driver.proofs.steps.all_done.Given as goal

-- all so far have done all
abbrev pub invariant-loop-part : goal.invariant-loop-part
invariant-loop-part l = all_done (drop l.part-index l.parts) ≡ all_done l.parts
