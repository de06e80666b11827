use Rattle.std.proofs.Common.{◌≡◌, ◌∙◌, Ok, sym}
use Rattle.device_core.specs.Gives.{world_in}
use Rattle.core_model.specs.Causes.{take_answer}
use Rattle.step_driver.proofs.Doing.{take-done}
use Rattle.step_driver.proofs.running.Running.take.Goals as goal

pub invariant_of-self : goal.invariant_of-self
invariant_of-self c =
    let k = c.self.inside in
    let done = take-done k.core c.take.new.self k.held.items c.args.host c.args.cid c.in-Ok.field-0 c.self.invariant (sym c.in-Ok.ensures.answer) c.in-Ok.ensures.taken c.take.ensures.lawful in
    done.0
