use Rattle.std.specs.Arc.{arc_value}
use Rattle.step_driver.proofs.Doing.{send-done}
use Rattle.step_driver.proofs.running.Running.send.Goals as goal

pub invariant_of-self : goal.invariant_of-self
invariant_of-self c =
    let k = c.self.inside in
    let done = send-done k.core c.submit.new.self k.held.items c.args.host c.args.cid (arc_value c.args.command) c.self.invariant c.in-Ok.ensures.submitted c.submit.ensures.lawful in
    done.0
