use Rattle.step_driver.proofs.Doing.{rest-done}
use Rattle.step_driver.proofs.running.Running.rest.Goals as goal

pub invariant_of-self : goal.invariant_of-self
invariant_of-self c =
    let k = c.self.inside in
    rest-done k.core c.rest.new.self k.held.items 1 c.self.invariant c.rest.ensures.rested c.rest.ensures.lawful
