use Rattle.std.proofs.Common.{◌≡◌, ◌≤◌, ◌+◌, ◌*◌, length, arith, subst}
use Rattle.cp_base.specs.declared.limits.TheConstants.{MAX_COMMANDS}
use Rattle.device_core.specs.Gives.{world_in}
use Rattle.device_core.specs.Recorded.{Recorded}
use Rattle.step_driver.proofs.Holding.{few-open, held-count}
use Rattle.step_driver.proofs.running.Running.open.Goals as goal

pub returns-clause-open : goal.returns-clause-open
returns-clause-open c =
    let k = c.self.inside in
    let n = held-count k.core.config (world_in k.core).claims k.held.items c.self.invariant.works in
    subst (λ (d : Recorded). c.len.result ≡ length (world_in d).claims) c.self.view_is (omega arith)

pub returns-clause-few : goal.returns-clause-few
returns-clause-few c =
    let k = c.self.inside in
    let n = held-count k.core.config (world_in k.core).claims k.held.items c.self.invariant.works in
    let few = few-open k.core k.held.items c.self.invariant in
    omega arith
