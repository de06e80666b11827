use Rattle.std.proofs.Common.{subst, sym}
use Rattle.std.specs.Arc.{arc_value}
use Rattle.device_core.specs.Recorded.{Recorded}
use Rattle.step_driver.specs.Held.{HoldsWorks}
use Rattle.step_driver.proofs.Doing.{send-done}
use Rattle.step_driver.proofs.running.tests.sends.Goals as goal
use Rattle.step_driver.proofs.running.tests.sends.Goals.{in-Err, in-Ok}

pub invariant_of-running : goal.invariant_of-running
invariant_of-running c =
    let k = c.running.inside in
    elim c.match-submit.branch [
      | in-Ok w ↦ (send-done k.core c.submit.new.self k.held.items c.args.host c.args.cid (arc_value c.args.command) c.running.invariant w.in-Ok.ensures.submitted c.submit.ensures.lawful).0
      | in-Err w ↦ subst (λ (d : Recorded). HoldsWorks d k.held.items) (sym w.in-Err.ensures.unchanged) c.running.invariant
    ]
