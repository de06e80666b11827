use Rattle.std.proofs.Common.{subst, sym}
use Rattle.device_core.specs.Recorded.{Recorded}
use Rattle.step_driver.specs.Held.{HoldsWorks}
use Rattle.step_driver.proofs.Doing.{take-done}
use Rattle.step_driver.proofs.running.tests.takes.Goals as goal
use Rattle.step_driver.proofs.running.tests.takes.Goals.{in-Err, in-Ok}

pub invariant_of-running : goal.invariant_of-running
invariant_of-running c =
    let k = c.running.inside in
    elim c.match-take.branch [
      | in-Ok w ↦ (take-done k.core c.take.new.self k.held.items c.args.host c.args.cid w.in-Ok.place c.running.invariant (sym w.in-Ok.ensures.answer) w.in-Ok.ensures.taken c.take.ensures.lawful).0
      | in-Err w ↦ subst (λ (d : Recorded). HoldsWorks d k.held.items) (sym w.in-Err.ensures.unchanged) c.running.invariant
    ]
