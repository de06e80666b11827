use Rattle.std.proofs.Common.{◌≡◌, ◌≤◌, ◌∙◌, List, ap, arith, subst, sym}
use Rattle.cp_base.specs.Configuration.{Configuration}
use Rattle.cp_base.specs.declared.limits.TheConstants.{MAX_HOSTS}
use Rattle.script_cmds.specs.declared.item.Phase.{Phase}
use Rattle.history_model.specs.Plain.{plain_phases}
use Rattle.seat_lock.specs.Passes.{seats_in}
use Rattle.trail_model.specs.Lawful.{IsLawful, world_of}
use Rattle.device_core.specs.Recorded.{Recorded}
use Rattle.schedule_model.specs.Deeds.{HostsDid}
use Rattle.schedule_model.specs.Told.{TellsPlan}
use Rattle.schedule_model.proofs.Telling.{tells-plan}
use Rattle.workers.proofs.Phased.{closed-did}
use Rattle.workers.proofs.plans.run_plan.Goals as goal

pub returns-clause-did : goal.returns-clause-did
returns-clause-did g c =
    let ps = c.run_phases.new.passes in
    let some = c.in_ok-device.ensures.seats in
    let same = c.run_phases.ensures.seats in
    let enough : MAX_HOSTS ≤ seats_in ps = omega (arith, some, same) in
    subst (λ (xs : List Phase). HostsDid (plain_phases xs) c.close.result.trail) c.into_vec-phases.ensures
    (closed-did c.in_ok-device.device (plain_phases c.into_vec-phases.result.items) ps c.close.result.trail enough c.run_phases.ensures.all c.run_phases.ensures.done
    c.run_phases.ensures.did c.close.ensures.fits)

pub returns-clause-told : goal.returns-clause-told
returns-clause-told g c =
    let k : Configuration = c.args.config.now in
    let plan = c.args.plan.phases in
    let trail = c.close.result.trail in
    let commands = c.in_ok-device.device.commands in
    let same : c.in_ok-device.device.config ≡ k = c.in_ok-device.ensures.device.0 ∙ ap (λ (r : Recorded). r.config) c.in_ok-core.ensures in
    let lawful : IsLawful k commands trail = subst (λ (x : Configuration). IsLawful x commands trail) same c.close.ensures.lawful in
    subst (λ (x : Configuration). TellsPlan k plan (world_of x trail)) (sym (c.close.ensures.device.0 ∙ same))
    (tells-plan k commands plan trail c.requires.rules lawful (returns-clause-did g c))
