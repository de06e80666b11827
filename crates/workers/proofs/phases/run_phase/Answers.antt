use Rattle.std.proofs.Common.{◌≡◌, ◌≤◌, ◌∙◌, ℕ, List, ap, sym, subst}
use Rattle.cp_base.specs.declared.limits.TheConstants.{MAX_HOSTS}
use Rattle.script_cmds.specs.declared.item.HostPart.{HostPart}
use Rattle.history_model.specs.Plain.{plain_parts}
use Rattle.seat_lock.specs.Passes.{seats_in}
use Rattle.device_lock.specs.Passes.{AreAllOfDevice, DevicePasses}
use Rattle.workers.specs.Phases.{AreFurther, AreReady}
use Rattle.workers.proofs.Running.{HaveMetNow, IsPhaseRun, all-further, all-ready, phase-run}
use Rattle.workers.proofs.phases.run_phase.Goals as goal

pub run_workers-all-requires-clause-workers : goal.run_workers-all-requires-clause-workers
run_workers-all-requires-clause-workers g c κs within =
    subst (λ (n : ℕ). MAX_HOSTS ≤ n) (sym c.seats-last.ensures) (subst (λ (ps : DevicePasses). MAX_HOSTS ≤ seats_in ps) (sym c.take_all-all.ensures.passes) c.requires.hosts)

pub run_workers-all-requires-clause-ready : goal.run_workers-all-requires-clause-ready
run_workers-all-requires-clause-ready g c κs within =
    let d = c.args.device.now in
    let ps = c.args.passes.now in
    let last : c.seats-last.result ≡ seats_in ps = c.seats-last.ensures ∙ ap (λ (xs : DevicePasses). seats_in xs) c.take_all-all.ensures.passes in
    subst (λ (xs : DevicePasses). AreReady d c.seats-last.result c.into_vec.result.items xs) (sym c.take_all-all.ensures.passes)
    (subst (λ (parts : List HostPart). AreReady d c.seats-last.result parts ps) (sym c.into_vec.ensures)
    (all-ready d c.seats-last.result c.args.phase ps last c.requires.hosts c.requires.all c.requires.idle c.requires.rules c.requires.none))

pub meet-requires : goal.meet-requires
meet-requires g c =
    let d = c.args.device.now in
    let further : AreFurther 1 d (plain_parts c.args.phase.hosts) c.args.passes.now c.run_workers-all.result =
    subst (λ (ps : DevicePasses). AreFurther 1 d (plain_parts c.args.phase.hosts) ps c.run_workers-all.result) c.take_all-all.ensures.passes
    (subst (λ (parts : List HostPart). AreFurther 1 d (plain_parts parts) c.take_all-all.result c.run_workers-all.result) c.into_vec.ensures c.run_workers-all.ensures) in
    all-further 1 d (plain_parts c.args.phase.hosts) c.args.passes.now c.run_workers-all.result c.requires.all further

pub returns : goal.returns
returns g c =
    let d = c.args.device.now in
    let further : AreFurther 1 d (plain_parts c.args.phase.hosts) c.args.passes.now c.run_workers-all.result =
    subst (λ (ps : DevicePasses). AreFurther 1 d (plain_parts c.args.phase.hosts) ps c.run_workers-all.result) c.take_all-all.ensures.passes
    (subst (λ (parts : List HostPart). AreFurther 1 d (plain_parts parts) c.take_all-all.result c.run_workers-all.result) c.into_vec.ensures c.run_workers-all.ensures) in
    let met : HaveMetNow d c.run_workers-all.result c.meet.new.passes =
    record { all = c.meet.ensures.all; met = c.meet.ensures.met; seen = c.meet.ensures.seen; made = c.meet.ensures.made; lost = c.meet.ensures.lost } in
    let run : IsPhaseRun d c.args.phase c.args.passes.now c.meet.new.passes =
    phase-run d c.args.phase c.args.passes.now c.run_workers-all.result c.meet.new.passes c.requires.hosts c.requires.all c.requires.idle c.requires.rules c.requires.none further met in
    record { seats = run.seats; all = met.all; idle = run.idle; met = met.met; further = run.further; none = run.none; others = run.others; done = run.done }
