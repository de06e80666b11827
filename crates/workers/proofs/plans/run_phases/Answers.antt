use Rattle.std.proofs.Common.{◌≡◌, ◌∙◌, List, [], ◌∷◌, ap, arith, length, refl, subst, sym}
use Rattle.std.specs.Vec.Iter.{into_iter_items}
use Rattle.script_cmds.specs.Hosts.{hosts_of}
use Rattle.script_cmds.specs.declared.item.Phase.{Phase}
use Rattle.device_lock.specs.Passes.{DevicePasses}
use Rattle.history_model.specs.Plain.{plain_phases}
use Rattle.workers.proofs.Phased.{HasPhasesLeft, HaveRun, all-phases-left, no-phase-left, no-phases, none-by-hosts, phase-left, run-nothing}
use Rattle.workers.proofs.Running.{IsPhaseRun}
use Rattle.workers.proofs.plans.run_phases.Goals as goal

pub loop-phase-init : goal.loop-phase-init
loop-phase-init g c =
    let d = c.args.device.now in
    let ps = c.args.passes.now in
    let gives = c.into_iter-phase-iterator.ensures.into_iter_gives in
    let items = ap length gives.0 in
    let len = gives.1 in
    record {
      left = subst (λ (left : List Phase). HasPhasesLeft d c.args.phases.items left ps) (sym gives.0)
          (all-phases-left d c.args.phases.items ps c.requires.rules (run-nothing d ps c.requires.hosts c.requires.all c.requires.idle c.requires.nothing));
      count = omega (arith, items, len);
      seats = refl;
    }

pub run_phase-requires-clause-hosts : goal.run_phase-requires-clause-hosts
run_phase-requires-clause-hosts g c κs within = c.loop-phase.invariant.left.run.hosts

pub run_phase-requires-clause-all : goal.run_phase-requires-clause-all
run_phase-requires-clause-all g c κs within = c.loop-phase.invariant.left.run.all

pub run_phase-requires-clause-idle : goal.run_phase-requires-clause-idle
run_phase-requires-clause-idle g c κs within = c.loop-phase.invariant.left.run.idle

pub run_phase-requires-clause-rules : goal.run_phase-requires-clause-rules
run_phase-requires-clause-rules g c κs within =
    let d = c.args.device.now in
    let left : HasPhasesLeft d c.args.phases.items (c.in-Some.phase ∷ into_iter_items c.next.new.self) c.loop-phase.passes =
    subst (λ (xs : List Phase). HasPhasesLeft d c.args.phases.items xs c.loop-phase.passes) c.in-Some.ensures.steps.0 c.loop-phase.invariant.left in
    left.rules.0

pub run_phase-requires-clause-none : goal.run_phase-requires-clause-none
run_phase-requires-clause-none g c κs within =
    let left = c.loop-phase.invariant.left in
    none-by-hosts c.args.device.now left.done (hosts_of c.in-Some.phase.hosts) c.loop-phase.passes left.run

pub loop-phase-preserved : goal.loop-phase-preserved
loop-phase-preserved g c =
    let d = c.args.device.now in
    let rest = into_iter_items c.next.new.self in
    let has : HasPhasesLeft d c.args.phases.items (c.in-Some.phase ∷ rest) c.loop-phase.passes =
    subst (λ (xs : List Phase). HasPhasesLeft d c.args.phases.items xs c.loop-phase.passes) c.in-Some.ensures.steps.0 c.loop-phase.invariant.left in
    let ran = c.run_phase.ensures in
    let run : IsPhaseRun d c.in-Some.phase c.loop-phase.passes c.run_phase.new.passes =
    record { seats = ran.seats; idle = ran.idle; further = ran.further; none = ran.none; others = ran.others; done = ran.done } in
    let gone = c.in-Some.ensures.steps.1 in
    let short = ap length c.in-Some.ensures.steps.0 in
    let was = c.loop-phase.invariant.count in
    record {
      left = phase-left d c.args.phases.items rest c.in-Some.phase c.loop-phase.passes c.run_phase.new.passes has ran.all run;
      count = omega (arith, gone, short, was);
      seats = ran.seats ∙ c.loop-phase.invariant.seats;
    }

pub returns-clause-seats : goal.returns-clause-seats
returns-clause-seats g c = c.loop-phase.invariant.seats

pub returns-clause-all : goal.returns-clause-all
returns-clause-all g c = c.loop-phase.invariant.left.run.all

pub returns-clause-did : goal.returns-clause-did
returns-clause-did g c =
    let d = c.args.device.now in
    let none : into_iter_items c.loop-phase.phase-iterator ≡ [] = no-phases (into_iter_items c.loop-phase.phase-iterator) (sym c.loop-phase.invariant.count ∙ c.in-None.ensures.steps.0) in
    let run : HaveRun d (plain_phases c.args.phases.items) c.loop-phase.passes = no-phase-left d c.args.phases.items c.loop-phase.passes
    (subst (λ (left : List Phase). HasPhasesLeft d c.args.phases.items left c.loop-phase.passes) none c.loop-phase.invariant.left) in
    run.did

pub returns-clause-done : goal.returns-clause-done
returns-clause-done g c =
    let d = c.args.device.now in
    let none : into_iter_items c.loop-phase.phase-iterator ≡ [] = no-phases (into_iter_items c.loop-phase.phase-iterator) (sym c.loop-phase.invariant.count ∙ c.in-None.ensures.steps.0) in
    let run : HaveRun d (plain_phases c.args.phases.items) c.loop-phase.passes = no-phase-left d c.args.phases.items c.loop-phase.passes
    (subst (λ (left : List Phase). HasPhasesLeft d c.args.phases.items left c.loop-phase.passes) none c.loop-phase.invariant.left) in
    run.done_so_far
