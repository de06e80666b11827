use Rattle.std.proofs.Common.{◌≡◌, ◌∙◌, ℕ, List, [], ap, length, subst, sym}
use Rattle.std.specs.List.{All}
use Rattle.std.specs.Vec.Iter.{into_iter_items}
use Rattle.cp_base.specs.Configuration.{Configuration}
use Rattle.script_cmds.specs.declared.item.Phase.{Phase}
use Rattle.history_model.specs.Plain.{plain_phases}
use Rattle.history_model.specs.Rules.{KeepsRules}
use Rattle.device_core.specs.Gives.{world_in}
use Rattle.device_core.specs.Recorded.{Recorded}
use Rattle.schedule_model.specs.Schedule.{IsScheduled}
use Rattle.schedule_model.specs.Told.{TellsPlan}
use Rattle.step_driver.specs.Plans.{Follows}
use Rattle.step_driver.proofs.Following.{follows-first, follows-last, tells-last}
use Rattle.step_driver.proofs.Getting.{none-left}
use Rattle.step_driver.proofs.steps.run_steps.Goals as goal

pub loop-phase-init : goal.loop-phase-init
loop-phase-init c =
    let plan = c.args.plan.phases in
    let d = c.in_ok-running.running in
    let fresh : Recorded = record { config = c.args.config.now; commands = c.args.plan.commands; trail = [] } in
    let new : d ≡ fresh = c.in_ok-running.ensures ∙ c.in_ok-core.ensures in
    let all : into_iter_items c.into_iter-phase-iterator.result ≡ plan = c.into_iter-phase-iterator.ensures.into_iter_gives.0 ∙ c.into_vec-phases.ensures in
    let rules : All (KeepsRules d.config.depth) plan =
    subst (λ (k : Configuration). All (KeepsRules k.depth) plan) (sym (ap (λ (r : Recorded). r.config) new)) c.requires.rules in
    record {
      follows = subst (λ (left : List Phase). Follows plan c.args.workers c.args.choices d (plain_phases left) c.args.choices) (sym all)
          (follows-first plan c.args.workers c.args.choices d (ap (λ (r : Recorded). r.trail) new) rules (ap (λ (r : Recorded). r.commands) new ∙ c.requires.commands));
      config = ap (λ (r : Recorded). r.config) new;
    }

pub returns-clause-scheduled : goal.returns-clause-scheduled
returns-clause-scheduled c =
    let plan = c.args.plan.phases in
    let d = c.loop-phase.running in
    let it = c.loop-phase.phase-iterator in
    let none : into_iter_items it ≡ [] = none-left (into_iter_items it) (sym it.rest.ok.0 ∙ c.in-None.ensures.steps.0) in
    let follows : Follows plan c.args.workers c.args.choices d [] c.loop-phase.choices =
    subst (λ (left : List Phase). Follows plan c.args.workers c.args.choices d (plain_phases left) c.loop-phase.choices) none c.loop-phase.invariant.follows in
    subst (λ (r : Recorded). IsScheduled c.args.config.now (plain_phases plan) c.args.workers c.args.choices r.trail) (sym c.into_core.ensures)
    (subst (λ (k : Configuration). IsScheduled k (plain_phases plan) c.args.workers c.args.choices d.trail) c.loop-phase.invariant.config
    (follows-last plan c.args.workers c.args.choices d c.loop-phase.choices follows))

pub returns-clause-told : goal.returns-clause-told
returns-clause-told c =
    let plan = c.args.plan.phases in
    let d = c.loop-phase.running in
    let it = c.loop-phase.phase-iterator in
    let none : into_iter_items it ≡ [] = none-left (into_iter_items it) (sym it.rest.ok.0 ∙ c.in-None.ensures.steps.0) in
    let follows : Follows plan c.args.workers c.args.choices d [] c.loop-phase.choices =
    subst (λ (left : List Phase). Follows plan c.args.workers c.args.choices d (plain_phases left) c.loop-phase.choices) none c.loop-phase.invariant.follows in
    subst (λ (r : Recorded). TellsPlan c.args.config.now plan (world_in r)) (sym c.into_core.ensures)
    (subst (λ (k : Configuration). TellsPlan k plan (world_in d)) c.loop-phase.invariant.config
    (tells-last plan c.args.workers c.args.choices d c.loop-phase.choices follows))
