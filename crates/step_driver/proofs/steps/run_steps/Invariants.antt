use Rattle.std.proofs.Common.{◌≡◌}
use Rattle.std.specs.Vec.Iter.{into_iter_items}
use Rattle.history_model.specs.Plain.{plain_phases}
use Rattle.step_driver.specs.Plans.{Follows}
use Rattle.step_driver.proofs.steps.run_steps.Given as goal

-- the plan is followed, and these phases are left
abbrev pub invariant-loop-phase : goal.invariant-loop-phase
invariant-loop-phase l = record {
  follows : Follows l.fn.plan.phases l.workers l.fn.choices l.running (plain_phases (into_iter_items l.phase-iterator)) l.choices;
  config : l.running.config ≡ l.config;
}
