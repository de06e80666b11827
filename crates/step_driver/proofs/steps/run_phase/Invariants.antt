use Rattle.std.proofs.Common.{◌≡◌, ℕ, ◌+◌, ◌*◌, ◌-◌, List, ◌∷◌, length}
use Rattle.script_cmds.specs.declared.item.Phase.{Phase}
use Rattle.history_model.specs.Plain.{plain_phase}
use Rattle.schedule_model.specs.Deeds.{Phases}
use Rattle.step_driver.specs.Plans.{Follows}
use Rattle.step_driver.proofs.steps.run_phase.Given as goal

-- the plan is followed, and this is left of the phase
abbrev pub invariant-turns : goal.invariant-turns
invariant-turns l = record {
  follows : (plan : List Phase) (first : ℕ) (later : Phases) → Follows plan l.workers first l.fn.running (plain_phase l.fn.phase ∷ later) l.fn.choices
      → Follows plan l.workers first l.running (l.parts.items ∷ later) l.choices;
  config : l.running.config ≡ l.fn.running.config;
}

-- each turn makes the trail longer
abbrev pub decreases-turns : goal.decreases-turns
decreases-turns l = 5 * l.running.commands + 1 - length l.running.trail
