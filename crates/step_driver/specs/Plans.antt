-- Plans that are carried out by the schedule. This project's own.
use Rattle.std.specs.Prelude.{◌≡◌, ℕ, All, List, length}
use Rattle.script_cmds.specs.declared.item.Phase.{Phase}
use Rattle.history_model.specs.Plain.{plain_phases}
use Rattle.history_model.specs.Rules.{KeepsRules}
use Rattle.history_model.specs.Sent.{sends_of}
use Rattle.trail_model.specs.World.{first_world}
use Rattle.device_core.specs.Gives.{world_in}
use Rattle.device_core.specs.Recorded.{Recorded}
use Rattle.schedule_model.specs.Deeds.{Phases}
use Rattle.schedule_model.specs.Schedule.{RunsTo, not_over}

-- A device has followed the schedule of a plan so far, and this is left of the phases and of the number that chooses. A
-- phase that is over may be left out.
pub record Follows (plan : List Phase) (workers first : ℕ) (d : Recorded) (left : Phases) (rest : ℕ) : Type 0 where
  pub rules : All (KeepsRules d.config.depth) plan
  pub commands : d.commands ≡ length (sends_of plan)
  pub phases : Phases
  pub runs : RunsTo d.config workers (first_world d.config) (plain_phases plan) first d.trail phases rest
  pub same : not_over (world_in d).at_rest phases ≡ not_over (world_in d).at_rest left
