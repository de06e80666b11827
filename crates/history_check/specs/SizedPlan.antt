-- How large what a plan says can be. This project's own.
use Rattle.std.specs.Prelude.{◌^◌, ◌<◌, ◌≤◌, List, All, length}
use Rattle.cp_base.specs.Configuration.{Configuration}
use Rattle.cp_base.specs.declared.limits.TheConstants.{MAX_BUDGET}
use Rattle.script_cmds.specs.declared.item.Phase.{Phase}
use Rattle.history_model.specs.Sent.{sends_of}
use Rattle.history_model.specs.Sized.{IsSizedSend}

-- the numbers of a plan's commands have 64 bits and their data are bytes, and so does what counts them
pub record IsSizedPlan (c : Configuration) (plan : List Phase) : Type 0 where
  pub budget : c.budget ≤ MAX_BUDGET
  pub few : length (sends_of plan) < 2 ^ 64
  pub sends : All IsSizedSend (sends_of plan)
