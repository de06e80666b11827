-- A script that was read, with its plan. This project's own.
use Rattle.std.specs.Prelude.{◌≡◌, ◌≤◌, All, List, Ok, length}
use Rattle.cp_base.specs.declared.limits.TheConstants.{MAX_COMMANDS}
use Rattle.script_line.specs.Sized.{AreSized}
use Rattle.script_cmds.specs.Kept.{KeepsOrderAndLimits}
use Rattle.script_cmds.specs.Text.{lines_of}
use Rattle.script_cmds.specs.declared.item.Phase.{Phase}
use Rattle.script_cmds.specs.declared.script.Script.{Script}
use Rattle.history_model.specs.Plain.{plain_phase, plain_phases}
use Rattle.history_model.specs.Plan.{plan_of}
use Rattle.history_model.specs.Rules.{KeepsRules}
use Rattle.history_model.specs.Sent.{sends_of}
use Rattle.script_plan.specs.Meant.{meant}
use Rattle.script_plan.specs.declared.answer.Plan.{Plan}

-- The script keeps its order and limits and its numbers their sizes, and the plan is the script's: it sends the same
-- commands, as many as a device carries out, and keeps the rules of queues.
pub record IsPlanned (script : Script) (plan : Plan) : Type 0 where
  pub kept : KeepsOrderAndLimits script
  pub sized : AreSized (lines_of script)
  pub planned : meant plain_phase (plan_of script) ≡ Ok (plain_phases plan.phases)
  pub given : (given : List Phase) → plan_of script ≡ Ok given → sends_of given ≡ sends_of plan.phases
  pub sends : sends_of plan.phases ≡ sends_of script.phases
  pub commands : plan.commands ≡ length (sends_of plan.phases)
  pub limited : plan.commands ≤ MAX_COMMANDS
  pub rules : All (KeepsRules script.config.depth) plan.phases
