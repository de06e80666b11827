-- The word `upgrade`: a script is written as version 2. This project's own.
use Rattle.std.specs.Prelude.{◌≡◌, ℕ, List, None, IsOk}
use Rattle.script_cmds.specs.declared.script.Script.{Script}
use Rattle.script_cmds.specs.Fault.{first_fault}
use Rattle.history_model.specs.Plan.{plan_of}
use Rattle.script_upgrade.specs.Upgraded.{upgraded}
use Rattle.nvmecp.specs.Step.{HasNoPlan, HasPlan, IsTextOf, TellsScript}
use Rattle.nvmecp.specs.Task.{Task, max_input, never, none_denies}

-- The input is a script with a plan, and the text is that of the script with version 2 and all else as the input's
-- script has it. No line of that text is faulty, and its plan is that of the input.
pub record IsUpgrade (input text : List ℕ) : Type 0 where
  pub faultless : first_fault input ≡ None
  pub script : Script
  pub read : IsTextOf script input
  pub planned : IsOk (plan_of script)
  pub written : IsTextOf (upgraded script) text
  pub accepted : first_fault text ≡ None
  pub same_plan : plan_of (upgraded script) ≡ plan_of script

-- what `upgrade` does with its input
abbrev pub upgrade_task : Task
upgrade_task = record {
  limit = max_input;
  Accepts = HasPlan;
  Rejects = HasNoPlan;
  Belies = never;
  Answers = IsUpgrade;
  Refuses = TellsScript;
  Denies = none_denies;
}
