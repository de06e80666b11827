-- The word `serve`: a script is carried out by threads and its history printed. This project's own.
use Rattle.std.specs.Prelude.{◌≡◌, ℕ, List, None, length}
use Rattle.script_cmds.specs.declared.item.Phase.{Phase}
use Rattle.script_cmds.specs.declared.script.Script.{Script}
use Rattle.script_cmds.specs.Fault.{first_fault}
use Rattle.history_model.specs.Plain.{plain_phases}
use Rattle.history_model.specs.Sent.{sends_of}
use Rattle.trail_model.specs.Lawful.{IsLawful, Trail}
use Rattle.schedule_model.specs.Deeds.{HostsDid}
use Rattle.nvmecp.specs.Step.{HasNoPlan, HasPlan, IsPrintOfTrail, IsTextOf, TellsScript}
use Rattle.nvmecp.specs.Task.{Task, max_input, never, none_denies}

-- The text is that of a history of the script's plan: a lawful trail, in which the hosts did the plan, tells it.
pub record IsPrintOfHosts (script : Script) (text : List ℕ) : Type 0 where
  pub plan : List Phase
  pub trail : Trail
  pub lawful : IsLawful script.config (length (sends_of plan)) trail
  pub did : HostsDid (plain_phases plan) trail
  pub print : IsPrintOfTrail script plan trail text

-- The input is a script, and the text is that of one of the histories that its hosts may have.
pub record IsServed (input : List ℕ) (text : List ℕ) : Type 0 where
  pub faultless : first_fault input ≡ None
  pub script : Script
  pub read : IsTextOf script input
  pub print : IsPrintOfHosts script text

-- what `serve` does with its input, with any number of workers
abbrev pub serve_task : Task
serve_task = record {
  limit = max_input;
  Accepts = HasPlan;
  Rejects = HasNoPlan;
  Belies = never;
  Answers = IsServed;
  Refuses = TellsScript;
  Denies = none_denies;
}
