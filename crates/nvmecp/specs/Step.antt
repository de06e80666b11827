-- The word `step`: a script is carried out and its history printed. This project's own.
use Rattle.std.specs.Prelude.{◌≡◌, ℕ, ◌⊎◌, All, List, Ok, Err, None, Some, IsOk, IsErr}
use Rattle.script_cmds.specs.declared.fault.ScriptFault.{ScriptFault}
use Rattle.script_cmds.specs.declared.item.Phase.{Phase}
use Rattle.script_cmds.specs.declared.script.Script.{Script}
use Rattle.script_cmds.specs.Fault.{first_fault}
use Rattle.script_line.specs.Sized.{AreSized}
use Rattle.script_cmds.specs.Queues.{AreExact}
use Rattle.script_cmds.specs.Text.{lines_of, script_text}
use Rattle.history_model.specs.Plain.{plain_phases}
use Rattle.history_model.specs.Plan.{PlanFault, plan_of}
use Rattle.history_model.specs.Sized.{IsSizedEntry}
use Rattle.history_model.specs.Text.{history_text}
use Rattle.trail_model.specs.Lawful.{Trail, world_of}
use Rattle.schedule_model.specs.Schedule.{IsScheduled}
use Rattle.schedule_model.specs.Told.{TellsPlan}
use Rattle.nvmecp.specs.Refusal.{breach_line, fault_line}
use Rattle.nvmecp.specs.Task.{Task, max_input, never, none_denies}

-- The input is the text of a script, whose numbers have 64 bits and whose data are bytes, and which says of its queues
-- what the text says.
pub record IsTextOf (script : Script) (input : List ℕ) : Type 0 where
  pub sized : AreSized (lines_of script)
  pub queues : AreExact script.form script.config.depth
  pub read : script_text script ≡ input

-- The input is accepted: no line of it is faulty, and the script whose text it is has a plan.
pub record HasPlan (input : List ℕ) : Type 0 where
  pub faultless : first_fault input ≡ None
  pub planned : (script : Script) → IsTextOf script input → IsOk (plan_of script)

-- The input is rejected: a line of it is faulty, or the script whose text it is has no plan.
abbrev pub HasNoPlan : List ℕ → Type 0
HasNoPlan input = (first_fault input ≡ None → ⊥) ⊎ ((script : Script) → IsTextOf script input → IsErr (plan_of script))

-- The text is that of the history that a trail tells of a plan of a script: a history that is legal for the plan, with no
-- command outstanding, no claim open and each byte at home at its end. The history's numbers have 64 bits, and what was
-- read are bytes: so the text tells the history.
pub record IsPrintOfTrail (script : Script) (plan : List Phase) (trail : Trail) (text : List ℕ) : Type 0 where
  pub planned : plan_of script ≡ Ok plan
  pub tells : TellsPlan script.config plan (world_of script.config trail)
  pub sized : All IsSizedEntry tells.history
  pub printed : text ≡ history_text script.config script.shows tells.history

-- The text is that of the history of the schedule that a number of workers and a number that chooses select: a trail of
-- that schedule tells it.
pub record IsPrintOf (script : Script) (workers choices : ℕ) (text : List ℕ) : Type 0 where
  pub plan : List Phase
  pub trail : Trail
  pub scheduled : IsScheduled script.config (plain_phases plan) workers choices trail
  pub print : IsPrintOfTrail script plan trail text

-- The input is a script, and the text is that of the history of the schedule that is selected.
pub record IsHistory (workers choices : ℕ) (input : List ℕ) (text : List ℕ) : Type 0 where
  pub faultless : first_fault input ≡ None
  pub script : Script
  pub read : IsTextOf script input
  pub print : IsPrintOf script workers choices text

-- What is told of an input that is no script with a plan: its first faulty line, or, where no line is
-- faulty, the first line that breaks a rule of queues.
pub data TellsScript (input : List ℕ) (text : List ℕ) : Type 0 where
  Faulty : (fault : ScriptFault) → first_fault input ≡ Some fault → text ≡ fault_line fault → TellsScript input text
  Unplanned : (script : Script) (fault : PlanFault) → first_fault input ≡ None → IsTextOf script input
      → plan_of script ≡ Err fault → text ≡ breach_line fault → TellsScript input text

-- what `step` with so many workers and these choices does with its input
abbrev pub step_task : ℕ → ℕ → Task
step_task workers choices = record {
  limit = max_input;
  Accepts = HasPlan;
  Rejects = HasNoPlan;
  Belies = never;
  Answers = IsHistory workers choices;
  Refuses = TellsScript;
  Denies = none_denies;
}
