-- What `upgrade` writes of a script.
use Rattle.std.proofs.Common.{◌≡◌, ℕ, List, None, Result, Ok, Err, refl}
use Rattle.std.specs.Prelude.{IsOk}
use Rattle.script_cmds.specs.declared.item.Phase.{Phase}
use Rattle.script_cmds.specs.declared.script.Script.{Script}
use Rattle.script_cmds.specs.Fault.{first_fault}
use Rattle.history_model.specs.Plain.{PlainPart, plain_phase}
use Rattle.history_model.specs.Plan.{PlanFault, plan_of}
use Rattle.script_plan.specs.Meant.{meant}
use Rattle.script_upgrade.specs.Upgraded.{upgraded}
use Rattle.nvmecp.specs.Step.{IsTextOf}
use Rattle.nvmecp.specs.Upgrade.{IsUpgrade}

-- a plan that is meant is there
is_there : (r : Result (List Phase) PlanFault) (plan : List (List PlainPart)) → meant plain_phase r ≡ Ok plan → IsOk r
is_there (Ok phases) plan e = refl
is_there (Err fault) plan e = absurd cc

pub is_upgrade : (input text : List ℕ) (script : Script) (plan : List (List PlainPart)) → first_fault input ≡ None → IsTextOf script input → meant plain_phase (plan_of script) ≡ Ok plan
    → IsTextOf (upgraded script) text → first_fault text ≡ None → plan_of (upgraded script) ≡ plan_of script → IsUpgrade input text
is_upgrade input text script plan faultless read planned written accepted same = record {
  faultless = faultless;
  script = script;
  read = read;
  planned = is_there (plan_of script) plan planned;
  written = written;
  accepted = accepted;
  same_plan = same;
}
