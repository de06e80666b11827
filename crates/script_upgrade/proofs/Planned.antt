-- A script in version 2 has the plan that it had.
use Rattle.std.proofs.Common.{◌≡◌, ℕ, ◌+◌, ◌*◌, ◌/◌, length, refl, ap, sym, ◌∙◌}
use Rattle.script_cmds.specs.declared.form.Form.{Form}
use Rattle.script_cmds.specs.declared.script.Script.{Script}
use Rattle.script_cmds.specs.Queues.{AreExact}
use Rattle.script_cmds.specs.Text.{configuration_lines}
use Rattle.history_model.specs.Plan.{plan_of, planned_phases}
use Rattle.script_upgrade.specs.Upgraded.{upgraded, upgraded_form}

pub same_plan : (script : Script) → AreExact script.form script.config.depth → plan_of (upgraded script) ≡ plan_of script
same_plan script exact =
    ap (λ (queues : ℕ). planned_phases (script.config.depth / queues) (length (configuration_lines script.form script.config) + 1) script.phases) exact.queues

pub still_exact : (form : Form) (depth : ℕ) → AreExact form depth → AreExact (upgraded_form form) depth
still_exact form depth exact = record {
  queues = refl;
  multiple = exact.multiple ∙ ap (λ (queues : ℕ). queues * (depth / queues)) (sym exact.queues);
}
