use Rattle.std.proofs.Common.{◌≡◌, ℕ, ◌+◌, List, length, Result, Err, refl, ◌∙◌, ap, subst, arith}
use Rattle.std.proofs.Math.Nat.{mul-div-le}
use Rattle.std.proofs.lemmas.Result.{err_from_is_err_and}
use Rattle.history_model.specs.Plan.{PlanFault, plan_of, planned_phases}
use Rattle.script_cmds.specs.declared.item.Phase.{Phase}
use Rattle.script_cmds.specs.declared.script.Script.{Script}
use Rattle.script_plan.specs.Cause.{ForFault}
use Rattle.script_cmds.specs.Text.{configuration_lines}
use Rattle.script_plan.specs.Counted.{lines_of_phases}
use Rattle.script_cmds.specs.Counts.{sends_in_phases}
use Rattle.script_cmds.specs.Queues.{queue_depth, queues_of}
use Rattle.script_cmds.proofs.HostLaws.{hosts_ascend, to_queues}
use Rattle.script_plan.proofs.Counting.{phases-fit}
use Rattle.script_plan.proofs.Whole.{Means, keeps-queues, keeps-rules, hosts-same, sends-given, sends-same, sends-counted}
use Rattle.script_plan.proofs.planning.plan.Goals as goal

pub planned_phases-requires : goal.planned_phases-requires
planned_phases-requires c = omega (arith, c.configuration_lines-line.ensures.value c.args.script.now.form, phases-fit c.args.script.now, ap lines_of_phases c.as_slice-phases.ensures)

-- the plan as the definition gives it
means : (c : goal.After-phase_sends-commands) → Means (queue_depth c.args.script.now.form c.args.script.now.config.depth) (length (configuration_lines c.args.script.now.form c.args.script.now.config) + 1) c.args.script.now.phases c.in_ok-planned.planned
means c =
    let line : c.configuration_lines-line.result ≡ length (configuration_lines c.args.script.now.form c.args.script.now.config) = c.configuration_lines-line.ensures.value c.args.script.now.form in
    record { meaning = rw (← c.depth.ensures.value, ← c.queue_depth-depth.ensures, ← line, ← c.as_slice-phases.ensures) c.in_ok-planned.ensures.ok }

pub returns-in_err-planned-clause-fault : goal.returns-in_err-planned-clause-fault
returns-in_err-planned-clause-fault c =
    let script : Script = c.args.script.now in
    let line : c.configuration_lines-line.result ≡ length (configuration_lines script.form script.config) = c.configuration_lines-line.ensures.value script.form in
    let same : planned_phases c.queue_depth-depth.result (c.configuration_lines-line.result + 1) c.as_slice-phases.result.now ≡ plan_of script =
    rw (c.queue_depth-depth.ensures, c.depth.ensures.value, line, c.as_slice-phases.ensures) refl in
    let p = err_from_is_err_and c.from_residual.result c.from_residual.ensures.1 in
    rw (p.1, p.2)
    (subst (λ (r : Result (List Phase) PlanFault). ForFault c.in_err-planned.field-0.0 (λ f. r ≡ Err f)) same c.in_err-planned.ensures.err)

pub phase_sends-commands-requires : goal.phase_sends-commands-requires
phase_sends-commands-requires c = omega (arith, phases-fit c.args.script.now, ap lines_of_phases c.as_slice-phases.ensures)

pub returns-clause-planned : goal.returns-clause-planned
returns-clause-planned c = (means c).meaning

pub returns-clause-commands : goal.returns-clause-commands
returns-clause-commands c =
    c.phase_sends-commands.ensures ∙ ap sends_in_phases c.as_slice-phases.ensures
    ∙ sends-counted (queue_depth c.args.script.now.form c.args.script.now.config.depth) (length (configuration_lines c.args.script.now.form c.args.script.now.config) + 1) c.args.script.now.phases c.in_ok-planned.planned (means c)

pub returns-clause-given : goal.returns-clause-given
returns-clause-given c =
    sends-given (queue_depth c.args.script.now.form c.args.script.now.config.depth) (length (configuration_lines c.args.script.now.form c.args.script.now.config) + 1) c.args.script.now.phases c.in_ok-planned.planned (means c)

pub returns-clause-sends : goal.returns-clause-sends
returns-clause-sends c =
    sends-same (queue_depth c.args.script.now.form c.args.script.now.config.depth) (length (configuration_lines c.args.script.now.form c.args.script.now.config) + 1) c.args.script.now.phases c.in_ok-planned.planned (means c)

pub returns-clause-hosts : goal.returns-clause-hosts
returns-clause-hosts c =
    hosts-same (queue_depth c.args.script.now.form c.args.script.now.config.depth) (length (configuration_lines c.args.script.now.form c.args.script.now.config) + 1) c.args.script.now.phases c.in_ok-planned.planned (means c)

pub returns-clause-queues : goal.returns-clause-queues
returns-clause-queues c =
    keeps-queues (queue_depth c.args.script.now.form c.args.script.now.config.depth) (length (configuration_lines c.args.script.now.form c.args.script.now.config) + 1) c.args.script.now.phases c.in_ok-planned.planned (means c)

pub returns-clause-rules : goal.returns-clause-rules
returns-clause-rules c = λ kept.
    let form = c.args.script.now.form in
    let depth : ℕ = c.args.script.now.config.depth in
    keeps-rules (queues_of form) (queue_depth form depth) depth (length (configuration_lines form c.args.script.now.config) + 1) c.args.script.now.phases c.in_ok-planned.planned (means c)
    (hosts_ascend c.args.script.now kept) (to_queues c.args.script.now kept) (mul-div-le depth (queues_of form))
