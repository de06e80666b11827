use Rattle.std.proofs.Common.{◌≡◌, List, Err, None, ℕ, ap, subst}
use Rattle.script_cmds.specs.Ends.{Tells}
use Rattle.script_cmds.specs.Fault.{first_fault}
use Rattle.script_cmds.specs.declared.fault.ParseEnd.{ParseEnd}
use Rattle.script_cmds.specs.declared.fault.ScriptFault.{ScriptFault}
use Rattle.script_cmds.specs.declared.script.Script.{Script}
use Rattle.history_model.specs.Plan.{PlanFault, plan_of}
use Rattle.script_plan.specs.Cause.{ForFault, told}
use Rattle.script_plan.specs.declared.answer.PlanEnd.{PlanEnd}
use Rattle.script_upgrade.specs.Upgraded.{upgraded}
use Rattle.nvmecp.specs.Refusal.{refusal_line}
use Rattle.nvmecp.specs.Step.{Faulty, IsTextOf, TellsScript, Unplanned}
use Rattle.nvmecp.specs.Upgrade.{IsUpgrade}
use Rattle.nvmecp.proofs.Endings.{answered, refused}
use Rattle.nvmecp.proofs.Upgrading.{is_upgrade}
use Rattle.nvmecp.proofs.upgrade.answer.Goals as goal

pub returns-in-Err-Fault-clause-ends : goal.returns-in-Err-Fault-clause-ends
returns-in-Err-Fault-clause-ends g c =
    let input = c.args.input.now.items in
    let fault : ScriptFault = c.in-Err-Fault.fault in
    refused (IsUpgrade input) (TellsScript input) (refusal_line fault.line c.cause_name.result.now) g.K.Sink.held g.K.Sink.faults c.args.sink.now c.refuse_line.new.sink c.refuse_line.result
    (Faulty fault (subst (λ (end : ParseEnd). Tells end (first_fault input)) c.in-Err-Fault.field-0-is c.in-Err-Fault.ensures.fault) (ap (refusal_line fault.line) c.cause_name.ensures))
    c.refuse_line.ensures

pub returns-in-Err-Fault-plan-clause-ends : goal.returns-in-Err-Fault-plan-clause-ends
returns-in-Err-Fault-plan-clause-ends g c =
    let input = c.args.input.now.items in
    let fault : PlanFault = told c.in-Err-Fault-plan.fault in
    refused (IsUpgrade input) (TellsScript input) (refusal_line fault.line c.breach_name.result.now) g.K.Sink.held g.K.Sink.faults c.args.sink.now
    c.refuse_line-in-Err-Fault-plan.new.sink c.refuse_line-in-Err-Fault-plan.result
    (Unplanned c.in-Ok.script fault c.in-Ok.ensures.accepted (record { sized = c.in-Ok.ensures.sized; queues = c.in-Ok.ensures.queues; read = c.in-Ok.ensures.text })
    (subst (λ (end : PlanEnd). ForFault end (λ f. plan_of c.in-Ok.script ≡ Err f)) c.in-Err-Fault-plan.field-0-is c.in-Err-Fault-plan.ensures.fault)
    (ap (refusal_line fault.line) c.breach_name.ensures))
    c.refuse_line-in-Err-Fault-plan.ensures

pub returns-in-Ok-plan-clause-ends : goal.returns-in-Ok-plan-clause-ends
returns-in-Ok-plan-clause-ends g c =
    let input = c.args.input.now.items in
    let script : Script = c.in-Ok.script in
    answered (λ text. IsTextOf (upgraded script) text × (first_fault text ≡ None)) (IsUpgrade input) (TellsScript input) g.K.Sink.held g.K.Sink.faults c.args.sink.now
    c.write_upgraded.new.sink c.write_upgraded.result
    (λ text due. is_upgrade input text script _ c.in-Ok.ensures.accepted (record { sized = c.in-Ok.ensures.sized; queues = c.in-Ok.ensures.queues; read = c.in-Ok.ensures.text })
    c.in-Ok-plan.ensures.planned due.0 due.1 c.write_upgraded.ensures.plan)
    c.write_upgraded.ensures.ends
