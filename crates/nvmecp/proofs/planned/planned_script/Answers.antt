use Rattle.std.proofs.Common.{◌≡◌, ℕ, List, Err, ap, subst}
use Rattle.script_cmds.specs.Ends.{Tells}
use Rattle.script_cmds.specs.Fault.{first_fault}
use Rattle.script_cmds.specs.declared.fault.ParseEnd.{ParseEnd}
use Rattle.script_cmds.specs.declared.fault.ScriptFault.{ScriptFault}
use Rattle.history_model.specs.Plan.{PlanFault, plan_of}
use Rattle.script_plan.specs.Cause.{ForFault, told}
use Rattle.script_plan.specs.declared.answer.PlanEnd.{PlanEnd}
use Rattle.nvmecp.specs.Refusal.{refusal_line}
use Rattle.nvmecp.specs.Step.{Faulty, TellsScript, Unplanned}
use Rattle.nvmecp.proofs.Endings.{refused}
use Rattle.nvmecp.proofs.Printed.{few_commands}
use Rattle.nvmecp.proofs.planned.planned_script.Goals as goal

pub returns-in-Err-Fault-clause-ends : goal.returns-in-Err-Fault-clause-ends
returns-in-Err-Fault-clause-ends g c =
    let input = c.args.input.now.items in
    let fault : ScriptFault = c.in-Err-Fault.fault in
    refused (λ (answer : List ℕ). ⊥) (TellsScript input) (refusal_line fault.line c.cause_name.result.now) g.K.Sink.held g.K.Sink.faults c.args.sink.now c.refuse_line.new.sink c.refuse_line.result
    (Faulty fault (subst (λ (end : ParseEnd). Tells end (first_fault input)) c.in-Err-Fault.field-0-is c.in-Err-Fault.ensures.fault) (ap (refusal_line fault.line) c.cause_name.ensures))
    c.refuse_line.ensures

pub returns-in-Err-Fault-plan-clause-ends : goal.returns-in-Err-Fault-plan-clause-ends
returns-in-Err-Fault-plan-clause-ends g c =
    let input = c.args.input.now.items in
    let fault : PlanFault = told c.in-Err-Fault-plan.fault in
    refused (λ (answer : List ℕ). ⊥) (TellsScript input) (refusal_line fault.line c.breach_name.result.now) g.K.Sink.held g.K.Sink.faults c.args.sink.now
    c.refuse_line-in-Err-Fault-plan.new.sink c.refuse_line-in-Err-Fault-plan.result
    (Unplanned c.in-Ok.script fault c.in-Ok.ensures.accepted (record { sized = c.in-Ok.ensures.sized; queues = c.in-Ok.ensures.queues; read = c.in-Ok.ensures.text })
    (subst (λ (end : PlanEnd). ForFault end (λ f. plan_of c.in-Ok.script ≡ Err f)) c.in-Err-Fault-plan.field-0-is c.in-Err-Fault-plan.ensures.fault)
    (ap (refusal_line fault.line) c.breach_name.ensures))
    c.refuse_line-in-Err-Fault-plan.ensures

pub returns-in-Ok-plan-clause-planned : goal.returns-in-Ok-plan-clause-planned
returns-in-Ok-plan-clause-planned g c = record {
  kept = c.in-Ok.ensures.order_and_limits;
  sized = c.in-Ok.ensures.sized;
  planned = c.in-Ok-plan.ensures.planned;
  given = c.in-Ok-plan.ensures.given;
  sends = c.in-Ok-plan.ensures.sends;
  commands = c.in-Ok-plan.ensures.commands;
  limited = few_commands c.in-Ok.script c.in-Ok-plan.plan.phases c.in-Ok-plan.plan.commands c.in-Ok.ensures.order_and_limits c.in-Ok-plan.ensures.commands c.in-Ok-plan.ensures.sends;
  rules = c.in-Ok-plan.ensures.rules c.in-Ok.ensures.order_and_limits;
}

pub returns-in-Ok-plan-clause-text : goal.returns-in-Ok-plan-clause-text
returns-in-Ok-plan-clause-text g c = record { sized = c.in-Ok.ensures.sized; queues = c.in-Ok.ensures.queues; read = c.in-Ok.ensures.text }
