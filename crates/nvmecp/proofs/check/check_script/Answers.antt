use Rattle.std.proofs.Common.{◌≡◌, Err, ap, subst}
use Rattle.script_cmds.specs.Ends.{Tells}
use Rattle.script_cmds.specs.Fault.{first_fault}
use Rattle.script_cmds.specs.declared.fault.ParseEnd.{ParseEnd}
use Rattle.script_cmds.specs.declared.fault.ScriptFault.{ScriptFault}
use Rattle.history_model.specs.Plan.{PlanFault, plan_of}
use Rattle.script_plan.specs.Cause.{ForFault, told}
use Rattle.script_plan.specs.declared.answer.PlanEnd.{PlanEnd}
use Rattle.nvmecp.specs.Check.{TellsBad, TellsLegal}
use Rattle.nvmecp.specs.Refusal.{refusal_line}
use Rattle.nvmecp.specs.Step.{Faulty, TellsScript, Unplanned}
use Rattle.nvmecp.proofs.Endings.{refused_on}
use Rattle.nvmecp.proofs.Judged.{IsReadAndPlanned, illegal_ends, legal_ends, tells_ends}
use Rattle.nvmecp.proofs.check.check_script.Goals as goal

pub returns-in-Err-Fault-clause-ends : goal.returns-in-Err-Fault-clause-ends
returns-in-Err-Fault-clause-ends g c =
    let text = c.args.text.now.items in
    let fault : ScriptFault = c.in-Err-Fault.fault in
    refused_on (λ line. TellsLegal line text c.args.history.now) (TellsScript text) (λ line. TellsBad line text c.args.history.now) (refusal_line fault.line c.cause_name.result.now)
    g.K.Sink.held g.K.Sink.faults c.args.sink.now c.refuse_line.new.sink c.refuse_line.result
    (Faulty fault (subst (λ (end : ParseEnd). Tells end (first_fault text)) c.in-Err-Fault.field-0-is c.in-Err-Fault.ensures.fault) (ap (refusal_line fault.line) c.cause_name.ensures))
    c.refuse_line.ensures

pub returns-in-Err-Fault-plan-clause-ends : goal.returns-in-Err-Fault-plan-clause-ends
returns-in-Err-Fault-plan-clause-ends g c =
    let text = c.args.text.now.items in
    let fault : PlanFault = told c.in-Err-Fault-plan.fault in
    refused_on (λ line. TellsLegal line text c.args.history.now) (TellsScript text) (λ line. TellsBad line text c.args.history.now) (refusal_line fault.line c.breach_name.result.now)
    g.K.Sink.held g.K.Sink.faults c.args.sink.now c.refuse_line-in-Err-Fault-plan.new.sink c.refuse_line-in-Err-Fault-plan.result
    (Unplanned c.in-Ok.script fault c.in-Ok.ensures.accepted (record { sized = c.in-Ok.ensures.sized; queues = c.in-Ok.ensures.queues; read = c.in-Ok.ensures.text })
    (subst (λ (end : PlanEnd). ForFault end (λ f. plan_of c.in-Ok.script ≡ Err f)) c.in-Err-Fault-plan.field-0-is c.in-Err-Fault-plan.ensures.fault)
    (ap (refusal_line fault.line) c.breach_name.ensures))
    c.refuse_line-in-Err-Fault-plan.ensures

pub returns-in-Ok-plan-clause-ends : goal.returns-in-Ok-plan-clause-ends
returns-in-Ok-plan-clause-ends g c =
    let text = c.args.text.now.items in
    let r : IsReadAndPlanned text c.in-Ok.script c.in-Ok-plan.plan.phases = record {
      faultless = c.in-Ok.ensures.accepted;
      read = record { sized = c.in-Ok.ensures.sized; queues = c.in-Ok.ensures.queues; read = c.in-Ok.ensures.text };
      planned = c.in-Ok-plan.ensures.planned;
      given = c.in-Ok-plan.ensures.given;
    } in
    tells_ends text c.args.history.now c.in-Ok.script c.in-Ok-plan.plan.phases r g.K.Sink.held g.K.Sink.faults c.args.sink.now c.judge.new.sink c.judge.result c.judge.ensures.ends

pub returns-in-Ok-plan-clause-accepted : goal.returns-in-Ok-plan-clause-accepted
returns-in-Ok-plan-clause-accepted g c =
    let text = c.args.text.now.items in
    let r : IsReadAndPlanned text c.in-Ok.script c.in-Ok-plan.plan.phases = record {
      faultless = c.in-Ok.ensures.accepted;
      read = record { sized = c.in-Ok.ensures.sized; queues = c.in-Ok.ensures.queues; read = c.in-Ok.ensures.text };
      planned = c.in-Ok-plan.ensures.planned;
      given = c.in-Ok-plan.ensures.given;
    } in
    legal_ends text c.args.history.now c.in-Ok.script c.in-Ok-plan.plan.phases r g.K.Sink.held g.K.Sink.faults c.args.sink.now c.judge.new.sink c.judge.result c.judge.ensures.ends

pub returns-in-Ok-plan-clause-belied : goal.returns-in-Ok-plan-clause-belied
returns-in-Ok-plan-clause-belied g c =
    let text = c.args.text.now.items in
    let r : IsReadAndPlanned text c.in-Ok.script c.in-Ok-plan.plan.phases = record {
      faultless = c.in-Ok.ensures.accepted;
      read = record { sized = c.in-Ok.ensures.sized; queues = c.in-Ok.ensures.queues; read = c.in-Ok.ensures.text };
      planned = c.in-Ok-plan.ensures.planned;
      given = c.in-Ok-plan.ensures.given;
    } in
    illegal_ends text c.args.history.now c.in-Ok.script c.in-Ok-plan.plan.phases r g.K.Sink.held g.K.Sink.faults c.args.sink.now c.judge.new.sink c.judge.result c.judge.ensures.ends
