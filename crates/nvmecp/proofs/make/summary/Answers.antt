use Rattle.std.proofs.Common.{◌≡◌, Err, subst}
use Rattle.script_cmds.specs.declared.script.Script.{Script}
use Rattle.history_model.specs.Plan.{PlanFault, plan_of}
use Rattle.script_plan.specs.Cause.{ForFault, told}
use Rattle.script_plan.specs.declared.answer.PlanEnd.{PlanEnd}
use Rattle.load_maker.proofs.Planned.{load_planned}
use Rattle.nvmecp.proofs.Printed.{few_commands}
use Rattle.nvmecp.proofs.make.summary.Goals as goal

pub sum_up-requires-clause-limited : goal.sum_up-requires-clause-limited
sum_up-requires-clause-limited c =
    few_commands c.in_ok-script.script c.in-Ok.plan.phases c.in-Ok.plan.commands c.in_ok-script.ensures.kept c.in-Ok.ensures.commands c.in-Ok.ensures.sends

pub unreachable-requires : goal.unreachable-requires
unreachable-requires c =
    let script : Script = c.in_ok-script.script in
    let fault : PlanFault = told c.in-Err-Fault.field-0-0 in
    let breaks : plan_of script ≡ Err fault =
    subst (λ (end : PlanEnd). ForFault end (λ f. plan_of script ≡ Err f)) c.in-Err-Fault.field-0-is c.in-Err-Fault.ensures.fault in
    load_planned c.args.load.seed c.args.load.commands script fault c.in_ok-script.ensures.made.sized c.in_ok-script.ensures.made.read breaks
