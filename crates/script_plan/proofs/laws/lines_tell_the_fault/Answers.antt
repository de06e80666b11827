use Rattle.script_plan.proofs.FaultLines.{one_fault, plan_or_fault}
use Rattle.script_plan.proofs.laws.lines_tell_the_fault.Goals as goal

pub returns-clause-one_fault : goal.returns-clause-one_fault
returns-clause-one_fault c = one_fault

pub returns-clause-plan_or_fault : goal.returns-clause-plan_or_fault
returns-clause-plan_or_fault c = plan_or_fault
