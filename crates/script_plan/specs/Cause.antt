-- The causes and faults of the code, as the definition of plans names them. This project's own.
use Rattle.history_model.specs.Plan as model
use Rattle.history_model.specs.Plan.{Breach}
use Rattle.script_plan.specs.declared.answer.PlanCause.{PlanCause}
use Rattle.script_plan.specs.declared.answer.PlanCause.TheVariants as cause
use Rattle.script_plan.specs.declared.answer.PlanEnd.{PlanEnd}
use Rattle.script_plan.specs.declared.answer.PlanEnd.TheVariants as ended
use Rattle.script_plan.specs.declared.answer.PlanFault.{PlanFault}

-- the rule that a cause names
abbrev pub breach_of : PlanCause → Breach
breach_of cause.QueueFull = model.QueueFull
breach_of cause.CidBusy = model.CidBusy
breach_of cause.NotOutstanding = model.NotOutstanding
breach_of cause.NoHosts = model.NoHosts

-- a fault as the definition has it
abbrev pub told : PlanFault → model.PlanFault
told fault = record { line = fault.line; breach = breach_of fault.cause }

-- a fact of the fault, where the end is one
abbrev pub ForFault : PlanEnd → (model.PlanFault → Type 0) → Type 0
ForFault (ended.Fault fault) P = P (told fault)
ForFault ended.NoMemory P = Unit {0}
