-- The outcome of a run: how it ends, and the memory that it has reached. This project's own.
use Rattle.std.specs.Prelude.{ℕ, zero, suc, ◌*◌, ◌^◌, ◌<◌, ◌≤◌, List}
use Rattle.cp_base.specs.declared.lists.MemRange.{MemRange}
use Rattle.bpf_isa.specs.declared.end.End.{End}
use Rattle.bpf_isa.specs.declared.end.End.TheVariants.{Exit, BadAccess, BadJump, CallDepth, BudgetSpent}
use Rattle.bpf_model.specs.Machine.{Machine, entry_machine}
use Rattle.bpf_model.specs.Memory.{Memory}
use Rattle.bpf_model.specs.Step.{Program, Step, Continues, Stops, step}

-- how a run ends, and the memory then
pub record RunOutcome : Type 0 where
  pub ending : End
  pub memory : Memory

-- the outcome by the first step, and what comes of the machine that goes on
abbrev pub outcome_after : (Machine → RunOutcome) → Step → RunOutcome
outcome_after go_on (Continues m) = go_on m
outcome_after go_on (Stops ending memory) = record { ending = ending; memory = memory }

-- the outcome of at most so many steps from a machine: the end of the one that ends the execution, and
-- BudgetSpent where none does
abbrev pub outcome_from : Program → ℕ → Machine → RunOutcome
outcome_from program zero m = record { ending = BudgetSpent; memory = m.memory }
outcome_from program (suc steps) m = outcome_after (λ m'. outcome_from program steps m') (step program m)

-- the outcome of a program on ranges of a memory, with two parameters and a budget of steps
abbrev pub outcome : Program → List MemRange → Memory → ℕ → ℕ → ℕ → RunOutcome
outcome program ranges memory p1 p2 budget = outcome_from program budget (entry_machine ranges memory p1 p2)

-- that what an end tells has its size, for code of so many bytes: an exit a number of 64 bits, a fault a place of the code
abbrev pub EndFits : ℕ → End → Type 0
EndFits len (Exit value) = value < 2 ^ 64
EndFits len (BadAccess place) = 8 * place ≤ len
EndFits len (BadJump place) = 8 * place ≤ len
EndFits len (CallDepth place) = 8 * place ≤ len
EndFits len BudgetSpent = Unit {0}
