-- What an execution does to the device. Source: the NVMe Computational Programs Command Set 1.0 in
-- outline; what a host is told is this project's own.
use Rattle.std.specs.Prelude.{ℕ, ◌+◌, List, [], ◌∷◌, Option, Some, None, length, slice_index, unwrap_or}
use Rattle.cp_base.specs.Answer.{Answer}
use Rattle.cp_base.specs.Contents.{Contents, bytes_of}
use Rattle.cp_base.specs.declared.lists.MemRange.{MemRange}
use Rattle.cp_base.specs.declared.region.SpaceId.TheVariants as space
use Rattle.cp_base.specs.declared.replies.Status.{Status}
use Rattle.cp_base.specs.declared.replies.Status.TheVariants as status
use Rattle.bpf_isa.specs.declared.end.End.{End}
use Rattle.bpf_isa.specs.declared.end.End.TheVariants as end
use Rattle.bpf_model.specs.Memory.{Memory, bytes_from}
use Rattle.bpf_model.specs.Outcome.{outcome, RunOutcome}
use Rattle.bpf_model.specs.Walk.{instruction_at}
use Rattle.device_model.specs.Builtin.{Builtin, builtin_at, builtin_outcome}
use Rattle.device_model.specs.Checks.{code_of}
use Rattle.device_model.specs.State.{State, Slot, slot_at}

-- the bytes of the memory namespaces as a program sees them
abbrev pub memory_of : Contents → Memory
memory_of contents ns offset = slice_index (bytes_of contents (space.Mem ns)) offset

-- the bytes of namespaces, of which the first has this number, as a memory has them
abbrev pub remembered : Memory → ℕ → List (List ℕ) → List (List ℕ)
remembered memory ns [] = []
remembered memory ns (bytes ∷ more) = bytes_from memory ns 0 (length bytes) ∷ remembered memory (ns + 1) more

-- the contents with the bytes of the memory namespaces as a memory has them
abbrev pub with_memory : Contents → Memory → Contents
with_memory contents memory = record contents { mem = remembered memory 1 contents.mem }

-- what an execution runs: the code that a host has loaded into a slot, or a program of the device
pub data Executable : Type 0 where
  Loaded : (code : List ℕ) → Executable
  OfDevice : (program : Builtin) → Executable

abbrev pub loaded_or : Option Slot → Option Builtin → Executable
loaded_or slot (Some program) = OfDevice program
loaded_or slot None = Loaded (code_of slot)

-- what an execution of a slot runs
abbrev pub executable_in : State → ℕ → Executable
executable_in s slot = loaded_or (slot_at s slot) (builtin_at slot)

-- the outcome of what runs on ranges of a memory, with two parameters and a budget
abbrev pub outcome_on : Executable → List MemRange → Memory → ℕ → ℕ → ℕ → RunOutcome
outcome_on (Loaded code) ranges memory p1 p2 budget = outcome (instruction_at code) ranges memory p1 p2 budget
outcome_on (OfDevice program) ranges memory p1 p2 budget = builtin_outcome program ranges memory p1 p2 budget

-- an answer of a status and a number
abbrev pub tells : Status → ℕ → Answer
tells told value = record { status = told; result = value; bytes = [] }

-- what a host is told of the end of an execution with this budget
abbrev pub told_of : ℕ → End → Answer
told_of budget (end.Exit value) = tells status.Ok value
told_of budget (end.BadAccess place) = tells status.BadAccess place
told_of budget (end.BadJump place) = tells status.BadJump place
told_of budget (end.CallDepth place) = tells status.CallDepth place
told_of budget end.BudgetSpent = tells status.BudgetSpent budget

-- an answer, and the state after it
pub record Outcome : Type 0 where
  pub answer : Answer
  pub next : State

-- the program of a slot is executed on the ranges of a set: what it stored stays, whatever its end
abbrev pub executed : State → ℕ → Option (List MemRange) → ℕ → ℕ → ℕ → Outcome
executed s slot ranges p1 p2 budget =
    let run : RunOutcome = outcome_on (executable_in s slot) (unwrap_or ranges []) (memory_of s.contents) p1 p2 budget in
    record { answer = told_of budget run.ending; next = record s { contents = with_memory s.contents run.memory } }
