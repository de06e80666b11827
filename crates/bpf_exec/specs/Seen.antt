-- The machine that the values of the code stand for. This project's own.
use Rattle.std.specs.Prelude.{◌≡◌, ℕ, suc, pos, Bool, true, false, List, [], ◌∷◌, Result, Ok, Err, length, map, drop, slice_index, slice_index_or}
use Rattle.cp_base.specs.declared.lists.Access.{Access}
use Rattle.cp_base.specs.declared.lists.Access.TheVariants.{ReadOnly, ReadWrite}
use Rattle.cp_base.specs.declared.lists.MemRange.{MemRange}
use Rattle.bpf_isa.specs.declared.end.End.{End}
use Rattle.bpf_model.specs.Machine.{Machine}
use Rattle.bpf_model.specs.Memory.{Memory}
use Rattle.bpf_model.specs.Step.{Effect, Goes, Ends, Step, Continues, Stops, jump, next}
use Rattle.confined_view.specs.Touched.{Touched}
use Rattle.bpf_exec.specs.declared.processor.Next.{Next}
use Rattle.bpf_exec.specs.declared.processor.Next.TheVariants.{Behind, By, At, Ended}
use Rattle.bpf_exec.specs.declared.processor.Processor.{Processor}

-- the access of a range whose window is writable or not
abbrev pub access_of : Bool → Access
access_of true = ReadWrite
access_of false = ReadOnly

-- windows as ranges that are whole namespaces, which are counted from an index on, where a list says of each index whether
-- its window is writable
abbrev pub ranges_from : ℕ → List Bool → List (List ℕ) → List MemRange
ranges_from index writable [] = []
ranges_from index writable (window ∷ windows) =
    record { ns = index; at = 0; len = length window; access = access_of (slice_index_or writable index false) }
    ∷ ranges_from (suc index) writable windows

-- windows as ranges: each is a namespace of its index
abbrev pub ranges_of : Touched → List MemRange
ranges_of t = ranges_from 0 t.writable t.windows

-- windows as a memory: each is a namespace of its index
abbrev pub window_memory : List (List ℕ) → Memory
window_memory windows ns offset = slice_index (slice_index_or windows ns []) offset

-- the machine of a processor and of what it may touch
abbrev pub machine_of : Processor → Touched → Machine
machine_of p t = record {
  registers = p.registers;
  counter = p.place;
  frames = drop p.free p.frames;
  stack = t.stack;
  memory = window_memory t.windows;
  ranges = ranges_of t;
}

-- the effect that an answer of the code stands for
abbrev pub effect_seen : Next → Processor → Touched → Effect
effect_seen Behind p t = next (machine_of p t)
effect_seen (By distance) p t = jump (machine_of p t) distance
effect_seen (At place) p t = Goes (machine_of p t) (pos place)
effect_seen (Ended ending) p t = Ends ending

-- the step that an answer of the code stands for: the next instruction or the end
abbrev pub step_seen : {A : Type 0} → Result A End → Processor → Touched → Step
step_seen (Ok next) p t = Continues (machine_of p t)
step_seen (Err ending) p t = Stops ending (window_memory t.windows)

-- an execution that ends leaves what it may touch as it was
abbrev pub LeavesAtEnd : Next → Touched → Touched → Type 0
LeavesAtEnd Behind old new = Unit {0}
LeavesAtEnd (By distance) old new = Unit {0}
LeavesAtEnd (At place) old new = Unit {0}
LeavesAtEnd (Ended ending) old new = new ≡ old

-- the windows are as long as they were, and the same ones are writable
abbrev pub KeepsWindows : Touched → Touched → Type 0
KeepsWindows old new = (map length new.windows ≡ map length old.windows) × (new.writable ≡ old.writable)
