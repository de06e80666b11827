-- The machine that executes a program: its state between two instructions, and the state at the start.
use Rattle.std.specs.Prelude.{ℕ, ◌+◌, ◌-◌, ◌*◌, List, [], ◌∷◌, length, replicate, slice_index, slice_set}
use Rattle.cp_base.specs.declared.lists.MemRange.{MemRange}
use Rattle.bpf_model.specs.declared.frames.SavedFrame.{SavedFrame}
use Rattle.bpf_model.specs.Address.{stack_start, stack_len}
use Rattle.bpf_model.specs.Memory.{Memory}

-- the registers R0 to R10, the program counter, the frames that are saved, the latest first, the bytes of
-- the stack, the memory, and the ranges of it that the program may use (RFC 9669, sections 2 and 4.3.2)
pub record Machine : Type 0 where
  pub registers : List ℕ
  pub counter : ℕ
  pub frames : List SavedFrame
  pub stack : List ℕ
  pub memory : Memory
  pub ranges : List MemRange

-- how many bytes of the stack a frame has; this project's own
abbrev pub frame_len : ℕ
frame_len = 512

-- the greatest number of a frame, where the first has the number 0; this project's own
abbrev pub deepest_frame : ℕ
deepest_frame = 7

-- R10 in the frame of this number: the end of its part of the stack
abbrev pub frame_pointer : ℕ → ℕ
frame_pointer frame = stack_start + stack_len - frame_len * frame

-- the machine at the start: two parameters in R1 and R2, the number of ranges in R3, and the frame pointer;
-- this project's own
abbrev pub entry_machine : List MemRange → Memory → ℕ → ℕ → Machine
entry_machine ranges memory p1 p2 = record {
  registers = 0 ∷ p1 ∷ p2 ∷ length ranges ∷ 0 ∷ 0 ∷ 0 ∷ 0 ∷ 0 ∷ 0 ∷ frame_pointer 0 ∷ [];
  counter = 0;
  frames = [];
  stack = replicate stack_len 0;
  memory = memory;
  ranges = ranges;
}

-- what a register holds
abbrev pub register : Machine → ℕ → ℕ
register m n = slice_index m.registers n

-- the machine with another value in a register
abbrev pub with_register : Machine → ℕ → ℕ → Machine
with_register m n value = record m { registers = slice_set m.registers n value }
