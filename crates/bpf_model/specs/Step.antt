-- What one instruction does (RFC 9669, sections 4 and 5). The faults, the helper and the frames are this
-- project's own.
use Rattle.std.specs.Prelude.{ℕ, ◌+◌, ◌-◌, ◌*◌, ◌%◌, ◌^◌, nat_lt, Bool, true, false, ℤ, pos, negsuc, ◌+ℤ◌, if◌then◌else◌, List, [], ◌∷◌, ◌++◌, length, take, drop, slice_get, Option, Some, None, option_map, option_and_then, unwrap_or}
use Rattle.std.specs.Option.{option_map_or}
use Rattle.byteorder.specs.Endian.{little_number, little_bytes}
use Rattle.cp_base.specs.Pieces.{piece, patched}
use Rattle.bpf_isa.specs.Size.{byte_count}
use Rattle.bpf_isa.specs.declared.end.End.{End}
use Rattle.bpf_isa.specs.declared.end.End.TheVariants.{Exit, BadAccess, BadJump, CallDepth}
use Rattle.bpf_isa.specs.declared.insn.Insn.{Insn}
use Rattle.bpf_isa.specs.declared.insn.Insn.TheVariants as insn
use Rattle.bpf_isa.specs.declared.operand.Size.{Size}
use Rattle.bpf_isa.specs.declared.operation.AluOp.{AluOp}
use Rattle.bpf_isa.specs.declared.operation.AluOp.TheVariants as alu
use Rattle.bpf_isa.specs.declared.operation.AtomicOp.{AtomicOp}
use Rattle.bpf_isa.specs.declared.operation.AtomicOp.TheVariants as atomic
use Rattle.bpf_isa.specs.declared.operation.JumpOp.{JumpOp}
use Rattle.bpf_isa.specs.declared.operation.SwapOp.TheVariants as swap
use Rattle.bpf_model.specs.declared.frames.SavedFrame.{SavedFrame}
use Rattle.bpf_model.specs.Address.{Location, InRange, InStack, Nowhere, resolve, resolve_to_write}
use Rattle.bpf_model.specs.Machine.{Machine, register, with_register, frame_pointer, deepest_frame}
use Rattle.bpf_model.specs.Memory.{Memory, bytes_from, overwritten, range_at, lengths_of, read_write_of}
use Rattle.bpf_model.specs.Value.{value_of, compares, swapped, stored_by, sign_extended, unsigned}

-- what an instruction does before the next place is looked at: it goes on with a machine at a target, or
-- ends the execution and changes nothing
pub data Effect : Type 0 where
  Goes : (machine : Machine) (target : ℤ) → Effect
  Ends : (ending : End) → Effect

-- ---- going on

-- an instruction of one unit goes on at the place behind it
abbrev pub next : Machine → Effect
next m = Goes m (pos (m.counter + 1))

-- a jump goes on so many units further than the place behind it (RFC 9669, section 4.3)
abbrev pub jump : Machine → ℤ → Effect
jump m distance = Goes m (pos (m.counter + 1) +ℤ distance)

-- how many bits an operation reads
abbrev pub width_in_bits : Bool → ℕ
width_in_bits wide = if wide then 64 else 32

-- arithmetic puts the value of an operation on the destination and an operand into the destination (RFC 9669,
-- section 4.1)
abbrev pub arithmetic : Machine → AluOp → Bool → ℕ → ℕ → Effect
arithmetic m op wide dst operand =
    next (with_register m dst (value_of op (width_in_bits wide) (register m dst) operand))

-- a conditional jump is taken where the comparison of the destination and an operand holds (RFC 9669, section 4.3)
abbrev pub branch : Machine → JumpOp → Bool → ℕ → ℕ → ℤ → Effect
branch m op wide dst operand offset =
    if compares op (width_in_bits wide) (register m dst) operand then jump m offset else next m

-- ---- memory

-- the address of an access: a register and an offset, modulo 2 ^ 64
abbrev pub address : Machine → ℕ → ℤ → ℕ
address m base offset = (register m base + unsigned 64 offset) % 2 ^ 64

-- so many bytes at a location; none where it is nowhere
abbrev pub bytes_at : Machine → Location → ℕ → Option (List ℕ)
bytes_at m (InRange index offset) n =
    let r = range_at m.ranges index in Some (bytes_from m.memory r.ns (r.at + offset) n)
bytes_at m (InStack offset) n = Some (piece m.stack offset n)
bytes_at m Nowhere n = None

-- the machine with these bytes at a location; none where it is nowhere
abbrev pub patched_at : Machine → Location → List ℕ → Option Machine
patched_at m (InRange index offset) bytes =
    let r = range_at m.ranges index in Some (record m { memory = overwritten m.memory r.ns (r.at + offset) bytes })
patched_at m (InStack offset) bytes = Some (record m { stack = patched m.stack offset bytes })
patched_at m Nowhere bytes = None

-- the number at an address, in little-endian order; none where the access has no location for reading
abbrev pub loaded : Machine → ℕ → Size → Option ℕ
loaded m at size =
    let n = byte_count size in
    option_map (λ bytes. little_number n bytes) (bytes_at m (resolve (lengths_of m.ranges) at n) n)

-- the machine with the low bytes of a value at an address; none where the access has no location for writing
abbrev pub stored : Machine → ℕ → Size → ℕ → Option Machine
stored m at size value =
    let n = byte_count size in
    patched_at m (resolve_to_write (read_write_of m.ranges) (lengths_of m.ranges) at n) (little_bytes n value)

-- the effect of an access that has a location, and a fault where it has none
abbrev pub accessed : Machine → Option Effect → Effect
accessed m effect = unwrap_or effect (Ends (BadAccess m.counter))

-- a load puts a function of the number that is read into the destination (RFC 9669, sections 5.1 and 5.2)
abbrev pub load_number : Machine → ℕ → Size → ℕ → (ℕ → ℕ) → Effect
load_number m at size dst f = accessed m (option_map (λ n. next (with_register m dst (f n))) (loaded m at size))

-- a store puts the low bytes of a value into memory (RFC 9669, section 5.1)
abbrev pub store_number : Machine → ℕ → Size → ℕ → Effect
store_number m at size value = accessed m (option_map next (stored m at size value))

-- an atomic operation reads the old value, stores the new one and then may put the old one into a register (RFC 9669,
-- section 5.3). So it needs a location for writing, also where the new value is the old one
abbrev pub atomic_access : Machine → AtomicOp → ℕ → Size → ℕ → (ℕ → Machine → Machine) → Effect
atomic_access m op at size source fetch =
    accessed m (option_and_then (λ old. option_map (λ m'. next (fetch old m')) (stored m at size (stored_by op size old source (register m 0)))) (loaded m at size))

-- ---- calls

-- helper 1: the length of the range of this index, or the greatest number where there is none
abbrev pub length_of_range : Machine → ℕ → ℕ
length_of_range m index = unwrap_or (slice_get (lengths_of m.ranges) index) (2 ^ 64 - 1)

-- a local call saves R6 to R10 and the place behind it, and goes on in the next frame (RFC 9669, section 4.3.2)
abbrev pub call : Machine → ℤ → Effect
call m distance =
    if nat_lt (length m.frames) deepest_frame then jump (record (with_register m 10 (frame_pointer (length m.frames + 1))) {
      frames = record { registers = drop 6 m.registers; return_place = m.counter + 1 } ∷ m.frames;
    }) distance else Ends (CallDepth m.counter)

-- an exit gives R6 to R10 of the latest saved frame back and goes on at its place; in the first frame it ends the
-- execution with R0
abbrev pub return_to : Machine → List SavedFrame → Effect
return_to m [] = Ends (Exit (register m 0))
return_to m (frame ∷ frames) =
    Goes (record m { registers = take 6 m.registers ++ frame.registers; frames = frames }) (pos frame.return_place)

-- ---- all instructions

-- what an instruction does
abbrev pub effect : Insn → Machine → Effect
effect (insn.AluImm op wide dst imm) m = arithmetic m op wide dst (unsigned 64 imm)
effect (insn.AluReg op wide dst src) m = arithmetic m op wide dst (register m src)
effect (insn.DivImm op wide dst imm) m = arithmetic m op wide dst (unsigned 64 imm)
effect (insn.DivReg op wide dst src) m = arithmetic m op wide dst (register m src)
effect (insn.Neg wide dst) m = arithmetic m alu.Neg wide dst 0
effect (insn.MovImm wide dst imm) m = arithmetic m alu.Mov wide dst (unsigned 64 imm)
effect (insn.MovReg wide dst src) m = arithmetic m alu.Mov wide dst (register m src)
effect (insn.Movsx32 op dst src) m = arithmetic m op false dst (register m src)
effect (insn.Movsx64 op dst src) m = arithmetic m op true dst (register m src)
effect (insn.ToLittle bits dst) m = next (with_register m dst (swapped swap.ToLittle bits (register m dst)))
effect (insn.ToBig bits dst) m = next (with_register m dst (swapped swap.ToBig bits (register m dst)))
effect (insn.Swap bits dst) m = next (with_register m dst (swapped swap.Swap bits (register m dst)))
effect (insn.Jump offset) m = jump m offset
effect (insn.JumpLong imm) m = jump m imm
effect (insn.BranchImm op wide dst offset imm) m = branch m op wide dst (unsigned 64 imm) offset
effect (insn.BranchReg op wide dst src offset) m = branch m op wide dst (register m src) offset
effect insn.CallHelper m = next (with_register m 0 (length_of_range m (register m 1)))
effect (insn.CallLocal imm) m = call m imm
effect insn.Exit m = return_to m m.frames
effect (insn.LoadImm dst value) m = Goes (with_register m dst value) (pos (m.counter + 2))
effect (insn.Load size dst src offset) m = load_number m (address m src offset) size dst (λ n. n)
effect (insn.LoadSigned size dst src offset) m =
    load_number m (address m src offset) size dst (λ n. sign_extended (8 * byte_count size) 64 n)
effect (insn.StoreImm size dst offset imm) m = store_number m (address m dst offset) size (unsigned 64 imm)
effect (insn.StoreReg size dst src offset) m = store_number m (address m dst offset) size (register m src)
effect (insn.Atomic op size dst src offset) m =
    atomic_access m op (address m dst offset) size (register m src) (λ old m'. m')
effect (insn.AtomicFetch op size dst src offset) m =
    atomic_access m op (address m dst offset) size (register m src) (λ old m'. with_register m' src old)
effect (insn.CompareExchange size dst src offset) m =
    atomic_access m atomic.Cmpxchg (address m dst offset) size (register m src) (λ old m'. with_register m' 0 old)

-- ---- the step

-- a program: the instruction at each place where one starts
abbrev pub Program : Type 0
Program = ℕ → Option Insn

-- what is left after an instruction: a machine that goes on, or the end and the memory reached
pub data Step : Type 0 where
  Continues : (machine : Machine) → Step
  Stops : (ending : End) (memory : Memory) → Step

-- the place of a target where an instruction starts
abbrev pub start_at : Program → ℤ → Option ℕ
start_at program (pos place) = option_map (λ i. place) (program place)
start_at program (negsuc k) = None

-- the step that an instruction's effect makes: the next place must be a start, else the execution ends, and
-- what the instruction did stays
abbrev pub settled : Program → Machine → Effect → Step
settled program m (Goes m' target) =
    option_map_or (λ place. Continues (record m' { counter = place })) (start_at program target) (Stops (BadJump m.counter) m'.memory)
settled program m (Ends ending) = Stops ending m.memory

-- one step: the instruction at the program counter is executed
abbrev pub step : Program → Machine → Step
step program m =
    option_map_or (λ i. settled program m (effect i m)) (program m.counter) (Stops (BadJump m.counter) m.memory)
