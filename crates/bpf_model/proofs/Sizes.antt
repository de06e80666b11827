-- A machine keeps sizes: registers of 64 bits, bytes on the stack and in memory, and an end that fits.
use Rattle.std.proofs.Common.{◌≡◌, ℕ, zero, suc, ◌<◌, ◌≤◌, ◌*◌, ◌+◌, ◌-◌, ◌^◌, Bool, true, false, ℤ, pos, negsuc, List, [], ◌∷◌, ◌++◌, take, drop, length, Option, Some, None, refl, arith}
use Rattle.std.proofs.lemmas.Bool.{and_parts, ltb-true}
use Rattle.std.proofs.lemmas.List.Elements.{All-nil, All-cons, All-set, All-take, All-drop, All-append, All-replicate}
use Rattle.std.specs.Prelude.{All, nat_lt, if◌then◌else◌, option_map, option_and_then, unwrap_or, slice_get, replicate}
use Rattle.std.specs.Option.{option_map_or}
use Rattle.byteorder.specs.Endian.{little_number, little_bytes}
use Rattle.byteorder.specs.Numbers.{little_from-lt}
use Rattle.cp_base.specs.declared.lists.MemRange.{MemRange}
use Rattle.bpf_isa.specs.Size.{byte_count}
use Rattle.bpf_isa.specs.declared.end.End.TheVariants.{BadJump, CallDepth}
use Rattle.bpf_isa.specs.declared.insn.Insn.{Insn}
use Rattle.bpf_isa.specs.declared.insn.Insn.TheVariants as insn
use Rattle.bpf_isa.specs.declared.operand.Size.{Size}
use Rattle.bpf_isa.specs.declared.operand.Size.TheVariants as size
use Rattle.bpf_isa.specs.declared.operand.Width.{Width}
use Rattle.bpf_isa.specs.declared.operand.Width.TheVariants.{Bits16, Bits32, Bits64}
use Rattle.bpf_isa.specs.declared.operation.AluOp.{AluOp}
use Rattle.bpf_isa.specs.declared.operation.AluOp.TheVariants as alu
use Rattle.bpf_isa.specs.declared.operation.AtomicOp.{AtomicOp}
use Rattle.bpf_isa.specs.declared.operation.AtomicOp.TheVariants as atomic
use Rattle.bpf_isa.specs.declared.operation.SwapOp.{SwapOp}
use Rattle.bpf_isa.specs.declared.operation.SwapOp.TheVariants as swap
use Rattle.bpf_model.specs.declared.frames.SavedFrame.{SavedFrame}
use Rattle.bpf_model.specs.Address.{Location, InRange, InStack, Nowhere, resolve, resolve_to_write, stack_len}
use Rattle.bpf_model.specs.Encoding.{IsAllowed}
use Rattle.bpf_model.specs.Form.{form}
use Rattle.bpf_model.specs.Machine.{Machine, register, with_register, frame_pointer, deepest_frame, entry_machine}
use Rattle.bpf_model.specs.Memory.{Memory, HoldsBytes, range_at, lengths_of, read_write_of}
use Rattle.bpf_model.specs.Outcome.{outcome, outcome_from, outcome_after, EndFits}
use Rattle.bpf_model.specs.Step.{Effect, Goes, Ends, Program, Step, Continues, Stops, next, jump, width_in_bits, address, bytes_at, patched_at, loaded, stored, accessed, load_number, store_number, atomic_access, length_of_range, call, return_to, effect, settled, step}
use Rattle.bpf_model.specs.Value.{value_of, compares, swapped, stored_by, sign_extended, unsigned}
use Rattle.bpf_model.specs.Walk.{reaches, starts_instruction, instruction_at}
use Rattle.bpf_model.proofs.BothWays.{form-encoded}
use Rattle.bpf_model.proofs.Swap.{swap_below}
use Rattle.bpf_model.proofs.Value.{value_below, unsigned_below}
use Rattle.bpf_model.proofs.Writing.{AreSmall, little_bytes-small, item_below, written-bytes, bytes_from-small}

-- numbers of 64 bits
abbrev AreWords : List ℕ → Type 0
AreWords values = All (λ v. v < 2 ^ 64) values

abbrev pub AreFrames : List SavedFrame → Type 0
AreFrames frames = All (λ (frame : SavedFrame). AreWords frame.registers) frames

abbrev pub AreShort : List MemRange → Type 0
AreShort ranges = All (λ (range : MemRange). range.len < 2 ^ 64) ranges

-- a machine of such sizes
pub record Sized (m : Machine) : Type 0 where
  pub registers : AreWords m.registers
  pub frames : AreFrames m.frames
  pub stack : AreSmall m.stack
  pub memory : HoldsBytes m.memory
  pub ranges : AreShort m.ranges

-- an effect of such sizes, on code of so many bytes
abbrev SizedEffect : ℕ → Effect → Type 0
SizedEffect len (Goes m target) = Sized m
SizedEffect len (Ends ending) = EndFits len ending

-- a step of such sizes
abbrev SizedStep : ℕ → Step → Type 0
SizedStep len (Continues m) = Sized m × (8 * m.counter ≤ len)
SizedStep len (Stops ending memory) = EndFits len ending

-- ---- registers

register-sized : (m : Machine) (n : ℕ) → Sized m → register m n < 2 ^ 64
register-sized m n sized = item_below (2 ^ 64) m.registers n (omega arith) sized.registers

set-sized : (m : Machine) (n value : ℕ) → Sized m → value < 2 ^ 64 → Sized (with_register m n value)
set-sized m n value sized fits = record {
  registers = All-set (λ v. v < 2 ^ 64) m.registers n value fits sized.registers;
  frames = sized.frames;
  stack = sized.stack;
  memory = sized.memory;
  ranges = sized.ranges;
}

value-sized : (op : AluOp) (wide : Bool) (a b : ℕ) → value_of op (width_in_bits wide) a b < 2 ^ 64
value-sized op true a b = value_below op 64 a b
value-sized op false a b = let h = value_below op 32 a b in omega arith

swap-sized : (op : SwapOp) (bits : Width) (a : ℕ) → swapped op bits a < 2 ^ 64
swap-sized op Bits16 a = let h = swap_below op Bits16 a in omega arith
swap-sized op Bits32 a = let h = swap_below op Bits32 a in omega arith
swap-sized op Bits64 a = swap_below op Bits64 a

-- ---- memory

number-sized : (s : Size) (bytes : List ℕ) → AreSmall bytes → little_number (byte_count s) bytes < 2 ^ 64
number-sized s bytes small = by_size s (little_from-lt 0 (byte_count s) bytes (λ k. item_below 256 bytes k (omega arith) small))
  where
    by_size : (s : Size) → little_number (byte_count s) bytes < 256 ^ byte_count s → little_number (byte_count s) bytes < 2 ^ 64
    by_size size.B h = omega arith
    by_size size.H h = omega arith
    by_size size.W h = omega arith
    by_size size.D h = omega arith

-- what a location holds is bytes
abbrev GivesBytes : Option (List ℕ) → Type 0
GivesBytes (Some bytes) = AreSmall bytes
GivesBytes None = Unit {0}

bytes-sized : (m : Machine) (l : Location) (n : ℕ) → Sized m → GivesBytes (bytes_at m l n)
bytes-sized m (InRange index offset) n sized = bytes_from-small m.memory (range_at m.ranges index).ns ((range_at m.ranges index).at + offset) n sized.memory
bytes-sized m (InStack offset) n sized = All-take (λ b. b < 256) n (drop offset m.stack) (All-drop (λ b. b < 256) offset m.stack sized.stack)
bytes-sized m Nowhere n sized = tt

abbrev GivesWord : Option ℕ → Type 0
GivesWord (Some n) = n < 2 ^ 64
GivesWord None = Unit {0}

loaded-sized : (m : Machine) (at : ℕ) (size : Size) → Sized m → GivesWord (loaded m at size)
loaded-sized m at size sized =
    by_bytes (bytes_at m (resolve (lengths_of m.ranges) at (byte_count size)) (byte_count size)) (bytes-sized m (resolve (lengths_of m.ranges) at (byte_count size)) (byte_count size) sized)
  where
    by_bytes : (o : Option (List ℕ)) → GivesBytes o → GivesWord (option_map (λ bytes. little_number (byte_count size) bytes) o)
    by_bytes None small = tt
    by_bytes (Some bytes) small = number-sized size bytes small

-- a machine after a store
abbrev GivesSized : Option Machine → Type 0
GivesSized (Some m) = Sized m
GivesSized None = Unit {0}

patched-sized : (m : Machine) (l : Location) (bytes : List ℕ) → Sized m → AreSmall bytes → GivesSized (patched_at m l bytes)
patched-sized m (InRange index offset) bytes sized small = record {
  registers = sized.registers;
  frames = sized.frames;
  stack = sized.stack;
  memory = written-bytes m.memory (range_at m.ranges index).ns ((range_at m.ranges index).at + offset) bytes sized.memory small;
  ranges = sized.ranges;
}
patched-sized m (InStack offset) bytes sized small = record {
  registers = sized.registers;
  frames = sized.frames;
  stack = All-append (λ b. b < 256) (take offset m.stack ++ bytes) (drop (offset + length bytes) m.stack)
      (All-append (λ b. b < 256) (take offset m.stack) bytes (All-take (λ b. b < 256) offset m.stack sized.stack) small)
      (All-drop (λ b. b < 256) (offset + length bytes) m.stack sized.stack);
  memory = sized.memory;
  ranges = sized.ranges;
}
patched-sized m Nowhere bytes sized small = tt

stored-sized : (m : Machine) (at : ℕ) (size : Size) (value : ℕ) → Sized m → GivesSized (stored m at size value)
stored-sized m at size value sized =
    patched-sized m (resolve_to_write (read_write_of m.ranges) (lengths_of m.ranges) at (byte_count size)) (little_bytes (byte_count size) value) sized (little_bytes-small (byte_count size) value)

module _ (len : ℕ) (m : Machine) (sized : Sized m) (early : 8 * m.counter ≤ len) where
  branch-sized : (taken : Bool) (distance : ℤ) → SizedEffect len (if taken then jump m distance else next m)
  branch-sized true distance = sized
  branch-sized false distance = sized

  load-sized : (at : ℕ) (size : Size) (dst : ℕ) (f : ℕ → ℕ) → ((n : ℕ) → n < 2 ^ 64 → f n < 2 ^ 64) → SizedEffect len (load_number m at size dst f)
  load-sized at size dst f keeps = by_number (loaded m at size) (loaded-sized m at size sized)
    where
      by_number : (o : Option ℕ) → GivesWord o → SizedEffect len (accessed m (option_map (λ n. next (with_register m dst (f n))) o))
      by_number None fits = early
      by_number (Some n) fits = set-sized m dst (f n) sized (keeps n fits)

  store-sized : (at : ℕ) (size : Size) (value : ℕ) → SizedEffect len (store_number m at size value)
  store-sized at size value = by_store (stored m at size value) (stored-sized m at size value sized)
    where
      by_store : (o : Option Machine) → GivesSized o → SizedEffect len (accessed m (option_map next o))
      by_store None given = early
      by_store (Some m') given = given

  atomic-sized : (op : AtomicOp) (at : ℕ) (size : Size) (source : ℕ) (fetch : ℕ → Machine → Machine)
      → ((old : ℕ) (m' : Machine) → old < 2 ^ 64 → Sized m' → Sized (fetch old m')) → SizedEffect len (atomic_access m op at size source fetch)
  atomic-sized op at size source fetch keeps = by_number (loaded m at size) (loaded-sized m at size sized)
    where
      by_store : (old : ℕ) → old < 2 ^ 64 → (o : Option Machine) → GivesSized o → SizedEffect len (accessed m (option_map (λ m'. next (fetch old m')) o))
      by_store old fits None given = early
      by_store old fits (Some m') given = keeps old m' fits given

      by_number : (o : Option ℕ) → GivesWord o
          → SizedEffect len (accessed m (option_and_then (λ old. option_map (λ m'. next (fetch old m')) (stored m at size (stored_by op size old source (register m 0)))) o))
      by_number None fits = early
      by_number (Some old) fits =
          let value : ℕ = stored_by op size old source (register m 0) in
          by_store old fits (stored m at size value) (stored-sized m at size value sized)

  helper-sized : length_of_range m (register m 1) < 2 ^ 64
  helper-sized = by_ranges m.ranges (register m 1) sized.ranges
    where
      by_ranges : (ranges : List MemRange) (i : ℕ) → AreShort ranges → unwrap_or (slice_get (lengths_of ranges) i) (2 ^ 64 - 1) < 2 ^ 64
      by_ranges [] zero short = omega arith
      by_ranges [] (suc i) short = omega arith
      by_ranges (range ∷ ranges) zero short = short 0 range (omega arith)
      by_ranges (range ∷ ranges) (suc i) short = by_ranges ranges i (λ k d there. short (suc k) d (omega arith))

  call-sized : (distance : ℤ) → SizedEffect len (call m distance)
  call-sized distance = by_depth (nat_lt (length m.frames) deepest_frame)
    where
      saved : SavedFrame
      saved = record { registers = drop 6 m.registers; return_place = m.counter + 1 }

      called : Machine
      called = record (with_register m 10 (frame_pointer (length m.frames + 1))) { frames = saved ∷ m.frames }

      by_depth : (shallow : Bool) → SizedEffect len (if shallow then jump (record (with_register m 10 (frame_pointer (length m.frames + 1))) {
        frames = record { registers = drop 6 m.registers; return_place = m.counter + 1 } ∷ m.frames;
      }) distance else Ends (CallDepth m.counter))
      by_depth true = record {
        registers = All-set (λ v. v < 2 ^ 64) m.registers 10 (frame_pointer (length m.frames + 1)) (omega arith) sized.registers;
        frames = All-cons (λ (frame : SavedFrame). AreWords frame.registers) saved m.frames (All-drop (λ v. v < 2 ^ 64) 6 m.registers sized.registers) sized.frames;
        stack = sized.stack;
        memory = sized.memory;
        ranges = sized.ranges;
      }
      by_depth false = early

  return-sized : (frames : List SavedFrame) → AreFrames frames → SizedEffect len (return_to m frames)
  return-sized [] fits = register-sized m 0 sized
  return-sized (frame ∷ frames) fits = record {
    registers = All-append (λ v. v < 2 ^ 64) (take 6 m.registers) frame.registers (All-take (λ v. v < 2 ^ 64) 6 m.registers sized.registers) (fits 0 frame (omega arith));
    frames = λ k d there. fits (suc k) d (omega arith);
    stack = sized.stack;
    memory = sized.memory;
    ranges = sized.ranges;
  }

  effect-sized : (i : Insn) → IsAllowed i → SizedEffect len (effect i m)
  effect-sized (insn.AluImm op wide dst imm) allowed = set-sized m dst _ sized (value-sized op wide (register m dst) (unsigned 64 imm))
  effect-sized (insn.AluReg op wide dst src) allowed = set-sized m dst _ sized (value-sized op wide (register m dst) (register m src))
  effect-sized (insn.DivImm op wide dst imm) allowed = set-sized m dst _ sized (value-sized op wide (register m dst) (unsigned 64 imm))
  effect-sized (insn.DivReg op wide dst src) allowed = set-sized m dst _ sized (value-sized op wide (register m dst) (register m src))
  effect-sized (insn.Neg wide dst) allowed = set-sized m dst _ sized (value-sized alu.Neg wide (register m dst) 0)
  effect-sized (insn.MovImm wide dst imm) allowed = set-sized m dst _ sized (value-sized alu.Mov wide (register m dst) (unsigned 64 imm))
  effect-sized (insn.MovReg wide dst src) allowed = set-sized m dst _ sized (value-sized alu.Mov wide (register m dst) (register m src))
  effect-sized (insn.Movsx32 op dst src) allowed = set-sized m dst _ sized (value-sized op false (register m dst) (register m src))
  effect-sized (insn.Movsx64 op dst src) allowed = set-sized m dst _ sized (value-sized op true (register m dst) (register m src))
  effect-sized (insn.ToLittle bits dst) allowed = set-sized m dst _ sized (swap-sized swap.ToLittle bits (register m dst))
  effect-sized (insn.ToBig bits dst) allowed = set-sized m dst _ sized (swap-sized swap.ToBig bits (register m dst))
  effect-sized (insn.Swap bits dst) allowed = set-sized m dst _ sized (swap-sized swap.Swap bits (register m dst))
  effect-sized (insn.Jump offset) allowed = sized
  effect-sized (insn.JumpLong imm) allowed = sized
  effect-sized (insn.BranchImm op wide dst offset imm) allowed = branch-sized (compares op (width_in_bits wide) (register m dst) (unsigned 64 imm)) offset
  effect-sized (insn.BranchReg op wide dst src offset) allowed = branch-sized (compares op (width_in_bits wide) (register m dst) (register m src)) offset
  effect-sized insn.CallHelper allowed = set-sized m 0 _ sized helper-sized
  effect-sized (insn.CallLocal imm) allowed = call-sized imm
  effect-sized insn.Exit allowed = return-sized m.frames sized.frames
  effect-sized (insn.LoadImm dst value) allowed = set-sized m dst value sized allowed.1
  effect-sized (insn.Load size dst src offset) allowed = load-sized (address m src offset) size dst (λ n. n) (λ n h. h)
  effect-sized (insn.LoadSigned size dst src offset) allowed =
      load-sized (address m src offset) size dst (λ n. sign_extended (8 * byte_count size) 64 n) (λ n h. unsigned_below 64 _)
  effect-sized (insn.StoreImm size dst offset imm) allowed = store-sized (address m dst offset) size (unsigned 64 imm)
  effect-sized (insn.StoreReg size dst src offset) allowed = store-sized (address m dst offset) size (register m src)
  effect-sized (insn.Atomic op size dst src offset) allowed = atomic-sized op (address m dst offset) size (register m src) (λ old m'. m') (λ old m' h s. s)
  effect-sized (insn.AtomicFetch op size dst src offset) allowed =
      atomic-sized op (address m dst offset) size (register m src) (λ old m'. with_register m' src old) (λ old m' h s. set-sized m' src old s h)
  effect-sized (insn.CompareExchange size dst src offset) allowed =
      atomic-sized atomic.Cmpxchg (address m dst offset) size (register m src) (λ old m'. with_register m' 0 old) (λ old m' h s. set-sized m' 0 old s h)

-- ---- runs

-- what is known of the instructions of a program of code with so many bytes
abbrev Reads : ℕ → Program → Type 0
Reads len program = (place : ℕ) (i : Insn) → program place ≡ Some i → IsAllowed i × (8 * place ≤ len)

settled-sized : (len : ℕ) (program : Program) → Reads len program → (m : Machine) → 8 * m.counter ≤ len → (e : Effect) → SizedEffect len e → SizedStep len (settled program m e)
settled-sized len program reads m early (Ends ending) fits = fits
settled-sized len program reads m early (Goes m' (negsuc k)) sized = early
settled-sized len program reads m early (Goes m' (pos place)) sized = by_start (program place) refl
  where
    by_start : (o : Option Insn) → program place ≡ o
        → SizedStep len (option_map_or (λ p. Continues (record m' { counter = p })) (option_map (λ i. place) o) (Stops (BadJump m.counter) m'.memory))
    by_start None e = early
    by_start (Some i) e =
        let read = reads place i e in (
          record { registers = sized.registers; frames = sized.frames; stack = sized.stack; memory = sized.memory; ranges = sized.ranges },
          read.1,
        )

step-sized : (len : ℕ) (program : Program) → Reads len program → (m : Machine) → Sized m → 8 * m.counter ≤ len → SizedStep len (step program m)
step-sized len program reads m sized early = by_insn (program m.counter) refl
  where
    by_insn : (o : Option Insn) → program m.counter ≡ o
        → SizedStep len (option_map_or (λ i. settled program m (effect i m)) o (Stops (BadJump m.counter) m.memory))
    by_insn None e = early
    by_insn (Some i) e = settled-sized len program reads m early (effect i m) (effect-sized len m sized early i (reads m.counter i e).0)

run-sized : (len : ℕ) (program : Program) → Reads len program → (steps : ℕ) (m : Machine) → Sized m → 8 * m.counter ≤ len
    → EndFits len (outcome_from program steps m).ending
run-sized len program reads zero m sized early = tt
run-sized len program reads (suc steps) m sized early = by_step (step program m) (step-sized len program reads m sized early) (run-sized len program reads steps)
  where
    by_step : (s : Step) → SizedStep len s → ((m : Machine) → Sized m → 8 * m.counter ≤ len → EndFits len (outcome_from program steps m).ending)
        → EndFits len (outcome_after (λ m'. outcome_from program steps m') s).ending
    by_step (Continues m') fits later = later m' fits.0 fits.1
    by_step (Stops ending memory) fits later = fits

reads-code : (code : List ℕ) → All (λ b. b < 256) code → Reads (length code) (instruction_at code)
reads-code code small place i e = by_test (starts_instruction code place) refl e
  where
    by_test : (b : Bool) → starts_instruction code place ≡ b → (if b then form code place else None) ≡ Some i → IsAllowed i × (8 * place ≤ length code)
    by_test true t e =
        let before : 8 * place < length code = ltb-true (8 * place) (length code) (and_parts (nat_lt (8 * place) (length code)) (reaches (suc (length code)) code 0 place) t).0 in
        ((form-encoded code place i small e).0, omega arith)
    by_test false t e = cc

pub ending-fits : (code : List ℕ) (ranges : List MemRange) (memory : Memory) (p1 p2 budget : ℕ) → HoldsBytes memory → All (λ b. b < 256) code
    → AreShort ranges → length ranges < 2 ^ 64 → p1 < 2 ^ 64 → p2 < 2 ^ 64 → EndFits (length code) (outcome (instruction_at code) ranges memory p1 p2 budget).ending
ending-fits code ranges memory p1 p2 budget held small short few fits1 fits2 =
    run-sized (length code) (instruction_at code) (reads-code code small) budget (entry_machine ranges memory p1 p2) entry (omega arith)
  where
    word : (v : ℕ) (vs : List ℕ) → v < 2 ^ 64 → AreWords vs → AreWords (v ∷ vs)
    word v vs fits others = All-cons (λ x. x < 2 ^ 64) v vs fits others

    zeros : AreWords (0 ∷ 0 ∷ 0 ∷ 0 ∷ 0 ∷ 0 ∷ frame_pointer 0 ∷ [])
    zeros = All-append (λ x. x < 2 ^ 64) (replicate 6 0) (frame_pointer 0 ∷ []) (All-replicate (λ x. x < 2 ^ 64) 6 0 (omega arith))
        (word (frame_pointer 0) [] (omega arith) (All-nil (λ x. x < 2 ^ 64)))

    entry : Sized (entry_machine ranges memory p1 p2)
    entry = record {
      registers = word 0 (p1 ∷ p2 ∷ length ranges ∷ 0 ∷ 0 ∷ 0 ∷ 0 ∷ 0 ∷ 0 ∷ frame_pointer 0 ∷ []) (omega arith)
          (word p1 (p2 ∷ length ranges ∷ 0 ∷ 0 ∷ 0 ∷ 0 ∷ 0 ∷ 0 ∷ frame_pointer 0 ∷ []) fits1
          (word p2 (length ranges ∷ 0 ∷ 0 ∷ 0 ∷ 0 ∷ 0 ∷ 0 ∷ frame_pointer 0 ∷ []) fits2
          (word (length ranges) (0 ∷ 0 ∷ 0 ∷ 0 ∷ 0 ∷ 0 ∷ frame_pointer 0 ∷ []) few zeros)));
      frames = All-nil (λ (frame : SavedFrame). AreWords frame.registers);
      stack = All-replicate (λ b. b < 256) stack_len 0 (omega arith);
      memory = held;
      ranges = short;
    }
