-- The encodings of allowed instructions are bytes.
use Rattle.std.proofs.Common.{ℕ, ◌+◌, ◌<◌, ◌≤◌, ◌^◌, ◌%◌, ◌/◌, Bool, true, false, List, [], ◌∷◌, arith}
use Rattle.std.specs.Prelude.{if◌then◌else◌}
use Rattle.std.proofs.lemmas.List.Elements.{All-append, All-from_recursion, All-nil}
use Rattle.bpf_isa.specs.declared.insn.Insn.{Insn}
use Rattle.bpf_isa.specs.declared.insn.Insn.TheVariants as insn
use Rattle.bpf_isa.specs.declared.operand.Size.{Size}
use Rattle.bpf_isa.specs.declared.operand.Size.TheVariants as size
use Rattle.bpf_isa.specs.declared.operation.AluOp.{AluOp}
use Rattle.bpf_isa.specs.declared.operation.AluOp.TheVariants as alu
use Rattle.bpf_isa.specs.declared.operation.JumpOp.{JumpOp}
use Rattle.bpf_isa.specs.declared.operation.JumpOp.TheVariants as jump
use Rattle.bpf_isa.specs.Width.{bits_of}
use Rattle.bpf_model.specs.Encoding.{access_opcode, alu_code, alu_offset, alu_opcode, atomic_code, encoding, imm_bits, IsAllowed, jump_code, jump_opcode, offset_bits, size_code, unit}
use Rattle.cp_text.specs.HexText.{AreBytes}
use Rattle.bpf_asm.specs.Text.{AreAllowed, encodings}

unit_bytes : (opcode dst src offset imm : ℕ) → opcode < 256 → dst ≤ 15 → src ≤ 15 → AreBytes (unit opcode dst src offset imm)
unit_bytes opcode dst src offset imm o d s =
    All-from_recursion (λ b. b < 256) (unit opcode dst src offset imm)
    (o, (omega arith, (omega arith, (omega arith, (omega arith, (omega arith, (omega arith, (omega arith, tt))))))))

-- ---- opcodes

alu_code_low : (op : AluOp) → alu_code op ≤ 12
alu_code_low alu.Add = omega arith
alu_code_low _ = omega arith

jump_code_low : (op : JumpOp) → jump_code op ≤ 13
jump_code_low jump.Jeq = omega arith
jump_code_low _ = omega arith

size_code_low : (s : Size) → size_code s ≤ 3
size_code_low size.B = omega arith
size_code_low _ = omega arith

class_low : (wide : Bool) (m n : ℕ) → m ≤ 7 → n ≤ 7 → (if wide then m else n) ≤ 7
class_low true m n a b = a
class_low false m n a b = b

alu_opcode_low : (op : AluOp) (source : ℕ) (wide : Bool) → source ≤ 1 → alu_opcode op source wide < 256
alu_opcode_low op source wide s = let code = alu_code_low op in let class = class_low wide 7 4 (omega arith) (omega arith) in omega arith

jump_opcode_low : (op : JumpOp) (source : ℕ) (wide : Bool) → source ≤ 1 → jump_opcode op source wide < 256
jump_opcode_low op source wide s = let code = jump_code_low op in let class = class_low wide 5 6 (omega arith) (omega arith) in omega arith

access_opcode_low : (mode : ℕ) (s : Size) (class : ℕ) → mode ≤ 6 → class ≤ 3 → access_opcode mode s class < 256
access_opcode_low mode s class m c = let code = size_code_low s in omega arith

-- ---- units

-- of arithmetic, of a jump and of an access to memory
alu_unit : (op : AluOp) (source : ℕ) (wide : Bool) (dst src offset imm : ℕ) → source ≤ 1 → dst ≤ 9 → src ≤ 10 → AreBytes (unit (alu_opcode op source wide) dst src offset imm)
alu_unit op source wide dst src offset imm s d r = unit_bytes (alu_opcode op source wide) dst src offset imm (alu_opcode_low op source wide s) (omega arith) (omega arith)

jump_unit : (op : JumpOp) (source : ℕ) (wide : Bool) (dst src offset imm : ℕ) → source ≤ 1 → dst ≤ 10 → src ≤ 10 → AreBytes (unit (jump_opcode op source wide) dst src offset imm)
jump_unit op source wide dst src offset imm s d r = unit_bytes (jump_opcode op source wide) dst src offset imm (jump_opcode_low op source wide s) (omega arith) (omega arith)

access_unit : (mode : ℕ) (s : Size) (class dst src offset imm : ℕ) → mode ≤ 6 → class ≤ 3 → dst ≤ 10 → src ≤ 10 → AreBytes (unit (access_opcode mode s class) dst src offset imm)
access_unit mode s class dst src offset imm m c d r = unit_bytes (access_opcode mode s class) dst src offset imm (access_opcode_low mode s class m c) (omega arith) (omega arith)

other_unit : (opcode dst src offset imm : ℕ) → opcode < 256 → dst ≤ 10 → src ≤ 10 → AreBytes (unit opcode dst src offset imm)
other_unit opcode dst src offset imm o d r = unit_bytes opcode dst src offset imm o (omega arith) (omega arith)

ten : (r : ℕ) → r ≤ 9 → r ≤ 10
ten r h = omega arith

encoding_bytes : (i : Insn) → IsAllowed i → AreBytes (encoding i)
encoding_bytes (insn.AluImm op wide dst imm) a = alu_unit op 0 wide dst 0 0 (imm_bits imm) (omega arith) a.1 (omega arith)
encoding_bytes (insn.AluReg op wide dst src) a = alu_unit op 1 wide dst src 0 0 (omega arith) a.1 a.2
encoding_bytes (insn.DivImm op wide dst imm) a = alu_unit op 0 wide dst 0 (alu_offset op) (imm_bits imm) (omega arith) a.1 (omega arith)
encoding_bytes (insn.DivReg op wide dst src) a = alu_unit op 1 wide dst src (alu_offset op) 0 (omega arith) a.1 a.2
encoding_bytes (insn.Neg wide dst) a = alu_unit alu.Neg 0 wide dst 0 0 0 (omega arith) a (omega arith)
encoding_bytes (insn.MovImm wide dst imm) a = alu_unit alu.Mov 0 wide dst 0 0 (imm_bits imm) (omega arith) a.0 (omega arith)
encoding_bytes (insn.MovReg wide dst src) a = alu_unit alu.Mov 1 wide dst src 0 0 (omega arith) a.0 a.1
encoding_bytes (insn.Movsx32 op dst src) a = other_unit 0xbc dst src (alu_offset op) 0 (omega arith) (ten dst a.1) a.2
encoding_bytes (insn.Movsx64 op dst src) a = other_unit 0xbf dst src (alu_offset op) 0 (omega arith) (ten dst a.1) a.2
encoding_bytes (insn.ToLittle bits dst) a = other_unit 0xd4 dst 0 0 (bits_of bits) (omega arith) (ten dst a) (omega arith)
encoding_bytes (insn.ToBig bits dst) a = other_unit 0xdc dst 0 0 (bits_of bits) (omega arith) (ten dst a) (omega arith)
encoding_bytes (insn.Swap bits dst) a = other_unit 0xd7 dst 0 0 (bits_of bits) (omega arith) (ten dst a) (omega arith)
encoding_bytes (insn.Jump offset) a = other_unit 0x05 0 0 (offset_bits offset) 0 (omega arith) (omega arith) (omega arith)
encoding_bytes (insn.JumpLong imm) a = other_unit 0x06 0 0 0 (imm_bits imm) (omega arith) (omega arith) (omega arith)
encoding_bytes (insn.BranchImm op wide dst offset imm) a = jump_unit op 0 wide dst 0 (offset_bits offset) (imm_bits imm) (omega arith) a.0 (omega arith)
encoding_bytes (insn.BranchReg op wide dst src offset) a = jump_unit op 1 wide dst src (offset_bits offset) 0 (omega arith) a.0 a.1
encoding_bytes insn.CallHelper a = other_unit 0x85 0 0 0 1 (omega arith) (omega arith) (omega arith)
encoding_bytes (insn.CallLocal imm) a = other_unit 0x85 0 1 0 (imm_bits imm) (omega arith) (omega arith) (omega arith)
encoding_bytes insn.Exit a = other_unit 0x95 0 0 0 0 (omega arith) (omega arith) (omega arith)
encoding_bytes (insn.LoadImm dst value) a =
    All-append (λ b. b < 256) (unit 0x18 dst 0 0 (value % 2 ^ 32)) (unit 0 0 0 0 (value / 2 ^ 32))
    (other_unit 0x18 dst 0 0 (value % 2 ^ 32) (omega arith) (ten dst a.0) (omega arith)) (other_unit 0 0 0 0 (value / 2 ^ 32) (omega arith) (omega arith) (omega arith))
encoding_bytes (insn.Load s dst src offset) a = access_unit 3 s 1 dst src (offset_bits offset) 0 (omega arith) (omega arith) (ten dst a.0) a.1
encoding_bytes (insn.LoadSigned s dst src offset) a = access_unit 4 s 1 dst src (offset_bits offset) 0 (omega arith) (omega arith) (ten dst a.1) a.2
encoding_bytes (insn.StoreImm s dst offset imm) a = access_unit 3 s 2 dst 0 (offset_bits offset) (imm_bits imm) (omega arith) (omega arith) a.0 (omega arith)
encoding_bytes (insn.StoreReg s dst src offset) a = access_unit 3 s 3 dst src (offset_bits offset) 0 (omega arith) (omega arith) a.0 a.1
encoding_bytes (insn.Atomic op s dst src offset) a = access_unit 6 s 3 dst src (offset_bits offset) (atomic_code op) (omega arith) (omega arith) a.2 a.3
encoding_bytes (insn.AtomicFetch op s dst src offset) a = access_unit 6 s 3 dst src (offset_bits offset) (atomic_code op + 1) (omega arith) (omega arith) a.2 (ten src a.3)
encoding_bytes (insn.CompareExchange s dst src offset) a = access_unit 6 s 3 dst src (offset_bits offset) 0xf1 (omega arith) (omega arith) a.1 a.2

pub encodings_bytes : (is : List Insn) → AreAllowed is → AreBytes (encodings is)
encodings_bytes [] a = All-nil (λ b. b < 256)
encodings_bytes (i ∷ is) a = All-append (λ b. b < 256) (encoding i) (encodings is) (encoding_bytes i a.0) (encodings_bytes is a.1)
