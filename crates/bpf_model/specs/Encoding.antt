-- Encodings: the bytes of an instruction, and which instructions there are.
use Rattle.std.specs.Prelude.{◌≡◌, ℕ, ◌+◌, ◌*◌, ◌/◌, ◌%◌, ◌^◌, ◌<◌, ◌≤◌, ℤ, Bool, true, false, IsTrue, if◌then◌else◌, List, [], ◌∷◌, ◌++◌, length, take, drop, FitsSigned}
use Rattle.std.specs.Int.{w16, w32, cast_unsigned, to_le_bytes}
use Rattle.bpf_isa.specs.declared.insn.Insn.{Insn}
use Rattle.bpf_isa.specs.declared.insn.Insn.TheVariants as insn
use Rattle.bpf_isa.specs.declared.operand.Size.{Size}
use Rattle.bpf_isa.specs.declared.operand.Size.TheVariants as size
use Rattle.bpf_isa.specs.Width.{bits_of}
use Rattle.bpf_isa.specs.declared.operation.AluOp.{AluOp}
use Rattle.bpf_isa.specs.declared.operation.AluOp.TheVariants as alu
use Rattle.bpf_isa.specs.declared.operation.JumpOp.{JumpOp}
use Rattle.bpf_isa.specs.declared.operation.JumpOp.TheVariants as jump
use Rattle.bpf_isa.specs.declared.operation.AtomicOp.{AtomicOp}
use Rattle.bpf_isa.specs.declared.operation.AtomicOp.TheVariants as atomic

-- the code of an arithmetic operation (RFC 9669, section 4.1)
abbrev pub alu_code : AluOp → ℕ
alu_code alu.Add = 0x0
alu_code alu.Sub = 0x1
alu_code alu.Mul = 0x2
alu_code alu.Div = 0x3
alu_code alu.Sdiv = 0x3
alu_code alu.Or = 0x4
alu_code alu.And = 0x5
alu_code alu.Lsh = 0x6
alu_code alu.Rsh = 0x7
alu_code alu.Neg = 0x8
alu_code alu.Mod = 0x9
alu_code alu.Smod = 0x9
alu_code alu.Xor = 0xa
alu_code alu.Mov = 0xb
alu_code alu.Movsx8 = 0xb
alu_code alu.Movsx16 = 0xb
alu_code alu.Movsx32 = 0xb
alu_code alu.Arsh = 0xc

-- the offset that tells operations of one code apart (RFC 9669, section 4.1)
abbrev pub alu_offset : AluOp → ℕ
alu_offset alu.Sdiv = 1
alu_offset alu.Smod = 1
alu_offset alu.Movsx8 = 8
alu_offset alu.Movsx16 = 16
alu_offset alu.Movsx32 = 32
alu_offset _ = 0

-- the code of a conditional jump (RFC 9669, section 4.3)
abbrev pub jump_code : JumpOp → ℕ
jump_code jump.Jeq = 0x1
jump_code jump.Jgt = 0x2
jump_code jump.Jge = 0x3
jump_code jump.Jset = 0x4
jump_code jump.Jne = 0x5
jump_code jump.Jsgt = 0x6
jump_code jump.Jsge = 0x7
jump_code jump.Jlt = 0xa
jump_code jump.Jle = 0xb
jump_code jump.Jslt = 0xc
jump_code jump.Jsle = 0xd

-- the size bits of an access to memory (RFC 9669, section 5)
abbrev pub size_code : Size → ℕ
size_code size.W = 0
size_code size.H = 1
size_code size.B = 2
size_code size.D = 3

-- the immediate of an atomic operation without FETCH (RFC 9669, section 5.3)
abbrev pub atomic_code : AtomicOp → ℕ
atomic_code atomic.Add = 0x00
atomic_code atomic.Or = 0x40
atomic_code atomic.And = 0x50
atomic_code atomic.Xor = 0xa0
atomic_code atomic.Xchg = 0xe0
atomic_code atomic.Cmpxchg = 0xf0

-- an opcode of arithmetic: the code, the source bit 0 for an immediate or 1 for a register, and class 7
-- or 4, of 64 or 32 bits
abbrev pub alu_opcode : AluOp → ℕ → Bool → ℕ
alu_opcode op source wide = 16 * alu_code op + 8 * source + (if wide then 7 else 4)

-- an opcode of a conditional jump: class 5 or 6, of 64 or 32 bits
abbrev pub jump_opcode : JumpOp → ℕ → Bool → ℕ
jump_opcode op source wide = 16 * jump_code op + 8 * source + (if wide then 5 else 6)

-- an opcode of an access to memory: mode, size and class
abbrev pub access_opcode : ℕ → Size → ℕ → ℕ
access_opcode mode s class = 32 * mode + 8 * size_code s + class

-- one unit: the opcode, the source and destination in one byte, and the bits of the offset and the
-- immediate, the lowest byte first (RFC 9669, section 3.1)
abbrev pub unit : ℕ → ℕ → ℕ → ℕ → ℕ → List ℕ
unit opcode dst src offset imm = (opcode ∷ (16 * src + dst) ∷ []) ++ to_le_bytes w16 offset ++ to_le_bytes w32 imm

-- the bits of an offset and of an immediate
abbrev pub offset_bits : ℤ → ℕ
offset_bits offset = cast_unsigned w16 offset

abbrev pub imm_bits : ℤ → ℕ
imm_bits imm = cast_unsigned w32 imm

-- the bytes of an instruction: 16 for the load of 64 bits, 8 for each other
abbrev pub encoding : Insn → List ℕ
encoding (insn.AluImm op wide dst imm) = unit (alu_opcode op 0 wide) dst 0 0 (imm_bits imm)
encoding (insn.AluReg op wide dst src) = unit (alu_opcode op 1 wide) dst src 0 0
encoding (insn.DivImm op wide dst imm) = unit (alu_opcode op 0 wide) dst 0 (alu_offset op) (imm_bits imm)
encoding (insn.DivReg op wide dst src) = unit (alu_opcode op 1 wide) dst src (alu_offset op) 0
encoding (insn.Neg wide dst) = unit (alu_opcode alu.Neg 0 wide) dst 0 0 0
encoding (insn.MovImm wide dst imm) = unit (alu_opcode alu.Mov 0 wide) dst 0 0 (imm_bits imm)
encoding (insn.MovReg wide dst src) = unit (alu_opcode alu.Mov 1 wide) dst src 0 0
encoding (insn.Movsx32 op dst src) = unit 0xbc dst src (alu_offset op) 0
encoding (insn.Movsx64 op dst src) = unit 0xbf dst src (alu_offset op) 0
encoding (insn.ToLittle bits dst) = unit 0xd4 dst 0 0 (bits_of bits)
encoding (insn.ToBig bits dst) = unit 0xdc dst 0 0 (bits_of bits)
encoding (insn.Swap bits dst) = unit 0xd7 dst 0 0 (bits_of bits)
encoding (insn.Jump offset) = unit 0x05 0 0 (offset_bits offset) 0
encoding (insn.JumpLong imm) = unit 0x06 0 0 0 (imm_bits imm)
encoding (insn.BranchImm op wide dst offset imm) =
    unit (jump_opcode op 0 wide) dst 0 (offset_bits offset) (imm_bits imm)
encoding (insn.BranchReg op wide dst src offset) = unit (jump_opcode op 1 wide) dst src (offset_bits offset) 0
encoding insn.CallHelper = unit 0x85 0 0 0 1
encoding (insn.CallLocal imm) = unit 0x85 0 1 0 (imm_bits imm)
encoding insn.Exit = unit 0x95 0 0 0 0
encoding (insn.LoadImm dst value) = unit 0x18 dst 0 0 (value % 2 ^ 32) ++ unit 0 0 0 0 (value / 2 ^ 32)
encoding (insn.Load s dst src offset) = unit (access_opcode 3 s 1) dst src (offset_bits offset) 0
encoding (insn.LoadSigned s dst src offset) = unit (access_opcode 4 s 1) dst src (offset_bits offset) 0
encoding (insn.StoreImm s dst offset imm) = unit (access_opcode 3 s 2) dst 0 (offset_bits offset) (imm_bits imm)
encoding (insn.StoreReg s dst src offset) = unit (access_opcode 3 s 3) dst src (offset_bits offset) 0
encoding (insn.Atomic op s dst src offset) = unit (access_opcode 6 s 3) dst src (offset_bits offset) (atomic_code op)
encoding (insn.AtomicFetch op s dst src offset) =
    unit (access_opcode 6 s 3) dst src (offset_bits offset) (atomic_code op + 1)
encoding (insn.CompareExchange s dst src offset) = unit (access_opcode 6 s 3) dst src (offset_bits offset) 0xf1

-- the bytes of code from a place on begin with the encoding of the instruction
abbrev pub IsEncodedAt : List ℕ → ℕ → Insn → Type 0
IsEncodedAt code place i = take (length (encoding i)) (drop (8 * place) code) ≡ encoding i

-- Which field values an instruction may have.

-- operations of two operands that no offset tells apart
abbrev pub is_binary : AluOp → Bool
is_binary alu.Add = true
is_binary alu.Sub = true
is_binary alu.Mul = true
is_binary alu.Or = true
is_binary alu.And = true
is_binary alu.Lsh = true
is_binary alu.Rsh = true
is_binary alu.Xor = true
is_binary alu.Arsh = true
is_binary _ = false

-- divisions, unsigned and signed
abbrev pub is_division : AluOp → Bool
is_division alu.Div = true
is_division alu.Mod = true
is_division alu.Sdiv = true
is_division alu.Smod = true
is_division _ = false

-- moves that sign-extend to 32 bits
abbrev pub is_move_32 : AluOp → Bool
is_move_32 alu.Movsx8 = true
is_move_32 alu.Movsx16 = true
is_move_32 _ = false

-- moves that sign-extend to 64 bits
abbrev pub is_move_64 : AluOp → Bool
is_move_64 alu.Movsx8 = true
is_move_64 alu.Movsx16 = true
is_move_64 alu.Movsx32 = true
is_move_64 _ = false

-- sizes of a load that sign-extends
abbrev pub is_narrow : Size → Bool
is_narrow size.D = false
is_narrow _ = true

-- sizes of an atomic operation
abbrev pub is_atomic_size : Size → Bool
is_atomic_size size.W = true
is_atomic_size size.D = true
is_atomic_size _ = false

-- atomic operations that need no FETCH
abbrev pub is_plain : AtomicOp → Bool
is_plain atomic.Xchg = false
is_plain atomic.Cmpxchg = false
is_plain _ = true

-- atomic operations that may fetch into the source
abbrev pub is_fetch : AtomicOp → Bool
is_fetch atomic.Cmpxchg = false
is_fetch _ = true

-- an instruction of the profile: its operation, size and registers are those of its form, R10 is only
-- read, and each number fits its field
abbrev pub IsAllowed : Insn → Type 0
IsAllowed (insn.AluImm op wide dst imm) = IsTrue (is_binary op) × (dst ≤ 9) × FitsSigned w32 imm
IsAllowed (insn.AluReg op wide dst src) = IsTrue (is_binary op) × (dst ≤ 9) × (src ≤ 10)
IsAllowed (insn.DivImm op wide dst imm) = IsTrue (is_division op) × (dst ≤ 9) × FitsSigned w32 imm
IsAllowed (insn.DivReg op wide dst src) = IsTrue (is_division op) × (dst ≤ 9) × (src ≤ 10)
IsAllowed (insn.Neg wide dst) = dst ≤ 9
IsAllowed (insn.MovImm wide dst imm) = (dst ≤ 9) × FitsSigned w32 imm
IsAllowed (insn.MovReg wide dst src) = (dst ≤ 9) × (src ≤ 10)
IsAllowed (insn.Movsx32 op dst src) = IsTrue (is_move_32 op) × (dst ≤ 9) × (src ≤ 10)
IsAllowed (insn.Movsx64 op dst src) = IsTrue (is_move_64 op) × (dst ≤ 9) × (src ≤ 10)
IsAllowed (insn.ToLittle bits dst) = dst ≤ 9
IsAllowed (insn.ToBig bits dst) = dst ≤ 9
IsAllowed (insn.Swap bits dst) = dst ≤ 9
IsAllowed (insn.Jump offset) = FitsSigned w16 offset
IsAllowed (insn.JumpLong imm) = FitsSigned w32 imm
IsAllowed (insn.BranchImm op wide dst offset imm) = (dst ≤ 10) × FitsSigned w16 offset × FitsSigned w32 imm
IsAllowed (insn.BranchReg op wide dst src offset) = (dst ≤ 10) × (src ≤ 10) × FitsSigned w16 offset
IsAllowed insn.CallHelper = Unit {0}
IsAllowed (insn.CallLocal imm) = FitsSigned w32 imm
IsAllowed insn.Exit = Unit {0}
IsAllowed (insn.LoadImm dst value) = (dst ≤ 9) × (value < 2 ^ 64)
IsAllowed (insn.Load s dst src offset) = (dst ≤ 9) × (src ≤ 10) × FitsSigned w16 offset
IsAllowed (insn.LoadSigned s dst src offset) = IsTrue (is_narrow s) × (dst ≤ 9) × (src ≤ 10) × FitsSigned w16 offset
IsAllowed (insn.StoreImm s dst offset imm) = (dst ≤ 10) × FitsSigned w16 offset × FitsSigned w32 imm
IsAllowed (insn.StoreReg s dst src offset) = (dst ≤ 10) × (src ≤ 10) × FitsSigned w16 offset
IsAllowed (insn.Atomic op s dst src offset) =
    IsTrue (is_plain op) × IsTrue (is_atomic_size s) × (dst ≤ 10) × (src ≤ 10) × FitsSigned w16 offset
IsAllowed (insn.AtomicFetch op s dst src offset) =
    IsTrue (is_fetch op) × IsTrue (is_atomic_size s) × (dst ≤ 10) × (src ≤ 9) × FitsSigned w16 offset
IsAllowed (insn.CompareExchange s dst src offset) =
    IsTrue (is_atomic_size s) × (dst ≤ 10) × (src ≤ 10) × FitsSigned w16 offset
