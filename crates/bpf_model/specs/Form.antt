-- Instruction forms: which instruction stands at a place of code, read off its raw bytes. Code is a list
-- of bytes, and places count its units of 8 bytes from 0.
use Rattle.std.specs.Prelude.{◌==◌, ℕ, ◌+◌, ◌*◌, ◌/◌, ◌%◌, ◌^◌, ℤ, Bool, ◌&&◌, ◌||◌, nat_le, if◌then◌else◌, List, [], ◌∷◌, drop, Option, Some, None, option_map, option_and_then}
use Rattle.std.specs.Option.{option_or}
use Rattle.std.specs.Int.{w16, w32, cast_signed, from_le_bytes}
use Rattle.bpf_isa.specs.declared.insn.Insn.{Insn}
use Rattle.bpf_isa.specs.declared.insn.Insn.TheVariants as insn
use Rattle.bpf_isa.specs.declared.operand.Size.{Size}
use Rattle.bpf_isa.specs.declared.operand.Size.TheVariants as size
use Rattle.bpf_isa.specs.declared.operand.Width.{Width}
use Rattle.bpf_isa.specs.declared.operand.Width.TheVariants as width
use Rattle.bpf_isa.specs.declared.operation.AluOp.{AluOp}
use Rattle.bpf_isa.specs.declared.operation.AluOp.TheVariants as alu
use Rattle.bpf_isa.specs.declared.operation.JumpOp.{JumpOp}
use Rattle.bpf_isa.specs.declared.operation.JumpOp.TheVariants as jump
use Rattle.bpf_isa.specs.declared.operation.AtomicOp.{AtomicOp}
use Rattle.bpf_isa.specs.declared.operation.AtomicOp.TheVariants as atomic
use Rattle.bpf_model.specs.declared.fields.Fields.{Fields}

-- the fields of the unit that the bytes begin with; none where fewer than 8 are left (RFC 9669, section 3.1)
abbrev pub unit_fields : List ℕ → Option Fields
unit_fields (opcode ∷ registers ∷ o0 ∷ o1 ∷ i0 ∷ i1 ∷ i2 ∷ i3 ∷ rest) = Some (record {
  opcode = opcode;
  dst = registers % 16;
  src = registers / 16;
  offset = from_le_bytes w16 (o0 ∷ o1 ∷ []);
  imm = from_le_bytes w32 (i0 ∷ i1 ∷ i2 ∷ i3 ∷ []);
})
unit_fields _ = None

-- The parts of an opcode (RFC 9669, sections 3.2, 4 and 5).

-- the class: loads and stores 0 to 3, arithmetic 4 and 7, jumps 5 and 6
abbrev pub class_of : Fields → ℕ
class_of f = f.opcode % 8

-- whether the second operand is the immediate, 0, or the source register, 1
abbrev pub operand_of : Fields → ℕ
operand_of f = f.opcode / 8 % 2

-- the code of an arithmetic operation or a jump
abbrev pub operation_code : Fields → ℕ
operation_code f = f.opcode / 16

-- the width of an access to memory
abbrev pub width_of : Fields → ℕ
width_of f = f.opcode / 8 % 4

-- the mode of an access to memory
abbrev pub mode_of : Fields → ℕ
mode_of f = f.opcode / 32

-- the offset in two's complement
abbrev pub offset_of : Fields → ℤ
offset_of f = cast_signed w16 f.offset

-- the immediate in two's complement
abbrev pub imm_of : Fields → ℤ
imm_of f = cast_signed w32 f.imm

-- Tests of the rows.

-- arithmetic of 32 or 64 bits with an immediate, or with a register
abbrev pub is_alu_imm : Fields → Bool
is_alu_imm f = (class_of f == 4 || class_of f == 7) && operand_of f == 0

abbrev pub is_alu_reg : Fields → Bool
is_alu_reg f = (class_of f == 4 || class_of f == 7) && operand_of f == 1

-- a jump of 64 or 32 bits with an immediate, or with a register
abbrev pub is_jump_imm : Fields → Bool
is_jump_imm f = (class_of f == 5 || class_of f == 6) && operand_of f == 0

abbrev pub is_jump_reg : Fields → Bool
is_jump_reg f = (class_of f == 5 || class_of f == 6) && operand_of f == 1

-- whether arithmetic is of 64 bits, and whether a jump is
abbrev pub is_alu_wide : Fields → Bool
is_alu_wide f = class_of f == 7

abbrev pub is_jump_wide : Fields → Bool
is_jump_wide f = class_of f == 5

-- a register that an instruction may write: all but the frame pointer, R10
abbrev pub is_writable : ℕ → Bool
is_writable n = nat_le n 9

-- a register, R0 to R10
abbrev pub is_register : ℕ → Bool
is_register n = nat_le n 10

-- Names of numbers.

-- what a table calls a number
abbrev pub named : {A : Type 0} → List (ℕ × A) → ℕ → Option A
named [] n = None
named (e ∷ es) n = if e.0 == n then Some e.1 else named es n

-- operations of two operands, by their code (RFC 9669, section 4.1)
abbrev pub binary_codes : List (ℕ × AluOp)
binary_codes = (0x0, alu.Add) ∷ (0x1, alu.Sub) ∷ (0x2, alu.Mul) ∷ (0x4, alu.Or) ∷ (0x5, alu.And)
    ∷ (0x6, alu.Lsh) ∷ (0x7, alu.Rsh) ∷ (0xa, alu.Xor) ∷ (0xc, alu.Arsh) ∷ []

-- divisions at offset 0 and at offset 1, by their code
abbrev pub unsigned_division_codes : List (ℕ × AluOp)
unsigned_division_codes = (0x3, alu.Div) ∷ (0x9, alu.Mod) ∷ []

abbrev pub signed_division_codes : List (ℕ × AluOp)
signed_division_codes = (0x3, alu.Sdiv) ∷ (0x9, alu.Smod) ∷ []

abbrev pub division_of : Fields → Option AluOp
division_of f =
    if f.offset == 0 then named unsigned_division_codes (operation_code f)
    else if f.offset == 1 then named signed_division_codes (operation_code f)
    else None

-- moves that sign-extend to 32 and to 64 bits, by the offset
abbrev pub move_offsets_32 : List (ℕ × AluOp)
move_offsets_32 = (8, alu.Movsx8) ∷ (16, alu.Movsx16) ∷ []

abbrev pub move_offsets_64 : List (ℕ × AluOp)
move_offsets_64 = (8, alu.Movsx8) ∷ (16, alu.Movsx16) ∷ (32, alu.Movsx32) ∷ []

-- widths of a byte swap, by the immediate (RFC 9669, section 4.2)
abbrev pub swap_imms : List (ℕ × Width)
swap_imms = (16, width.Bits16) ∷ (32, width.Bits32) ∷ (64, width.Bits64) ∷ []

-- conditional jumps, by their code (RFC 9669, section 4.3)
abbrev pub jump_codes : List (ℕ × JumpOp)
jump_codes = (0x1, jump.Jeq) ∷ (0x2, jump.Jgt) ∷ (0x3, jump.Jge) ∷ (0x4, jump.Jset) ∷ (0x5, jump.Jne)
    ∷ (0x6, jump.Jsgt) ∷ (0x7, jump.Jsge) ∷ (0xa, jump.Jlt) ∷ (0xb, jump.Jle) ∷ (0xc, jump.Jslt)
    ∷ (0xd, jump.Jsle) ∷ []

-- widths of an access to memory, of a load_plain that sign-extends, and of an atomic operation (RFC 9669, section 5)
abbrev pub access_widths : List (ℕ × Size)
access_widths = (0, size.W) ∷ (1, size.H) ∷ (2, size.B) ∷ (3, size.D) ∷ []

abbrev pub signed_widths : List (ℕ × Size)
signed_widths = (0, size.W) ∷ (1, size.H) ∷ (2, size.B) ∷ []

abbrev pub atomic_widths : List (ℕ × Size)
atomic_widths = (0, size.W) ∷ (3, size.D) ∷ []

-- atomic operations without and with FETCH, by the immediate (RFC 9669, section 5.3)
abbrev pub atomic_imms : List (ℕ × AtomicOp)
atomic_imms = (0x00, atomic.Add) ∷ (0x40, atomic.Or) ∷ (0x50, atomic.And) ∷ (0xa0, atomic.Xor) ∷ []

abbrev pub fetch_imms : List (ℕ × AtomicOp)
fetch_imms = (0x01, atomic.Add) ∷ (0x41, atomic.Or) ∷ (0x51, atomic.And) ∷ (0xa1, atomic.Xor) ∷ (0xe1, atomic.Xchg) ∷ []

-- The rows of the table: each is a test and the instruction that it gives.

-- a row: its test, and the instruction that it gives, where the row names one
pub record Row : Type 0 where
  pub fits : Bool
  pub gives : Option Insn

abbrev pub when : Bool → Option Insn → Row
when test insn = record { fits = test; gives = insn }

-- what a row makes of a unit
abbrev pub row_insn : Row → Option Insn
row_insn row = if row.fits then row.gives else None

-- ADD, SUB, MUL, OR, AND, LSH, RSH, XOR, ARSH with an immediate
abbrev pub alu_imm : Fields → Row
alu_imm f = when (is_alu_imm f && is_writable f.dst && f.src == 0 && f.offset == 0)
    (option_map (λ op. insn.AluImm op (is_alu_wide f) f.dst (imm_of f)) (named binary_codes (operation_code f)))

-- the same with a register
abbrev pub alu_reg : Fields → Row
alu_reg f = when (is_alu_reg f && is_writable f.dst && is_register f.src && f.offset == 0 && f.imm == 0)
    (option_map (λ op. insn.AluReg op (is_alu_wide f) f.dst f.src) (named binary_codes (operation_code f)))

-- DIV, MOD, SDIV, SMOD with an immediate
abbrev pub div_imm : Fields → Row
div_imm f = when (is_alu_imm f && is_writable f.dst && f.src == 0)
    (option_map (λ op. insn.DivImm op (is_alu_wide f) f.dst (imm_of f)) (division_of f))

-- the same with a register
abbrev pub div_reg : Fields → Row
div_reg f = when (is_alu_reg f && is_writable f.dst && is_register f.src && f.imm == 0)
    (option_map (λ op. insn.DivReg op (is_alu_wide f) f.dst f.src) (division_of f))

-- NEG
abbrev pub neg : Fields → Row
neg f = when ((f.opcode == 0x84 || f.opcode == 0x87) && is_writable f.dst && f.src == 0 && f.offset == 0 && f.imm == 0)
    (Some (insn.Neg (f.opcode == 0x87) f.dst))

-- MOV of an immediate
abbrev pub mov_imm : Fields → Row
mov_imm f = when ((f.opcode == 0xb4 || f.opcode == 0xb7) && is_writable f.dst && f.src == 0 && f.offset == 0)
    (Some (insn.MovImm (f.opcode == 0xb7) f.dst (imm_of f)))

-- MOV of a register
abbrev pub mov_reg : Fields → Row
mov_reg f =
    when ((f.opcode == 0xbc || f.opcode == 0xbf) && is_writable f.dst && is_register f.src && f.offset == 0 && f.imm == 0)
    (Some (insn.MovReg (f.opcode == 0xbf) f.dst f.src))

-- MOVSX to 32 bits
abbrev pub movsx_32 : Fields → Row
movsx_32 f = when (f.opcode == 0xbc && is_writable f.dst && is_register f.src && f.imm == 0)
    (option_map (λ op. insn.Movsx32 op f.dst f.src) (named move_offsets_32 f.offset))

-- MOVSX to 64 bits
abbrev pub movsx_64 : Fields → Row
movsx_64 f = when (f.opcode == 0xbf && is_writable f.dst && is_register f.src && f.imm == 0)
    (option_map (λ op. insn.Movsx64 op f.dst f.src) (named move_offsets_64 f.offset))

-- END to little-endian order
abbrev pub to_little : Fields → Row
to_little f = when (f.opcode == 0xd4 && is_writable f.dst && f.src == 0 && f.offset == 0)
    (option_map (λ bits. insn.ToLittle bits f.dst) (named swap_imms f.imm))

-- END to big-endian order
abbrev pub to_big : Fields → Row
to_big f = when (f.opcode == 0xdc && is_writable f.dst && f.src == 0 && f.offset == 0)
    (option_map (λ bits. insn.ToBig bits f.dst) (named swap_imms f.imm))

-- END to the reverse order
abbrev pub swap : Fields → Row
swap f = when (f.opcode == 0xd7 && is_writable f.dst && f.src == 0 && f.offset == 0)
    (option_map (λ bits. insn.Swap bits f.dst) (named swap_imms f.imm))

-- JA by the offset
abbrev pub ja : Fields → Row
ja f = when (f.opcode == 0x05 && f.dst == 0 && f.src == 0 && f.imm == 0) (Some (insn.Jump (offset_of f)))

-- JA by the immediate
abbrev pub ja_long : Fields → Row
ja_long f = when (f.opcode == 0x06 && f.dst == 0 && f.src == 0 && f.offset == 0) (Some (insn.JumpLong (imm_of f)))

-- a conditional jump on an immediate
abbrev pub branch_imm : Fields → Row
branch_imm f = when (is_jump_imm f && is_register f.dst && f.src == 0)
    (option_map (λ op. insn.BranchImm op (is_jump_wide f) f.dst (offset_of f) (imm_of f)) (named jump_codes (operation_code f)))

-- a conditional jump on a register
abbrev pub branch_reg : Fields → Row
branch_reg f = when (is_jump_reg f && is_register f.dst && is_register f.src && f.imm == 0)
    (option_map (λ op. insn.BranchReg op (is_jump_wide f) f.dst f.src (offset_of f)) (named jump_codes (operation_code f)))

-- CALL of helper 1
abbrev pub call_helper : Fields → Row
call_helper f =
    when (f.opcode == 0x85 && f.dst == 0 && f.src == 0 && f.offset == 0 && f.imm == 1) (Some insn.CallHelper)

-- CALL of a function of the same program
abbrev pub call_local : Fields → Row
call_local f = when (f.opcode == 0x85 && f.dst == 0 && f.src == 1 && f.offset == 0) (Some (insn.CallLocal (imm_of f)))

-- EXIT
abbrev pub exit : Fields → Row
exit f = when (f.opcode == 0x95 && f.dst == 0 && f.src == 0 && f.offset == 0 && f.imm == 0) (Some insn.Exit)

-- the second unit of a load_plain of 64 bits: all zero but its immediate
abbrev pub is_second : Fields → Bool
is_second n = n.opcode == 0 && n.dst == 0 && n.src == 0 && n.offset == 0

-- the immediate of the second unit, if it is there
abbrev pub second_imm : Option Fields → Option ℕ
second_imm next = option_and_then (λ n. if is_second n then Some n.imm else None) next

-- the load_plain of 64 bits, whose high half is the immediate of the next unit
abbrev pub load_imm : Fields → Option Fields → Row
load_imm f next = when (f.opcode == 0x18 && is_writable f.dst && f.src == 0 && f.offset == 0)
    (option_map (λ high. insn.LoadImm f.dst (f.imm + 2 ^ 32 * high)) (second_imm next))

-- LDX MEM
abbrev pub load_plain : Fields → Row
load_plain f = when (class_of f == 1 && mode_of f == 3 && is_writable f.dst && is_register f.src && f.imm == 0)
    (option_map (λ size. insn.Load size f.dst f.src (offset_of f)) (named access_widths (width_of f)))

-- LDX MEMSX
abbrev pub load_signed : Fields → Row
load_signed f = when (class_of f == 1 && mode_of f == 4 && is_writable f.dst && is_register f.src && f.imm == 0)
    (option_map (λ size. insn.LoadSigned size f.dst f.src (offset_of f)) (named signed_widths (width_of f)))

-- ST MEM
abbrev pub store_imm : Fields → Row
store_imm f = when (class_of f == 2 && mode_of f == 3 && is_register f.dst && f.src == 0)
    (option_map (λ size. insn.StoreImm size f.dst (offset_of f) (imm_of f)) (named access_widths (width_of f)))

-- STX MEM
abbrev pub store_reg : Fields → Row
store_reg f = when (class_of f == 3 && mode_of f == 3 && is_register f.dst && is_register f.src && f.imm == 0)
    (option_map (λ size. insn.StoreReg size f.dst f.src (offset_of f)) (named access_widths (width_of f)))

-- ATOMIC without FETCH
abbrev pub atomic_plain : Fields → Row
atomic_plain f = when (class_of f == 3 && mode_of f == 6 && is_register f.dst && is_register f.src)
    (option_and_then (λ size. option_map (λ op. insn.Atomic op size f.dst f.src (offset_of f)) (named atomic_imms f.imm))
    (named atomic_widths (width_of f)))

-- ATOMIC with FETCH, and XCHG
abbrev pub atomic_fetch : Fields → Row
atomic_fetch f = when (class_of f == 3 && mode_of f == 6 && is_register f.dst && is_writable f.src)
    (option_and_then (λ size. option_map (λ op. insn.AtomicFetch op size f.dst f.src (offset_of f)) (named fetch_imms f.imm))
    (named atomic_widths (width_of f)))

-- CMPXCHG
abbrev pub compare_exchange : Fields → Row
compare_exchange f = when (class_of f == 3 && mode_of f == 6 && is_register f.dst && is_register f.src && f.imm == 0xf1)
    (option_map (λ size. insn.CompareExchange size f.dst f.src (offset_of f)) (named atomic_widths (width_of f)))

-- The forms.

-- one entry for each row of the table, for a unit and the next one, if it is there
abbrev pub rows : Fields → Option Fields → List Row
rows f next =
    alu_imm f ∷ alu_reg f ∷ div_imm f ∷ div_reg f ∷ neg f ∷ mov_imm f ∷ mov_reg f ∷ movsx_32 f ∷ movsx_64 f
    ∷ to_little f ∷ to_big f ∷ swap f
    ∷ ja f ∷ ja_long f ∷ branch_imm f ∷ branch_reg f ∷ call_helper f ∷ call_local f ∷ exit f
    ∷ load_imm f next ∷ load_plain f ∷ load_signed f ∷ store_imm f ∷ store_reg f
    ∷ atomic_plain f ∷ atomic_fetch f ∷ compare_exchange f ∷ []

-- what the first row that fits makes
abbrev pub first_fit : List Row → Option Insn
first_fit [] = None
first_fit (row ∷ rest) = option_or (row_insn row) (first_fit rest)

-- the instruction of a unit, with the next one
abbrev pub insn_of : Fields → Option Fields → Option Insn
insn_of f next = first_fit (rows f next)

-- the instruction that the bytes begin with, if they begin with one
abbrev pub first_form : List ℕ → Option Insn
first_form bytes = option_and_then (λ f. insn_of f (unit_fields (drop 8 bytes))) (unit_fields bytes)

-- the instruction whose form stands at a place of code, if there is one
abbrev pub form : List ℕ → ℕ → Option Insn
form code place = first_form (drop (8 * place) code)
