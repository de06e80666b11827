-- The one line of an instruction in assembly text. This project's own; the instructions are those of RFC 9669.
use Rattle.std.specs.Prelude.{ℕ, List, [], ◌∷◌, map, decimal}
use Rattle.std.specs.Fmt.{signed_decimal}
use Rattle.cp_text.specs.Parts.{joined_by}
use Rattle.bpf_isa.specs.declared.insn.Insn.{Insn}
use Rattle.bpf_isa.specs.declared.insn.Insn.TheVariants as insn
use Rattle.bpf_isa.specs.Width.{bits_of}
use Rattle.bpf_model.specs.Encoding.{alu_offset}
use Rattle.bpf_asm.specs.Mnemonic.{mnemonic_text}
use Rattle.bpf_asm.specs.declared.mnemonic.Mnemonic.{Mnemonic}
use Rattle.bpf_asm.specs.declared.mnemonic.Mnemonic.TheVariants as word
use Rattle.bpf_asm.specs.declared.operand.Operand.{Operand}
use Rattle.bpf_asm.specs.declared.operand.Operand.TheVariants.{Register, Signed, Number}

-- a register, r and its number; or a number in decimal digits, with a minus where it is below 0
abbrev pub operand_text : Operand → List ℕ
operand_text (Register r) = 114 ∷ decimal r
operand_text (Signed z) = signed_decimal z
operand_text (Number n) = decimal n

-- the mnemonic of an instruction
abbrev pub mnemonic_of : Insn → Mnemonic
mnemonic_of (insn.AluImm op wide dst imm) = word.Binary op wide
mnemonic_of (insn.AluReg op wide dst src) = word.Binary op wide
mnemonic_of (insn.DivImm op wide dst imm) = word.Division op wide
mnemonic_of (insn.DivReg op wide dst src) = word.Division op wide
mnemonic_of (insn.Neg wide dst) = word.Negate wide
mnemonic_of (insn.MovImm wide dst imm) = word.Move wide
mnemonic_of (insn.MovReg wide dst src) = word.Move wide
mnemonic_of (insn.Movsx32 op dst src) = word.Extend32
mnemonic_of (insn.Movsx64 op dst src) = word.Extend64
mnemonic_of (insn.ToLittle bits dst) = word.ToLittle
mnemonic_of (insn.ToBig bits dst) = word.ToBig
mnemonic_of (insn.Swap bits dst) = word.Swap
mnemonic_of (insn.Jump offset) = word.Jump
mnemonic_of (insn.JumpLong imm) = word.JumpLong
mnemonic_of (insn.BranchImm op wide dst offset imm) = word.Branch op wide
mnemonic_of (insn.BranchReg op wide dst src offset) = word.Branch op wide
mnemonic_of insn.CallHelper = word.CallHelper
mnemonic_of (insn.CallLocal imm) = word.CallLocal
mnemonic_of insn.Exit = word.Exit
mnemonic_of (insn.LoadImm dst value) = word.LoadImm
mnemonic_of (insn.Load size dst src offset) = word.Load size
mnemonic_of (insn.LoadSigned size dst src offset) = word.LoadSigned size
mnemonic_of (insn.StoreImm size dst offset imm) = word.StoreImm size
mnemonic_of (insn.StoreReg size dst src offset) = word.StoreReg size
mnemonic_of (insn.Atomic op size dst src offset) = word.Atomic op size
mnemonic_of (insn.AtomicFetch op size dst src offset) = word.AtomicFetch op size
mnemonic_of (insn.CompareExchange size dst src offset) = word.CompareExchange size

-- the operands of an instruction, in the order of its line; a sign-extending move and a byte swap also name
-- their bits, and the call of a helper its number
abbrev pub operands_of : Insn → List Operand
operands_of (insn.AluImm op wide dst imm) = Register dst ∷ Signed imm ∷ []
operands_of (insn.AluReg op wide dst src) = Register dst ∷ Register src ∷ []
operands_of (insn.DivImm op wide dst imm) = Register dst ∷ Signed imm ∷ []
operands_of (insn.DivReg op wide dst src) = Register dst ∷ Register src ∷ []
operands_of (insn.Neg wide dst) = Register dst ∷ []
operands_of (insn.MovImm wide dst imm) = Register dst ∷ Signed imm ∷ []
operands_of (insn.MovReg wide dst src) = Register dst ∷ Register src ∷ []
operands_of (insn.Movsx32 op dst src) = Register dst ∷ Register src ∷ Number (alu_offset op) ∷ []
operands_of (insn.Movsx64 op dst src) = Register dst ∷ Register src ∷ Number (alu_offset op) ∷ []
operands_of (insn.ToLittle bits dst) = Register dst ∷ Number (bits_of bits) ∷ []
operands_of (insn.ToBig bits dst) = Register dst ∷ Number (bits_of bits) ∷ []
operands_of (insn.Swap bits dst) = Register dst ∷ Number (bits_of bits) ∷ []
operands_of (insn.Jump offset) = Signed offset ∷ []
operands_of (insn.JumpLong imm) = Signed imm ∷ []
operands_of (insn.BranchImm op wide dst offset imm) = Register dst ∷ Signed imm ∷ Signed offset ∷ []
operands_of (insn.BranchReg op wide dst src offset) = Register dst ∷ Register src ∷ Signed offset ∷ []
operands_of insn.CallHelper = Number 1 ∷ []
operands_of (insn.CallLocal imm) = Signed imm ∷ []
operands_of insn.Exit = []
operands_of (insn.LoadImm dst value) = Register dst ∷ Number value ∷ []
operands_of (insn.Load size dst src offset) = Register dst ∷ Register src ∷ Signed offset ∷ []
operands_of (insn.LoadSigned size dst src offset) = Register dst ∷ Register src ∷ Signed offset ∷ []
operands_of (insn.StoreImm size dst offset imm) = Register dst ∷ Signed offset ∷ Signed imm ∷ []
operands_of (insn.StoreReg size dst src offset) = Register dst ∷ Signed offset ∷ Register src ∷ []
operands_of (insn.Atomic op size dst src offset) = Register dst ∷ Signed offset ∷ Register src ∷ []
operands_of (insn.AtomicFetch op size dst src offset) = Register dst ∷ Signed offset ∷ Register src ∷ []
operands_of (insn.CompareExchange size dst src offset) = Register dst ∷ Signed offset ∷ Register src ∷ []

-- the parts of a line: the mnemonic and the texts of the operands
abbrev pub line_parts : Insn → List (List ℕ)
line_parts i = mnemonic_text (mnemonic_of i) ∷ map operand_text (operands_of i)

-- the line of an instruction, without its newline: its parts with one space between two
abbrev pub insn_line : Insn → List ℕ
insn_line i = joined_by 32 (line_parts i)
