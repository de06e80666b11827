-- Operands as a list, and how they follow a mnemonic. Private contracts speak of these.
use Rattle.std.specs.Prelude.{ℕ, ℤ, pos, List, [], ◌∷◌, ◌++◌}
use Rattle.bpf_isa.specs.declared.insn.Insn.{Insn}
use Rattle.bpf_isa.specs.declared.insn.Insn.TheVariants as insn
use Rattle.bpf_asm.specs.Line.{operand_text}
use Rattle.bpf_asm.specs.declared.operand.Operand.{Operand}
use Rattle.bpf_asm.specs.declared.operand.Operands.{Operands}
use Rattle.bpf_asm.specs.declared.operand.Operands.TheVariants as operands

-- operands in order
abbrev pub operand_list : Operands → List Operand
operand_list operands.Zero = []
operand_list (operands.One a) = a ∷ []
operand_list (operands.Two a b) = a ∷ b ∷ []
operand_list (operands.Three a b c) = a ∷ b ∷ c ∷ []

-- operands behind a mnemonic: each with a space in front of it
abbrev pub spaced : List Operand → List ℕ
spaced [] = []
spaced (operand ∷ rest) = (32 ∷ operand_text operand) ++ spaced rest

-- the offset of an instruction that has one beside a register; 0 of any other
abbrev pub distance_of : Insn → ℤ
distance_of (insn.BranchImm op wide dst offset imm) = offset
distance_of (insn.BranchReg op wide dst src offset) = offset
distance_of (insn.Load size dst src offset) = offset
distance_of (insn.LoadSigned size dst src offset) = offset
distance_of (insn.StoreImm size dst offset imm) = offset
distance_of (insn.StoreReg size dst src offset) = offset
distance_of (insn.Atomic op size dst src offset) = offset
distance_of (insn.AtomicFetch op size dst src offset) = offset
distance_of (insn.CompareExchange size dst src offset) = offset
distance_of _ = pos 0
