-- Kinds of instructions, by what they do (RFC 9669, sections 4 and 5).
use Rattle.std.specs.Prelude.{Bool, true, false}
use Rattle.bpf_isa.specs.declared.insn.Insn.{Insn}
use Rattle.bpf_isa.specs.declared.insn.Insn.TheVariants as insn

-- arithmetic
abbrev pub is_arithmetic : Insn → Bool
is_arithmetic (insn.AluImm op wide dst imm) = true
is_arithmetic (insn.AluReg op wide dst src) = true
is_arithmetic (insn.DivImm op wide dst imm) = true
is_arithmetic (insn.DivReg op wide dst src) = true
is_arithmetic (insn.Neg wide dst) = true
is_arithmetic (insn.MovImm wide dst imm) = true
is_arithmetic (insn.MovReg wide dst src) = true
is_arithmetic (insn.Movsx32 op dst src) = true
is_arithmetic (insn.Movsx64 op dst src) = true
is_arithmetic _ = false

-- a jump, a call or a return
abbrev pub is_transfer : Insn → Bool
is_transfer (insn.Jump offset) = true
is_transfer (insn.JumpLong imm) = true
is_transfer (insn.BranchImm op wide dst offset imm) = true
is_transfer (insn.BranchReg op wide dst src offset) = true
is_transfer insn.CallHelper = true
is_transfer (insn.CallLocal imm) = true
is_transfer insn.Exit = true
is_transfer _ = false

-- a load or a store
abbrev pub is_access : Insn → Bool
is_access (insn.Load size dst src offset) = true
is_access (insn.LoadSigned size dst src offset) = true
is_access (insn.StoreImm size dst offset imm) = true
is_access (insn.StoreReg size dst src offset) = true
is_access _ = false

-- an atomic operation
abbrev pub is_atomic_access : Insn → Bool
is_atomic_access (insn.Atomic op size dst src offset) = true
is_atomic_access (insn.AtomicFetch op size dst src offset) = true
is_atomic_access (insn.CompareExchange size dst src offset) = true
is_atomic_access _ = false
