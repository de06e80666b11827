-- The programs that are executed. R1 has the number of rounds and R2 the length of the range. This project's own.
use Rattle.std.specs.Prelude.{ℕ, ◌-◌, ◌^◌, true, pos, negsuc, ◌-ℤ◌, List, [], ◌∷◌, ◌++◌, replicate}
use Rattle.bpf_isa.specs.declared.insn.Insn.{Insn}
use Rattle.bpf_isa.specs.declared.insn.Insn.TheVariants as insn
use Rattle.bpf_isa.specs.declared.operand.Size.TheVariants as size
use Rattle.bpf_isa.specs.declared.operation.AluOp.TheVariants as alu
use Rattle.bpf_isa.specs.declared.operation.JumpOp.TheVariants as jump
use Rattle.bpf_model.specs.Encoding.{encoding}
use Rattle.bpf_bench.specs.declared.workload.Workload.{Workload}
use Rattle.bpf_bench.specs.declared.workload.Workload.TheVariants.{Loop, Sum, Store, Near, Far}

-- R0 counts the rounds
abbrev pub counting : List Insn
counting =
    insn.MovImm true 0 (pos 0) ∷ insn.AluImm alu.Add true 0 (pos 1) ∷ insn.BranchReg jump.Jlt true 0 1 (negsuc 1)
    ∷ insn.Exit ∷ []

-- R4 is the first address of the range, R5 the one behind it, R3 that of the next byte, and R0 the sum
abbrev pub summing : List Insn
summing =
    insn.MovImm true 0 (pos 0) ∷ insn.LoadImm 4 (2 ^ 32) ∷ insn.MovReg true 5 4 ∷ insn.AluReg alu.Add true 5 2
    ∷ insn.MovReg true 3 4
    ∷ insn.Load size.B 6 3 (pos 0) ∷ insn.AluReg alu.Add true 0 6 ∷ insn.AluImm alu.Add true 3 (pos 1)
    ∷ insn.BranchReg jump.Jlt true 3 5 (negsuc 3)
    ∷ insn.AluImm alu.Add true 1 (negsuc 0) ∷ insn.BranchImm jump.Jne true 1 (negsuc 6) (pos 0) ∷ insn.Exit ∷ []

-- the same with the number of the round in R0, which is stored
abbrev pub storing : List Insn
storing =
    insn.MovImm true 0 (pos 0) ∷ insn.LoadImm 4 (2 ^ 32) ∷ insn.MovReg true 5 4 ∷ insn.AluReg alu.Add true 5 2
    ∷ insn.MovReg true 3 4
    ∷ insn.StoreReg size.D 3 0 (pos 0) ∷ insn.AluImm alu.Add true 3 (pos 8)
    ∷ insn.BranchReg jump.Jlt true 3 5 (negsuc 2)
    ∷ insn.AluImm alu.Add true 0 (pos 1) ∷ insn.BranchReg jump.Jlt true 0 1 (negsuc 5) ∷ insn.Exit ∷ []

-- the rounds are counted by jumps from end to end of so many units of code
abbrev pub spread_out : ℕ → List Insn
spread_out units =
    insn.MovImm true 0 (pos 0) ∷ insn.AluImm alu.Add true 0 (pos 1) ∷ insn.Jump (pos (units - 5)) ∷ []
    ++ replicate (units - 5) insn.Exit
    ++ (insn.BranchReg jump.Jlt true 0 1 (pos 2 -ℤ pos units) ∷ insn.Exit ∷ [])

abbrev pub program_for : Workload → List Insn
program_for Loop = counting
program_for Sum = summing
program_for Store = storing
program_for Near = spread_out 128
program_for Far = spread_out 8192

-- the bytes of instructions
abbrev pub encoded : List Insn → List ℕ
encoded [] = []
encoded (i ∷ is) = encoding i ++ encoded is
