-- Each text is read as its instruction, so it is the line of it.
use Rattle.std.proofs.Common.{pos, negsuc, true, false, refl, sym}
use Rattle.std.specs.Prelude.{codes}
use Rattle.bpf_isa.specs.declared.insn.Insn.TheVariants as insn
use Rattle.bpf_isa.specs.declared.operand.Size.TheVariants as size
use Rattle.bpf_isa.specs.declared.operand.Width.TheVariants as width
use Rattle.bpf_isa.specs.declared.operation.JumpOp.TheVariants as jump
use Rattle.bpf_isa.specs.declared.operation.AtomicOp.TheVariants as atomic
use Rattle.bpf_asm.proofs.LineLaws.{line_read}
use Rattle.bpf_asm.proofs.laws.lines_by_example.Goals as goal

pub returns-clause-move_of_number : goal.returns-clause-move_of_number
returns-clause-move_of_number c = sym (line_read (codes "mov64 r0 7") (insn.MovImm true 0 (pos 7)) refl).0

pub returns-clause-move_of_register : goal.returns-clause-move_of_register
returns-clause-move_of_register c = sym (line_read (codes "mov32 r9 r10") (insn.MovReg false 9 10) refl).0

pub returns-clause-wide_load : goal.returns-clause-wide_load
returns-clause-wide_load c = sym (line_read (codes "lddw r1 4294967296") (insn.LoadImm 1 4294967296) refl).0

pub returns-clause-load : goal.returns-clause-load
returns-clause-load c = sym (line_read (codes "ldxb r0 r1 -1") (insn.Load size.B 0 1 (negsuc 0)) refl).0

pub returns-clause-store : goal.returns-clause-store
returns-clause-store c = sym (line_read (codes "std r10 -8 0") (insn.StoreImm size.D 10 (negsuc 7) (pos 0)) refl).0

pub returns-clause-branch : goal.returns-clause-branch
returns-clause-branch c = sym (line_read (codes "jeq32 r0 -5 -2") (insn.BranchImm jump.Jeq false 0 (negsuc 1) (negsuc 4)) refl).0

pub returns-clause-fetch : goal.returns-clause-fetch
returns-clause-fetch c = sym (line_read (codes "afaddd r1 0 r2") (insn.AtomicFetch atomic.Add size.D 1 2 (pos 0)) refl).0

pub returns-clause-byte_swap : goal.returns-clause-byte_swap
returns-clause-byte_swap c = sym (line_read (codes "be r3 16") (insn.ToBig width.Bits16 3) refl).0

pub returns-clause-helper : goal.returns-clause-helper
returns-clause-helper c = sym (line_read (codes "call 1") (insn.CallHelper) refl).0
