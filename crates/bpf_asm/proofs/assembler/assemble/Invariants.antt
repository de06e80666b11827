use Rattle.std.proofs.Common.{length}
use Rattle.bpf_asm.specs.Assembly.{IsAssembledTo}
use Rattle.bpf_asm.proofs.assembler.assemble.Given as goal

abbrev pub invariant-lines : goal.invariant-lines
invariant-lines l = IsAssembledTo l.text.items l.rest l.code.items l.line

abbrev pub decreases-lines : goal.decreases-lines
decreases-lines l = length l.rest
