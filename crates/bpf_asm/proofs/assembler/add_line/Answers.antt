use Rattle.std.proofs.Common.{sym}
use Rattle.bpf_asm.proofs.TextLaws.{adds_ok, fault_is, refused_none, refused_some}
use Rattle.bpf_asm.proofs.assembler.add_line.Goals as goal

pub returns-in-Some-clause-added : goal.returns-in-Some-clause-added
returns-in-Some-clause-added c =
    adds_ok c.add_insn.result c.args.line.now c.args.code.now.items c.add_insn.new.code.items c.in-Some.insn c.in-Some.ensures c.add_insn.ensures.added c.add_insn.ensures.limit

pub returns-in-Some-clause-fault : goal.returns-in-Some-clause-fault
returns-in-Some-clause-fault c n e =
    let f = c.add_insn.ensures.fault n e in
    (f.0, refused_some c.args.line.now c.args.code.now.items c.in-Some.insn c.in-Some.ensures f.1)

pub returns-in-None-clause-fault : goal.returns-in-None-clause-fault
returns-in-None-clause-fault c n e = (sym (fault_is c.args.number n (cc)), refused_none c.args.line.now c.args.code.now.items c.in-None.ensures)
