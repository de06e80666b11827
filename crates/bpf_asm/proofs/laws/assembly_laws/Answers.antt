use Rattle.bpf_asm.proofs.LineLaws.{line_one}
use Rattle.bpf_asm.proofs.TextLaws.{not_faulty, one_code, one_fault}
use Rattle.bpf_asm.proofs.laws.assembly_laws.Goals as goal

pub returns-clause-one_code : goal.returns-clause-one_code
returns-clause-one_code c a b = one_code a b

pub returns-clause-no_fault : goal.returns-clause-no_fault
returns-clause-no_fault c code line small well limit = not_faulty code small well limit line

pub returns-clause-one_fault : goal.returns-clause-one_fault
returns-clause-one_fault c = one_fault

pub returns-clause-one_line : goal.returns-clause-one_line
returns-clause-one_line c = line_one
