use Rattle.std.proofs.Common.{◌≡◌, sym, subst}
use Rattle.std.specs.Prelude.{IfOk}
use Rattle.bpf_bench.specs.Programs.{encoded, program_for}
use Rattle.bpf_bench.specs.declared.workload.Workload.{Workload}
use Rattle.bpf_bench.proofs.code.code_of.Goals as goal

pub returns-in-Far-clause-code : goal.returns-in-Far-clause-code
returns-in-Far-clause-code c =
    subst (λ (w : Workload). IfOk c.spread-in-Far.result (λ code. code.items ≡ encoded (program_for w))) (sym c.in-Far.is) c.spread-in-Far.ensures.code
