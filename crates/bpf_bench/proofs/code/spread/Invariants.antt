use Rattle.std.proofs.Common.{◌≡◌, ◌+◌, ◌*◌, ◌-◌, ◌++◌, length, replicate}
use Rattle.bpf_isa.specs.declared.insn.Insn.TheVariants.{Exit}
use Rattle.bpf_bench.specs.Programs.{encoded}
use Rattle.bpf_bench.proofs.Spread.{start}
use Rattle.bpf_bench.proofs.code.spread.Given as goal

abbrev pub invariant-loop : goal.invariant-loop
invariant-loop l = record {
  len : length l.code.items + 16 ≡ 8 * l.counter;
  items : l.code.items ≡ start l.low l.high ++ encoded (replicate (l.counter - 5) Exit);
}
