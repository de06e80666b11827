use Rattle.std.proofs.Common.{◌≡◌, length}
use Rattle.core_bench.proofs.loads.fill_alone.Given as goal

abbrev pub invariant-loop-number : goal.invariant-loop-number
invariant-loop-number l = record {
  filled : l.filled ≡ l.number;
  length : length l.bytes.items ≡ l.len;
}
