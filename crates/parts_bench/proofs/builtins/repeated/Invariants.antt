use Rattle.std.proofs.Common.{◌≡◌, length}
use Rattle.parts_bench.proofs.builtins.repeated.Given as goal

abbrev pub invariant-loop : goal.invariant-loop
invariant-loop l = record {
  agreed : l.agreed ≡ l.counter;
  marks : length l.marks ≡ length l.bytes;
}
