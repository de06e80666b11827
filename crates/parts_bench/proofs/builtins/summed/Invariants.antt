use Rattle.std.proofs.Common.{◌≡◌, ◌*◌, ◌≤◌, sum, take}
use Rattle.parts_bench.proofs.builtins.summed.Given as goal

abbrev pub invariant-loop-byte : goal.invariant-loop-byte
invariant-loop-byte l = record {
  value : l.total ≡ sum (take l.byte-index l.bytes);
  bounded : l.total ≤ 255 * l.byte-index;
}
