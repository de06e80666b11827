use Rattle.std.proofs.Common.{◌≡◌, ◌*◌, ◌≤◌, sum, take}
use Rattle.builtin_programs.proofs.sums.sum_plainly.Given as goal

-- the sum of the bytes so far
abbrev pub invariant-loop-byte : goal.invariant-loop-byte
invariant-loop-byte l = record {
  value : l.total ≡ sum (take l.byte-index l.bytes);
  bounded : l.total ≤ 255 * l.byte-index;
}
