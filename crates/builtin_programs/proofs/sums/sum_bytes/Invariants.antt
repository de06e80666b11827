use Rattle.std.proofs.Common.{◌≡◌, ◌+◌, ◌-◌, ◌≤◌, length, sum, drop}
use Rattle.builtin_programs.proofs.sums.sum_bytes.Given as goal

-- what is summed, and what is behind it
abbrev pub invariant-loop-at : goal.invariant-loop-at
invariant-loop-at l = record {
  inside : l.at ≤ length l.bytes;
  summed : l.total + sum (drop l.at l.bytes) ≡ sum l.bytes;
}

abbrev pub decreases-loop-at : goal.decreases-loop-at
decreases-loop-at l = length l.bytes - l.at
