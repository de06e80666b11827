use Rattle.std.proofs.Common.{◌≡◌, ◌+◌, ◌-◌, ◌≤◌, ◌==◌, length, count_by, drop}
use Rattle.builtin_programs.proofs.counts.count_byte.Given as goal

-- what is counted, and what is behind it
abbrev pub invariant-loop-at : goal.invariant-loop-at
invariant-loop-at l = record {
  inside : l.at ≤ length l.bytes;
  counted : l.counted + count_by (λ byte. byte == l.value) (drop l.at l.bytes) ≡ count_by (λ byte. byte == l.value) l.bytes;
}

abbrev pub decreases-loop-at : goal.decreases-loop-at
decreases-loop-at l = length l.bytes - l.at
