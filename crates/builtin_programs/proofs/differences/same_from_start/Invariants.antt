use Rattle.std.proofs.Common.{◌≡◌, ◌+◌, ◌-◌, ◌≤◌, ◌==◌, length, drop}
use Rattle.std.specs.List.{common_prefix_len}
use Rattle.builtin_programs.proofs.differences.same_from_start.Given as goal

-- all bytes so far are the same
abbrev pub invariant-loop-at : goal.invariant-loop-at
invariant-loop-at l = record {
  inside : l.at ≤ length l.a;
  same : common_prefix_len (λ x y. x == y) l.a l.b ≡ l.at + common_prefix_len (λ x y. x == y) (drop l.at l.a) (drop l.at l.b);
}

abbrev pub decreases-loop-at : goal.decreases-loop-at
decreases-loop-at l = length l.a - l.at
