use Rattle.std.proofs.Common.{◌≡◌, ◌+◌, ◌==◌, drop}
use Rattle.std.specs.List.{common_prefix_len}
use Rattle.parts_bench.proofs.builtins.same_from_start.Given as goal

-- all bytes so far are the same
abbrev pub invariant-loop-i : goal.invariant-loop-i
invariant-loop-i l = common_prefix_len (λ x y. x == y) l.a l.b ≡ l.i + common_prefix_len (λ x y. x == y) (drop l.i l.a) (drop l.i l.b)
