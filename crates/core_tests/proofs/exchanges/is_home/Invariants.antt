-- The bytes so far are at home.
use Rattle.std.proofs.Common.{ℕ, ◌≤◌, ◌<◌}
use Rattle.std.specs.Option.{IsSome}
use Rattle.extents.specs.Homes.{known_at}
use Rattle.core_tests.proofs.exchanges.is_home.Given as goal

abbrev pub invariant-loop-at : goal.invariant-loop-at
invariant-loop-at l = (k : ℕ) → l.start ≤ k → k < l.at → IsSome (known_at l.extents l.space k)
