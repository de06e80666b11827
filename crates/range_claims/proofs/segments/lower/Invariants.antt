use Rattle.std.proofs.Common.{◌≡◌, ℕ, ◌+◌, ◌-◌, ◌<◌, ◌≤◌, length, drop}
use Rattle.std.specs.Vec.{vec_capacity}
use Rattle.range_claims.specs.Changes.{lowered, lowered_from}
use Rattle.range_claims.specs.Segments.{Ascend}
use Rattle.range_claims.proofs.segments.lower.Given as goal

-- what is counted so far, with the rest of it, is what the whole is to be
abbrev pub invariant-loop-i : goal.invariant-loop-i
invariant-loop-i l = record {
  within : l.i ≤ length l.list.items;
  ascend : Ascend l.from (drop l.i l.list.items);
  done : lowered_from l.from l.to l.i l.list.items ≡ lowered l.from l.to l.fn.list.items;
  capacity : vec_capacity l.list ≡ vec_capacity l.fn.list;
}

abbrev pub decreases-loop-i : goal.decreases-loop-i
decreases-loop-i l = length l.list.items - l.i
