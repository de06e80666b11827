use Rattle.std.proofs.Common.{◌≡◌, ℕ, ◌+◌, ◌-◌, ◌*◌, ◌<◌, ◌≤◌, length, drop}
use Rattle.std.specs.Vec.{vec_capacity}
use Rattle.range_claims.specs.Changes.{raised, raised_from}
use Rattle.range_claims.specs.Segments.{AreSmall, Ascend, IsCut}
use Rattle.range_claims.proofs.segments.raise.Given as goal

-- what is counted so far, with the rest of it, is what the whole is to be
abbrev pub invariant-loop-i : goal.invariant-loop-i
invariant-loop-i l = record {
  within : l.i ≤ length l.list.items;
  order : l.at ≤ l.to;
  ascend : Ascend l.at (drop l.i l.list.items);
  small : AreSmall (drop l.i l.list.items);
  cut : IsCut l.to (drop l.i l.list.items);
  room : 2 * length l.list.items < vec_capacity l.list + l.i;
  done : raised_from l.space l.at l.to l.i l.list.items ≡ raised l.space l.from l.to l.fn.list.items;
  capacity : vec_capacity l.list ≡ vec_capacity l.fn.list;
}

abbrev pub decreases-loop-i : goal.decreases-loop-i
decreases-loop-i l = length l.list.items - l.i
