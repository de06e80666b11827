-- The extents so far.
use Rattle.std.proofs.Common.{◌-◌, ◌≤◌}
use Rattle.extents.proofs.Zeroed.{Zeros}
use Rattle.extents.proofs.tiles.zeroed.Given as goal

abbrev pub invariant-loop-at : goal.invariant-loop-at
invariant-loop-at l = record { low : l.at ≤ l.size; zeros : Zeros l.tiles.entries l.at }

abbrev pub decreases-loop-at : goal.decreases-loop-at
decreases-loop-at l = l.size - l.at
