-- The extents so far are a run.
use Rattle.std.proofs.Common.{◌-◌, length}
use Rattle.extents.specs.Tiles.{IsRun, all_shown}
use Rattle.extents.proofs.tiles.run_end.Given as goal

abbrev pub invariant-loop-end : goal.invariant-loop-end
invariant-loop-end l = IsRun l.tiles.entries l.at l.end

abbrev pub decreases-loop-end : goal.decreases-loop-end
decreases-loop-end l = length (all_shown l.tiles.entries) - l.end
