-- The extents so far are a run.
use Rattle.extents.specs.Tiles.{IsRun}
use Rattle.extents.proofs.tiles.run_start.Given as goal

abbrev pub invariant-loop-start : goal.invariant-loop-start
invariant-loop-start l = IsRun l.tiles.entries l.start l.at

abbrev pub decreases-loop-start : goal.decreases-loop-start
decreases-loop-start l = l.start
