-- What was taken away so far began between the places.
use Rattle.std.proofs.Common.{◌≡◌, length}
use Rattle.extents.specs.Tiles.{without_between}
use Rattle.extents.proofs.tiles.remove_between.Given as goal

abbrev pub invariant-loop-start : goal.invariant-loop-start
invariant-loop-start l = without_between l.from l.to l.tiles.entries ≡ without_between l.from l.to l.fn.tiles.entries

abbrev pub decreases-loop-start : goal.decreases-loop-start
decreases-loop-start l = length l.tiles.entries
