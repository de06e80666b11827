use Rattle.std.proofs.Common.{length}
use Rattle.range_sets.proofs.checks.+any_overlap.Given as goal

abbrev pub decreases-any_overlap : goal.decreases-any_overlap
decreases-any_overlap l = length l.ranges.now
