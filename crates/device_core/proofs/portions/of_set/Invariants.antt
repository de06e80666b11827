use Rattle.std.proofs.Common.{◌≡◌, map, take}
use Rattle.device_core.specs.Portions.{set_portion}
use Rattle.device_core.proofs.portions.of_set.Given as goal

abbrev pub invariant-loop-range : goal.invariant-loop-range
invariant-loop-range l = l.portions.items ≡ map set_portion (take l.range-index l.ranges)
