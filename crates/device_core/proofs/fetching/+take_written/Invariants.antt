use Rattle.std.proofs.Common.{◌-◌, length}
use Rattle.device_core.proofs.fetching.+take_written.Given as goal

abbrev pub decreases-take_written : goal.decreases-take_written
decreases-take_written l = length l.portions.now - l.index
