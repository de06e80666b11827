use Rattle.std.proofs.Common.{◌≡◌, map, take}
use Rattle.device_core.specs.Portions.{read_portion}
use Rattle.device_core.proofs.portions.of_reads.Given as goal

abbrev pub invariant-loop-read : goal.invariant-loop-read
invariant-loop-read l = l.portions.items ≡ map read_portion (take l.read-index l.reads)
