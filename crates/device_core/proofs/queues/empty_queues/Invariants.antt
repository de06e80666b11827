use Rattle.std.proofs.Common.{◌≡◌, [], replicate}
use Rattle.device_core.specs.Keep.{pair_of}
use Rattle.device_core.proofs.queues.empty_queues.Given as goal

abbrev pub invariant-loop : goal.invariant-loop
invariant-loop l = l.queues.items ≡ replicate l.counter (pair_of l.depth [])
