use Rattle.std.proofs.Common.{◌≡◌}
use Rattle.core_bench.specs.Loads.{IsInTurn}
use Rattle.core_bench.specs.Progress.{AreSent, IsLater, open_on, over_on, sent_on}
use Rattle.core_bench.proofs.loads.fill_queues.Given as goal

-- each command so far was sent
abbrev pub invariant-loop-number : goal.invariant-loop-number
invariant-loop-number l = record {
  later : IsLater l.fn.device l.device;
  sent : AreSent (IsInTurn l.apart) l.number (sent_on l.device);
  claims : open_on l.device ≡ open_on l.fn.device;
  over : over_on l.device ≡ over_on l.fn.device;
}
