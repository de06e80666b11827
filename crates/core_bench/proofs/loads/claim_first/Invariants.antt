use Rattle.std.proofs.Common.{◌≡◌, ◌+◌}
use Rattle.core_bench.specs.Progress.{IsLater, open_on, over_on, sent_on}
use Rattle.core_bench.proofs.loads.claim_first.Given as goal

-- each host so far has claimed a command
abbrev pub invariant-loop-host : goal.invariant-loop-host
invariant-loop-host l = record {
  later : IsLater l.fn.device l.device;
  sent : sent_on l.device ≡ sent_on l.fn.device;
  claims : open_on l.device + 1 ≡ open_on l.fn.device + l.host;
  over : over_on l.device ≡ over_on l.fn.device;
}
