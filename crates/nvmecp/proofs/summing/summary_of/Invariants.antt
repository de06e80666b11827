use Rattle.std.proofs.Common.{◌≡◌, ◌%◌, ◌^◌, ◌≤◌, take}
use Rattle.device_core.specs.Gives.{world_in}
use Rattle.nvmecp.specs.Summed.{ok_among, results_of}
use Rattle.nvmecp.proofs.summing.summary_of.Given as goal

-- the completions so far are summed up
abbrev pub invariant-loop-k : goal.invariant-loop-k
invariant-loop-k l = record {
  ok : l.ok ≡ ok_among (take l.k (world_in l.core).history);
  few : l.ok ≤ l.k;
  sum : l.sum ≡ results_of (take l.k (world_in l.core).history) % 2 ^ 64;
}
