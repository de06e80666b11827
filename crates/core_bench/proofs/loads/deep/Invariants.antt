use Rattle.std.proofs.Common.{◌≡◌, ◌+◌}
use Rattle.cp_base.specs.declared.limits.TheConstants.{MAX_NAMESPACE}
use Rattle.core_bench.specs.Loads.{IsInTurn, claims_where, plain_config}
use Rattle.core_bench.specs.Progress.{AreSent, open_on, over_on, sent_on}
use Rattle.core_bench.proofs.loads.deep.Given as goal

-- the queues are full, and as many commands are over as were sent since
abbrev pub invariant-loop-number : goal.invariant-loop-number
invariant-loop-number l = record {
  config : l.device.config ≡ plain_config MAX_NAMESPACE;
  commands : l.device.commands ≡ l.rounds + 4096;
  sent : AreSent (IsInTurn l.apart) (l.number + 4096) (sent_on l.device);
  claims : open_on l.device ≡ claims_where l.apart;
  over : over_on l.device ≡ l.number;
}
