use Rattle.std.proofs.Common.{◌≡◌}
use Rattle.cp_base.specs.declared.limits.TheConstants.{MAX_NAMESPACE}
use Rattle.core_bench.specs.Loads.{IsByOne, plain_config}
use Rattle.core_bench.specs.Progress.{AreSent, open_on, over_on, sent_on}
use Rattle.core_bench.proofs.loads.one_by_one.Given as goal

-- each command so far was sent and is over
abbrev pub invariant-loop-number : goal.invariant-loop-number
invariant-loop-number l = record {
  config : l.device.config ≡ plain_config MAX_NAMESPACE;
  commands : l.device.commands ≡ l.rounds;
  sent : AreSent (IsByOne l.places) l.number (sent_on l.device);
  claims : open_on l.device ≡ 0;
  over : over_on l.device ≡ l.number;
}
