use Rattle.std.proofs.Common.{◌≡◌, drop}
use Rattle.step_driver.specs.Held.{none_by}
use Rattle.core_bench.proofs.device.none_by.Given as goal

-- none so far is that of the party
abbrev pub invariant-loop-work : goal.invariant-loop-work
invariant-loop-work l = none_by (drop l.work-index l.held) l.party ≡ none_by l.held l.party
