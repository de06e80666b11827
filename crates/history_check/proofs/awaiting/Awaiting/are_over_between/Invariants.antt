use Rattle.std.proofs.Common.{◌-◌, ◌≤◌}
use Rattle.history_check.specs.Readiness.{AreOverBetween}
use Rattle.history_check.proofs.awaiting.Awaiting.are_over_between.Given as goal

-- all so far are over
abbrev pub invariant-loop-at : goal.invariant-loop-at
invariant-loop-at l = record {
  low : l.from ≤ l.at;
  over : AreOverBetween l.self.table l.self.over.items l.host l.from l.at;
}

abbrev pub decreases-loop-at : goal.decreases-loop-at
decreases-loop-at l = l.to - l.at
