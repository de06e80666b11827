use Rattle.std.proofs.Common.{◌≡◌, drop}
use Rattle.cp_base.specs.Runs.{runs_of}
use Rattle.cp_base.proofs.spans.Spans.of.Given as goal

-- the runs of the ranges from here on
abbrev pub invariant-loop-i : goal.invariant-loop-i
invariant-loop-i l = l.runs.items ≡ runs_of (drop l.i l.ranges)
