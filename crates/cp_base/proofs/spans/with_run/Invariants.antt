use Rattle.std.proofs.Common.{◌≡◌, ◌≤◌, ◌++◌, length, drop}
use Rattle.cp_base.specs.Runs.{with_run}
use Rattle.cp_base.specs.declared.limits.TheConstants.{MAX_RUNS}
use Rattle.cp_base.proofs.spans.with_run.Given as goal

-- the runs so far, and what is left to do
abbrev pub invariant-loop-i : goal.invariant-loop-i
invariant-loop-i l = record {
  few : length l.made.items ≤ l.i;
  capacity : l.made.capacity ≡ MAX_RUNS;
  runs : l.made.items ++ with_run l.grown (drop l.i l.runs) ≡ with_run l.fn.range l.runs;
}
