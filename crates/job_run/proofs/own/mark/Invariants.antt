use Rattle.std.proofs.Common.{◌≡◌, ◌-◌, ◌≤◌, length, sum, take}
use Rattle.cp_base.specs.Pieces.{patched}
use Rattle.device_model.specs.Builtin.{marks_of}
use Rattle.job_run.proofs.own.mark.Given as goal

-- the marks so far
abbrev pub invariant-loop-at : goal.invariant-loop-at
invariant-loop-at l = record {
  inside : l.at ≤ length l.from;
  number : l.number ≡ sum (marks_of l.low l.high (take l.at l.from));
  few : l.number ≤ l.at;
  count : length l.marks ≡ 4096;
  marked : l.into.items ≡ patched l.initial.into.items 0 (marks_of l.low l.high (take l.at l.from));
}

abbrev pub decreases-loop-at : goal.decreases-loop-at
decreases-loop-at l = length l.from - l.at
