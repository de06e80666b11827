use Rattle.std.proofs.Common.{◌≡◌, ◌-◌, ◌≤◌, length, sum, take}
use Rattle.device_model.specs.Builtin.{marks_of}
use Rattle.builtin_programs.proofs.classes.mark_class.Given as goal

-- what is marked so far, whole vectors of it
abbrev pub invariant-loop-at : goal.invariant-loop-at
invariant-loop-at l = record {
  inside : l.at ≤ length l.from;
  length : length l.from ≡ length l.into;
  marks : take l.at l.into ≡ marks_of l.low l.high (take l.at l.from);
  number : l.marked ≡ sum (marks_of l.low l.high (take l.at l.from));
}

abbrev pub decreases-loop-at : goal.decreases-loop-at
decreases-loop-at l = length l.from - l.at

-- what is marked so far, byte by byte
abbrev pub invariant-loop-i : goal.invariant-loop-i
invariant-loop-i l = record {
  length : length l.from ≡ length l.into;
  marks : take l.i l.into ≡ marks_of l.low l.high (take l.i l.from);
  number : l.marked ≡ sum (marks_of l.low l.high (take l.i l.from));
}
