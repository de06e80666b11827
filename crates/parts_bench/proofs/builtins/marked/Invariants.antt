use Rattle.std.proofs.Common.{◌≡◌, ◌≤◌, length, sum, take}
use Rattle.device_model.specs.Builtin.{marks_of}
use Rattle.parts_bench.proofs.builtins.marked.Given as goal

-- what is marked so far
abbrev pub invariant-loop-i : goal.invariant-loop-i
invariant-loop-i l = record {
  length : length l.from ≡ length l.into;
  marks : take l.i l.into ≡ marks_of l.low l.high (take l.i l.from);
  number : l.number ≡ sum (marks_of l.low l.high (take l.i l.from));
  few : l.number ≤ l.i;
}
