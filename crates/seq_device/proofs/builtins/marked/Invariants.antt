use Rattle.std.proofs.Common.{◌≡◌, take}
use Rattle.device_model.specs.Builtin.{marks_of}
use Rattle.seq_device.proofs.builtins.marked.Given as goal

-- the marks so far
abbrev pub invariant-loop-byte : goal.invariant-loop-byte
invariant-loop-byte l = l.marks.items ≡ marks_of l.low l.high (take l.byte-index l.bytes)
