use Rattle.std.proofs.Common.{◌≡◌, take}
use Rattle.cp_base.specs.Contents.{joined}
use Rattle.seq_device.proofs.device.SeqDevice.gather.Given as goal

-- the bytes of the ranges so far
abbrev pub invariant-loop-range : goal.invariant-loop-range
invariant-loop-range l = l.bytes.items ≡ joined l.self.state.contents (take l.range-index l.ranges)
