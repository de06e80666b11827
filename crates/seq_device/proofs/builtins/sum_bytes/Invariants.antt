use Rattle.std.proofs.Common.{◌≡◌, ◌*◌, ◌≤◌, sum, take}
use Rattle.seq_device.proofs.builtins.sum_bytes.Given as goal

-- the sum so far
abbrev pub invariant-loop-byte : goal.invariant-loop-byte
invariant-loop-byte l = (l.total ≡ sum (take l.byte-index l.bytes)) × (l.total ≤ 255 * l.byte-index)
